-- What the crates above name of this one, passed on by file; nothing is defined here.
use Rattle.types.specs.declared
pub use Rattle.types.specs.Numbers.{word8, word32, word64}
pub use Rattle.types.specs.Pick.{pick, unless, both}
pub use Rattle.types.specs.Done.{Done, done, span_done}
pub use Rattle.types.specs.Answer.{float32, float64, bits_of, refusal, refuse, accept, number_of, shown_of}
pub use Rattle.types.specs.Price.{price}
pub use Rattle.types.specs.Fuel.{default_costs, new_fuel, left, short, paid, set_fuel, get_fuel, consume_unchecked, consume, consume_if}
pub use Rattle.types.specs.Limiter.{longest_script, limiter_of, no_limiter, says_of, moved, heard_of, noticed, well_formed, hand_over}
pub use Rattle.types.specs.Span.{inside, cut, over}
pub use Rattle.types.specs.IndexType.{max_size, is64, index_of}
pub use Rattle.types.specs.Limits.{admits_of}
pub use Rattle.types.specs.MemoryType.{page_bytes, page_bound, valid_memory, memory_type, valid_exponent, page_of, build_memory, match_memory, dynamic_memory}
pub use Rattle.types.specs.Raw.{typed_of, null_of, raw_bytes}
pub use Rattle.types.specs.TableType.{table_bound, valid_table, table_type, element_matches}
pub use Rattle.types.specs.Answer.{Answer}
pub use declared.{answer.Refusal.Refusal, answer.Value.Value, fuel.Fuel.Fuel, fuel.FuelCosts.FuelCosts}
pub use declared.{limiter.HandedOver.HandedOver, limiter.Limiter.Limiter, memory_ty.MemoryType.MemoryType}
pub use declared.{memory_ty.PageSize.PageSize, memory_ty.WantedMemory.WantedMemory, grant.Spanned.Spanned, span.CopySpan.CopySpan}
pub use declared.{span.FillSpan.FillSpan, raw.RefType.RefType, raw.TypedRawRef.TypedRawRef, table_ty.TableType.TableType}
pub use declared.{table_ty.WantedTable.WantedTable, index_ty.IndexType.IndexType, limits.Limits.Limits}
