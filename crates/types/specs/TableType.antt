-- WebAssembly Core Specification 3.0, Validation, Types and Matching, table types; document 01, "Types".
use Rattle.std.specs.Prelude.{ℕ, ◌-◌, Bool, Ok, Err, Result}
use Rattle.types.specs.{Pick.pick, Pick.both, IndexType.max_size, IndexType.index_of, IndexType.same_index, Limits.valid_limits}
use Rattle.types.specs.{Limits.match_limits, Limits.from_minimum, Raw.same_kind, Answer.refusal}
use Rattle.types.specs.declared.{limits.Limits.Limits, raw.RefType.RefType, table_ty.TableType.TableType}
use Rattle.types.specs.declared.answer.Refusal.{Refusal}

-- the most cells: 2^N - 1
unfoldable pub table_bound : TableType → ℕ
table_bound t = max_size t.index - 1

-- minimum and maximum may equal the most cells
unfoldable pub valid_table : TableType → Bool
valid_table t = valid_limits t.limits (table_bound t)

-- the type of these fields
abbrev pub table_type : RefType → Bool → Limits → TableType
table_type k wide l = record { element = k; index = index_of wide; limits = l }

-- a valid type, or 1
unfoldable pub validated : TableType → Result TableType Refusal
validated t = pick (valid_table t) (Ok t) (Err (refusal 1 0))

-- the type of these fields, or 1
unfoldable pub build_table : RefType → Bool → Limits → Result TableType Refusal
build_table k wide l = validated (table_type k wide l)

-- whether a reference of this kind may stand in the table; else 14
unfoldable pub element_matches : TableType → RefType → Bool
element_matches t k = same_kind t.element k

-- a is a subtype of b: same index type, same element kind, matching limits
unfoldable pub match_table : TableType → TableType → Bool
match_table a b =
    both (same_index a.index b.index)
    (both (same_kind a.element b.element) (match_limits a.limits b.limits))

-- the dynamic type has the present size as minimum
unfoldable pub dynamic_table : TableType → ℕ → TableType
dynamic_table t n = record { element = t.element; index = t.index; limits = from_minimum t.limits n }
