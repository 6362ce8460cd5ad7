-- Uniqueness: each public function's contract names one answer, and one content of what it is lent to write, for each input. Assumes nothing.
use mathlib.Core.Path.{sym, ◌∙◌}
use Rattle.types.proofs.One.{One}
use Rattle.types.proofs.answer.Value.from_f32_bits.Reads as value_from_f32_bits_reads
use Rattle.types.proofs.answer.Value.from_f32_bits.Kinds as value_from_f32_bits_kinds
use Rattle.types.proofs.answer.Value.from_f64_bits.Reads as value_from_f64_bits_reads
use Rattle.types.proofs.answer.Value.from_f64_bits.Kinds as value_from_f64_bits_kinds
use Rattle.types.proofs.answer.Value.bits.Reads as value_bits_reads
use Rattle.types.proofs.answer.Value.bits.Kinds as value_bits_kinds
use Rattle.types.proofs.answer.RefusalFromReason.from.Reads as refusal_from_reads
use Rattle.types.proofs.answer.RefusalFromReason.from.Kinds as refusal_from_kinds
use Rattle.types.proofs.answer.number.Reads as answer_number_reads
use Rattle.types.proofs.answer.number.Kinds as answer_number_kinds
use Rattle.types.proofs.answer.shown.Reads as answer_shown_reads
use Rattle.types.proofs.answer.shown.Kinds as answer_shown_kinds
use Rattle.types.proofs.fuel.saturating_mul.Reads as fuel_saturating_mul_reads
use Rattle.types.proofs.fuel.saturating_mul.Kinds as fuel_saturating_mul_kinds
use Rattle.types.proofs.fuel.FuelCosts.default_costs.Reads as fuel_costs_default_costs_reads
use Rattle.types.proofs.fuel.FuelCosts.default_costs.Kinds as fuel_costs_default_costs_kinds
use Rattle.types.proofs.fuel.FuelCosts.fuel_for_copying_bytes.Reads as fuel_costs_fuel_for_copying_bytes_reads
use Rattle.types.proofs.fuel.FuelCosts.fuel_for_copying_bytes.Kinds as fuel_costs_fuel_for_copying_bytes_kinds
use Rattle.types.proofs.fuel.FuelCosts.fuel_for_copying_values.Reads as fuel_costs_fuel_for_copying_values_reads
use Rattle.types.proofs.fuel.FuelCosts.fuel_for_copying_values.Kinds as fuel_costs_fuel_for_copying_values_kinds
use Rattle.types.proofs.fuel.FuelCosts.fuel_for_translating_bytes.Reads as fuel_costs_fuel_for_translating_bytes_reads
use Rattle.types.proofs.fuel.FuelCosts.fuel_for_translating_bytes.Kinds as fuel_costs_fuel_for_translating_bytes_kinds
use Rattle.types.proofs.fuel.FuelCosts.fuel_for_validating_bytes.Reads as fuel_costs_fuel_for_validating_bytes_reads
use Rattle.types.proofs.fuel.FuelCosts.fuel_for_validating_bytes.Kinds as fuel_costs_fuel_for_validating_bytes_kinds
use Rattle.types.proofs.fuel.Fuel.new.Reads as fuel_new_reads
use Rattle.types.proofs.fuel.Fuel.new.Kinds as fuel_new_kinds
use Rattle.types.proofs.fuel.Fuel.set_fuel.Reads as fuel_set_fuel_reads
use Rattle.types.proofs.fuel.Fuel.set_fuel.Kinds as fuel_set_fuel_kinds
use Rattle.types.proofs.fuel.Fuel.get_fuel.Reads as fuel_get_fuel_reads
use Rattle.types.proofs.fuel.Fuel.get_fuel.Kinds as fuel_get_fuel_kinds
use Rattle.types.proofs.fuel.Fuel.consume_fuel_unchecked.Reads as fuel_consume_fuel_unchecked_reads
use Rattle.types.proofs.fuel.Fuel.consume_fuel_unchecked.Kinds as fuel_consume_fuel_unchecked_kinds
use Rattle.types.proofs.fuel.Fuel.consume_fuel.Reads as fuel_consume_fuel_reads
use Rattle.types.proofs.fuel.Fuel.consume_fuel.Kinds as fuel_consume_fuel_kinds
use Rattle.types.proofs.fuel.Fuel.consume_fuel_if.Reads as fuel_consume_fuel_if_reads
use Rattle.types.proofs.fuel.Fuel.consume_fuel_if.Kinds as fuel_consume_fuel_if_kinds
use Rattle.types.proofs.grant.grant_creation.Reads as grant_grant_creation_reads
use Rattle.types.proofs.grant.grant_creation.Kinds as grant_grant_creation_kinds
use Rattle.types.proofs.grant.grant_growth.Reads as grant_grant_growth_reads
use Rattle.types.proofs.grant.grant_growth.Kinds as grant_grant_growth_kinds
use Rattle.types.proofs.grant.grant_span.Reads as grant_grant_span_reads
use Rattle.types.proofs.grant.grant_span.Kinds as grant_grant_span_kinds
use Rattle.types.proofs.limiter.Limiter.none.Reads as limiter_none_reads
use Rattle.types.proofs.limiter.Limiter.none.Kinds as limiter_none_kinds
use Rattle.types.proofs.limiter.Limiter.says.Reads as limiter_says_reads
use Rattle.types.proofs.limiter.Limiter.says.Kinds as limiter_says_kinds
use Rattle.types.proofs.limiter.Limiter.moved.Reads as limiter_moved_reads
use Rattle.types.proofs.limiter.Limiter.moved.Kinds as limiter_moved_kinds
use Rattle.types.proofs.limiter.Limiter.ask.Reads as limiter_ask_reads
use Rattle.types.proofs.limiter.Limiter.ask.Kinds as limiter_ask_kinds
use Rattle.types.proofs.limiter.Limiter.notify.Reads as limiter_notify_reads
use Rattle.types.proofs.limiter.Limiter.notify.Kinds as limiter_notify_kinds
use Rattle.types.proofs.limiter.Limiter.hand_over.Reads as limiter_hand_over_reads
use Rattle.types.proofs.limiter.Limiter.hand_over.Kinds as limiter_hand_over_kinds
use Rattle.types.proofs.span.within.Reads as span_within_reads
use Rattle.types.proofs.span.within.Kinds as span_within_kinds
use Rattle.types.proofs.index_ty.IndexType.of.Reads as index_type_of_reads
use Rattle.types.proofs.index_ty.IndexType.of.Kinds as index_type_of_kinds
use Rattle.types.proofs.index_ty.IndexType.is_64.Reads as index_type_is_64_reads
use Rattle.types.proofs.index_ty.IndexType.is_64.Kinds as index_type_is_64_kinds
use Rattle.types.proofs.index_ty.IndexType.same.Reads as index_type_same_reads
use Rattle.types.proofs.index_ty.IndexType.same.Kinds as index_type_same_kinds
use Rattle.types.proofs.index_ty.IndexType.min.Reads as index_type_min_reads
use Rattle.types.proofs.index_ty.IndexType.min.Kinds as index_type_min_kinds
use Rattle.types.proofs.index_ty.IndexType.max_size.Reads as index_type_max_size_reads
use Rattle.types.proofs.index_ty.IndexType.max_size.Kinds as index_type_max_size_kinds
use Rattle.types.proofs.limits.Limits.valid_within.Reads as limits_valid_within_reads
use Rattle.types.proofs.limits.Limits.valid_within.Kinds as limits_valid_within_kinds
use Rattle.types.proofs.limits.Limits.matches.Reads as limits_matches_reads
use Rattle.types.proofs.limits.Limits.matches.Kinds as limits_matches_kinds
use Rattle.types.proofs.limits.Limits.admits.Reads as limits_admits_reads
use Rattle.types.proofs.limits.Limits.admits.Kinds as limits_admits_kinds
use Rattle.types.proofs.limits.Limits.from.Reads as limits_from_reads
use Rattle.types.proofs.limits.Limits.from.Kinds as limits_from_kinds
use Rattle.types.proofs.memory_ty.PageSize.page_size_log2.Reads as page_size_page_size_log2_reads
use Rattle.types.proofs.memory_ty.PageSize.page_size_log2.Kinds as page_size_page_size_log2_kinds
use Rattle.types.proofs.memory_ty.PageSize.page_size.Reads as page_size_page_size_reads
use Rattle.types.proofs.memory_ty.PageSize.page_size.Kinds as page_size_page_size_kinds
use Rattle.types.proofs.memory_ty.PageSize.same.Reads as page_size_same_reads
use Rattle.types.proofs.memory_ty.PageSize.same.Kinds as page_size_same_kinds
use Rattle.types.proofs.memory_ty.PageSize.byte_size.Reads as page_size_byte_size_reads
use Rattle.types.proofs.memory_ty.PageSize.byte_size.Kinds as page_size_byte_size_kinds
use Rattle.types.proofs.memory_ty.MemoryType.build.Reads as memory_type_build_reads
use Rattle.types.proofs.memory_ty.MemoryType.build.Kinds as memory_type_build_kinds
use Rattle.types.proofs.memory_ty.MemoryType.validated.Reads as memory_type_validated_reads
use Rattle.types.proofs.memory_ty.MemoryType.validated.Kinds as memory_type_validated_kinds
use Rattle.types.proofs.memory_ty.MemoryType.is_valid.Reads as memory_type_is_valid_reads
use Rattle.types.proofs.memory_ty.MemoryType.is_valid.Kinds as memory_type_is_valid_kinds
use Rattle.types.proofs.memory_ty.MemoryType.absolute_max.Reads as memory_type_absolute_max_reads
use Rattle.types.proofs.memory_ty.MemoryType.absolute_max.Kinds as memory_type_absolute_max_kinds
use Rattle.types.proofs.memory_ty.MemoryType.minimum_byte_size.Reads as memory_type_minimum_byte_size_reads
use Rattle.types.proofs.memory_ty.MemoryType.minimum_byte_size.Kinds as memory_type_minimum_byte_size_kinds
use Rattle.types.proofs.memory_ty.MemoryType.maximum_byte_size.Reads as memory_type_maximum_byte_size_reads
use Rattle.types.proofs.memory_ty.MemoryType.maximum_byte_size.Kinds as memory_type_maximum_byte_size_kinds
use Rattle.types.proofs.memory_ty.MemoryType.is_subtype_of.Reads as memory_type_is_subtype_of_reads
use Rattle.types.proofs.memory_ty.MemoryType.is_subtype_of.Kinds as memory_type_is_subtype_of_kinds
use Rattle.types.proofs.memory_ty.MemoryType.dynamic_ty.Reads as memory_type_dynamic_ty_reads
use Rattle.types.proofs.memory_ty.MemoryType.dynamic_ty.Kinds as memory_type_dynamic_ty_kinds
use Rattle.types.proofs.raw.RefType.same.Reads as ref_type_same_reads
use Rattle.types.proofs.raw.RefType.same.Kinds as ref_type_same_kinds
use Rattle.types.proofs.raw.RawRef.null.Reads as raw_ref_null_reads
use Rattle.types.proofs.raw.RawRef.null.Kinds as raw_ref_null_kinds
use Rattle.types.proofs.raw.RawRef.is_null.Reads as raw_ref_is_null_reads
use Rattle.types.proofs.raw.RawRef.is_null.Kinds as raw_ref_is_null_kinds
use Rattle.types.proofs.raw.RawRef.size.Reads as raw_ref_size_reads
use Rattle.types.proofs.raw.RawRef.size.Kinds as raw_ref_size_kinds
use Rattle.types.proofs.raw.TypedRawRef.new.Reads as typed_raw_ref_new_reads
use Rattle.types.proofs.raw.TypedRawRef.new.Kinds as typed_raw_ref_new_kinds
use Rattle.types.proofs.raw.TypedRawRef.null.Reads as typed_raw_ref_null_reads
use Rattle.types.proofs.raw.TypedRawRef.null.Kinds as typed_raw_ref_null_kinds
use Rattle.types.proofs.table_ty.TableType.build.Reads as table_type_build_reads
use Rattle.types.proofs.table_ty.TableType.build.Kinds as table_type_build_kinds
use Rattle.types.proofs.table_ty.TableType.validated.Reads as table_type_validated_reads
use Rattle.types.proofs.table_ty.TableType.validated.Kinds as table_type_validated_kinds
use Rattle.types.proofs.table_ty.TableType.is_valid.Reads as table_type_is_valid_reads
use Rattle.types.proofs.table_ty.TableType.is_valid.Kinds as table_type_is_valid_kinds
use Rattle.types.proofs.table_ty.TableType.absolute_max.Reads as table_type_absolute_max_reads
use Rattle.types.proofs.table_ty.TableType.absolute_max.Kinds as table_type_absolute_max_kinds
use Rattle.types.proofs.table_ty.TableType.element_matches.Reads as table_type_element_matches_reads
use Rattle.types.proofs.table_ty.TableType.element_matches.Kinds as table_type_element_matches_kinds
use Rattle.types.proofs.table_ty.TableType.is_subtype_of.Reads as table_type_is_subtype_of_reads
use Rattle.types.proofs.table_ty.TableType.is_subtype_of.Kinds as table_type_is_subtype_of_kinds
use Rattle.types.proofs.table_ty.TableType.dynamic_ty.Reads as table_type_dynamic_ty_reads
use Rattle.types.proofs.table_ty.TableType.dynamic_ty.Kinds as table_type_dynamic_ty_kinds
use Rattle.types.proofs.wide.Wide.covers.Reads as wide_covers_reads
use Rattle.types.proofs.wide.Wide.covers.Kinds as wide_covers_kinds
use Rattle.types.proofs.wide.Wide.exceeds.Reads as wide_exceeds_reads
use Rattle.types.proofs.wide.Wide.exceeds.Kinds as wide_exceeds_kinds

pub value_from_f32_bits_one : One 0 value_from_f32_bits_kinds.ps value_from_f32_bits_kinds.r value_from_f32_bits_reads.Pre value_from_f32_bits_reads.Post
value_from_f32_bits_one κs a x x' s s' z p q = p ∙ sym q

pub value_from_f64_bits_one : One 0 value_from_f64_bits_kinds.ps value_from_f64_bits_kinds.r value_from_f64_bits_reads.Pre value_from_f64_bits_reads.Post
value_from_f64_bits_one κs a x x' s s' z p q = p ∙ sym q

pub value_bits_one : One 0 value_bits_kinds.ps value_bits_kinds.r value_bits_reads.Pre value_bits_reads.Post
value_bits_one κs a x x' s s' z p q = p ∙ sym q

pub refusal_from_one : One 0 refusal_from_kinds.ps refusal_from_kinds.r refusal_from_reads.Pre refusal_from_reads.Post
refusal_from_one κs a x x' s s' z p q = p ∙ sym q

pub answer_number_one : One 0 answer_number_kinds.ps answer_number_kinds.r answer_number_reads.Pre answer_number_reads.Post
answer_number_one κs a x x' s s' z p q = p ∙ sym q

pub answer_shown_one : One 0 answer_shown_kinds.ps answer_shown_kinds.r answer_shown_reads.Pre answer_shown_reads.Post
answer_shown_one κs a x x' s s' z p q = p ∙ sym q

pub fuel_saturating_mul_one : One 0 fuel_saturating_mul_kinds.ps fuel_saturating_mul_kinds.r fuel_saturating_mul_reads.Pre fuel_saturating_mul_reads.Post
fuel_saturating_mul_one κs a x x' s s' z p q = p ∙ sym q

pub fuel_costs_default_costs_one : One 0 fuel_costs_default_costs_kinds.ps fuel_costs_default_costs_kinds.r fuel_costs_default_costs_reads.Pre fuel_costs_default_costs_reads.Post
fuel_costs_default_costs_one κs a x x' s s' z p q = p ∙ sym q

pub fuel_costs_fuel_for_copying_bytes_one : One 0 fuel_costs_fuel_for_copying_bytes_kinds.ps fuel_costs_fuel_for_copying_bytes_kinds.r fuel_costs_fuel_for_copying_bytes_reads.Pre fuel_costs_fuel_for_copying_bytes_reads.Post
fuel_costs_fuel_for_copying_bytes_one κs a x x' s s' z p q = p ∙ sym q

pub fuel_costs_fuel_for_copying_values_one : One 0 fuel_costs_fuel_for_copying_values_kinds.ps fuel_costs_fuel_for_copying_values_kinds.r fuel_costs_fuel_for_copying_values_reads.Pre fuel_costs_fuel_for_copying_values_reads.Post
fuel_costs_fuel_for_copying_values_one κs a x x' s s' z p q = p ∙ sym q

pub fuel_costs_fuel_for_translating_bytes_one : One 0 fuel_costs_fuel_for_translating_bytes_kinds.ps fuel_costs_fuel_for_translating_bytes_kinds.r fuel_costs_fuel_for_translating_bytes_reads.Pre fuel_costs_fuel_for_translating_bytes_reads.Post
fuel_costs_fuel_for_translating_bytes_one κs a x x' s s' z p q = p ∙ sym q

pub fuel_costs_fuel_for_validating_bytes_one : One 0 fuel_costs_fuel_for_validating_bytes_kinds.ps fuel_costs_fuel_for_validating_bytes_kinds.r fuel_costs_fuel_for_validating_bytes_reads.Pre fuel_costs_fuel_for_validating_bytes_reads.Post
fuel_costs_fuel_for_validating_bytes_one κs a x x' s s' z p q = p ∙ sym q

pub fuel_new_one : One 0 fuel_new_kinds.ps fuel_new_kinds.r fuel_new_reads.Pre fuel_new_reads.Post
fuel_new_one κs a x x' s s' z p q = p ∙ sym q

pub fuel_set_fuel_one : One 0 fuel_set_fuel_kinds.ps fuel_set_fuel_kinds.r fuel_set_fuel_reads.Pre fuel_set_fuel_reads.Post
fuel_set_fuel_one κs a x x' s s' z p q = p ∙ sym q

pub fuel_get_fuel_one : One 0 fuel_get_fuel_kinds.ps fuel_get_fuel_kinds.r fuel_get_fuel_reads.Pre fuel_get_fuel_reads.Post
fuel_get_fuel_one κs a x x' s s' z p q = p ∙ sym q

pub fuel_consume_fuel_unchecked_one : One 0 fuel_consume_fuel_unchecked_kinds.ps fuel_consume_fuel_unchecked_kinds.r fuel_consume_fuel_unchecked_reads.Pre fuel_consume_fuel_unchecked_reads.Post
fuel_consume_fuel_unchecked_one κs a x x' s s' z p q = p ∙ sym q

pub fuel_consume_fuel_one : One 0 fuel_consume_fuel_kinds.ps fuel_consume_fuel_kinds.r fuel_consume_fuel_reads.Pre fuel_consume_fuel_reads.Post
fuel_consume_fuel_one κs a x x' s s' z p q = p ∙ sym q

pub fuel_consume_fuel_if_one : One 0 fuel_consume_fuel_if_kinds.ps fuel_consume_fuel_if_kinds.r fuel_consume_fuel_if_reads.Pre fuel_consume_fuel_if_reads.Post
fuel_consume_fuel_if_one κs a x x' s s' z p q = p ∙ sym q

pub grant_grant_creation_one : One 0 grant_grant_creation_kinds.ps grant_grant_creation_kinds.r grant_grant_creation_reads.Pre grant_grant_creation_reads.Post
grant_grant_creation_one κs a x x' s s' z p q = p ∙ sym q

pub grant_grant_growth_one : One 0 grant_grant_growth_kinds.ps grant_grant_growth_kinds.r grant_grant_growth_reads.Pre grant_grant_growth_reads.Post
grant_grant_growth_one κs a x x' s s' z p q = p ∙ sym q

pub grant_grant_span_one : One 0 grant_grant_span_kinds.ps grant_grant_span_kinds.r grant_grant_span_reads.Pre grant_grant_span_reads.Post
grant_grant_span_one κs a x x' s s' z p q = p ∙ sym q

pub limiter_none_one : One 0 limiter_none_kinds.ps limiter_none_kinds.r limiter_none_reads.Pre limiter_none_reads.Post
limiter_none_one κs a x x' s s' z p q = p ∙ sym q

pub limiter_says_one : One 0 limiter_says_kinds.ps limiter_says_kinds.r limiter_says_reads.Pre limiter_says_reads.Post
limiter_says_one κs a x x' s s' z p q = p ∙ sym q

pub limiter_moved_one : One 0 limiter_moved_kinds.ps limiter_moved_kinds.r limiter_moved_reads.Pre limiter_moved_reads.Post
limiter_moved_one κs a x x' s s' z p q = p ∙ sym q

pub limiter_ask_one : One 0 limiter_ask_kinds.ps limiter_ask_kinds.r limiter_ask_reads.Pre limiter_ask_reads.Post
limiter_ask_one κs a x x' s s' z p q = p ∙ sym q

pub limiter_notify_one : One 0 limiter_notify_kinds.ps limiter_notify_kinds.r limiter_notify_reads.Pre limiter_notify_reads.Post
limiter_notify_one κs a x x' s s' z p q = p ∙ sym q

pub limiter_hand_over_one : One 1 limiter_hand_over_kinds.ps limiter_hand_over_kinds.r limiter_hand_over_reads.Pre limiter_hand_over_reads.Post
limiter_hand_over_one κs a x x' s s' z p q = p ∙ sym q

pub span_within_one : One 0 span_within_kinds.ps span_within_kinds.r span_within_reads.Pre span_within_reads.Post
span_within_one κs a x x' s s' z p q = p ∙ sym q

pub index_type_of_one : One 0 index_type_of_kinds.ps index_type_of_kinds.r index_type_of_reads.Pre index_type_of_reads.Post
index_type_of_one κs a x x' s s' z p q = p ∙ sym q

pub index_type_is_64_one : One 0 index_type_is_64_kinds.ps index_type_is_64_kinds.r index_type_is_64_reads.Pre index_type_is_64_reads.Post
index_type_is_64_one κs a x x' s s' z p q = p ∙ sym q

pub index_type_same_one : One 0 index_type_same_kinds.ps index_type_same_kinds.r index_type_same_reads.Pre index_type_same_reads.Post
index_type_same_one κs a x x' s s' z p q = p ∙ sym q

pub index_type_min_one : One 0 index_type_min_kinds.ps index_type_min_kinds.r index_type_min_reads.Pre index_type_min_reads.Post
index_type_min_one κs a x x' s s' z p q = p ∙ sym q

pub index_type_max_size_one : One 0 index_type_max_size_kinds.ps index_type_max_size_kinds.r index_type_max_size_reads.Pre index_type_max_size_reads.Post
index_type_max_size_one κs a x x' s s' z p q = p ∙ sym q

pub limits_valid_within_one : One 0 limits_valid_within_kinds.ps limits_valid_within_kinds.r limits_valid_within_reads.Pre limits_valid_within_reads.Post
limits_valid_within_one κs a x x' s s' z p q = p ∙ sym q

pub limits_matches_one : One 0 limits_matches_kinds.ps limits_matches_kinds.r limits_matches_reads.Pre limits_matches_reads.Post
limits_matches_one κs a x x' s s' z p q = p ∙ sym q

pub limits_admits_one : One 0 limits_admits_kinds.ps limits_admits_kinds.r limits_admits_reads.Pre limits_admits_reads.Post
limits_admits_one κs a x x' s s' z p q = p ∙ sym q

pub limits_from_one : One 0 limits_from_kinds.ps limits_from_kinds.r limits_from_reads.Pre limits_from_reads.Post
limits_from_one κs a x x' s s' z p q = p ∙ sym q

pub page_size_page_size_log2_one : One 0 page_size_page_size_log2_kinds.ps page_size_page_size_log2_kinds.r page_size_page_size_log2_reads.Pre page_size_page_size_log2_reads.Post
page_size_page_size_log2_one κs a x x' s s' z p q = p ∙ sym q

pub page_size_page_size_one : One 0 page_size_page_size_kinds.ps page_size_page_size_kinds.r page_size_page_size_reads.Pre page_size_page_size_reads.Post
page_size_page_size_one κs a x x' s s' z p q = p ∙ sym q

pub page_size_same_one : One 0 page_size_same_kinds.ps page_size_same_kinds.r page_size_same_reads.Pre page_size_same_reads.Post
page_size_same_one κs a x x' s s' z p q = p ∙ sym q

pub page_size_byte_size_one : One 0 page_size_byte_size_kinds.ps page_size_byte_size_kinds.r page_size_byte_size_reads.Pre page_size_byte_size_reads.Post
page_size_byte_size_one κs a x x' s s' z p q = p ∙ sym q

pub memory_type_build_one : One 0 memory_type_build_kinds.ps memory_type_build_kinds.r memory_type_build_reads.Pre memory_type_build_reads.Post
memory_type_build_one κs a x x' s s' z p q = p ∙ sym q

pub memory_type_validated_one : One 0 memory_type_validated_kinds.ps memory_type_validated_kinds.r memory_type_validated_reads.Pre memory_type_validated_reads.Post
memory_type_validated_one κs a x x' s s' z p q = p ∙ sym q

pub memory_type_is_valid_one : One 0 memory_type_is_valid_kinds.ps memory_type_is_valid_kinds.r memory_type_is_valid_reads.Pre memory_type_is_valid_reads.Post
memory_type_is_valid_one κs a x x' s s' z p q = p ∙ sym q

pub memory_type_absolute_max_one : One 0 memory_type_absolute_max_kinds.ps memory_type_absolute_max_kinds.r memory_type_absolute_max_reads.Pre memory_type_absolute_max_reads.Post
memory_type_absolute_max_one κs a x x' s s' z p q = p ∙ sym q

pub memory_type_minimum_byte_size_one : One 0 memory_type_minimum_byte_size_kinds.ps memory_type_minimum_byte_size_kinds.r memory_type_minimum_byte_size_reads.Pre memory_type_minimum_byte_size_reads.Post
memory_type_minimum_byte_size_one κs a x x' s s' z p q = p ∙ sym q

pub memory_type_maximum_byte_size_one : One 0 memory_type_maximum_byte_size_kinds.ps memory_type_maximum_byte_size_kinds.r memory_type_maximum_byte_size_reads.Pre memory_type_maximum_byte_size_reads.Post
memory_type_maximum_byte_size_one κs a x x' s s' z p q = p ∙ sym q

pub memory_type_is_subtype_of_one : One 0 memory_type_is_subtype_of_kinds.ps memory_type_is_subtype_of_kinds.r memory_type_is_subtype_of_reads.Pre memory_type_is_subtype_of_reads.Post
memory_type_is_subtype_of_one κs a x x' s s' z p q = p ∙ sym q

pub memory_type_dynamic_ty_one : One 0 memory_type_dynamic_ty_kinds.ps memory_type_dynamic_ty_kinds.r memory_type_dynamic_ty_reads.Pre memory_type_dynamic_ty_reads.Post
memory_type_dynamic_ty_one κs a x x' s s' z p q = p ∙ sym q

pub ref_type_same_one : One 0 ref_type_same_kinds.ps ref_type_same_kinds.r ref_type_same_reads.Pre ref_type_same_reads.Post
ref_type_same_one κs a x x' s s' z p q = p ∙ sym q

pub raw_ref_null_one : One 0 raw_ref_null_kinds.ps raw_ref_null_kinds.r raw_ref_null_reads.Pre raw_ref_null_reads.Post
raw_ref_null_one κs a x x' s s' z p q = p ∙ sym q

pub raw_ref_is_null_one : One 0 raw_ref_is_null_kinds.ps raw_ref_is_null_kinds.r raw_ref_is_null_reads.Pre raw_ref_is_null_reads.Post
raw_ref_is_null_one κs a x x' s s' z p q = p ∙ sym q

pub raw_ref_size_one : One 0 raw_ref_size_kinds.ps raw_ref_size_kinds.r raw_ref_size_reads.Pre raw_ref_size_reads.Post
raw_ref_size_one κs a x x' s s' z p q = p ∙ sym q

pub typed_raw_ref_new_one : One 0 typed_raw_ref_new_kinds.ps typed_raw_ref_new_kinds.r typed_raw_ref_new_reads.Pre typed_raw_ref_new_reads.Post
typed_raw_ref_new_one κs a x x' s s' z p q = p ∙ sym q

pub typed_raw_ref_null_one : One 0 typed_raw_ref_null_kinds.ps typed_raw_ref_null_kinds.r typed_raw_ref_null_reads.Pre typed_raw_ref_null_reads.Post
typed_raw_ref_null_one κs a x x' s s' z p q = p ∙ sym q

pub table_type_build_one : One 0 table_type_build_kinds.ps table_type_build_kinds.r table_type_build_reads.Pre table_type_build_reads.Post
table_type_build_one κs a x x' s s' z p q = p ∙ sym q

pub table_type_validated_one : One 0 table_type_validated_kinds.ps table_type_validated_kinds.r table_type_validated_reads.Pre table_type_validated_reads.Post
table_type_validated_one κs a x x' s s' z p q = p ∙ sym q

pub table_type_is_valid_one : One 0 table_type_is_valid_kinds.ps table_type_is_valid_kinds.r table_type_is_valid_reads.Pre table_type_is_valid_reads.Post
table_type_is_valid_one κs a x x' s s' z p q = p ∙ sym q

pub table_type_absolute_max_one : One 0 table_type_absolute_max_kinds.ps table_type_absolute_max_kinds.r table_type_absolute_max_reads.Pre table_type_absolute_max_reads.Post
table_type_absolute_max_one κs a x x' s s' z p q = p ∙ sym q

pub table_type_element_matches_one : One 0 table_type_element_matches_kinds.ps table_type_element_matches_kinds.r table_type_element_matches_reads.Pre table_type_element_matches_reads.Post
table_type_element_matches_one κs a x x' s s' z p q = p ∙ sym q

pub table_type_is_subtype_of_one : One 0 table_type_is_subtype_of_kinds.ps table_type_is_subtype_of_kinds.r table_type_is_subtype_of_reads.Pre table_type_is_subtype_of_reads.Post
table_type_is_subtype_of_one κs a x x' s s' z p q = p ∙ sym q

pub table_type_dynamic_ty_one : One 0 table_type_dynamic_ty_kinds.ps table_type_dynamic_ty_kinds.r table_type_dynamic_ty_reads.Pre table_type_dynamic_ty_reads.Post
table_type_dynamic_ty_one κs a x x' s s' z p q = p ∙ sym q

pub wide_covers_one : One 0 wide_covers_kinds.ps wide_covers_kinds.r wide_covers_reads.Pre wide_covers_reads.Post
wide_covers_one κs a x x' s s' z p q = p ∙ sym q

pub wide_exceeds_one : One 0 wide_exceeds_kinds.ps wide_exceeds_kinds.r wide_exceeds_reads.Pre wide_exceeds_reads.Post
wide_exceeds_one κs a x x' s s' z p q = p ∙ sym q
