-- The worked cases hold: one claim, computed; of P11 the length of its buffer, too long to be made, is a law. Assumes nothing.
use Rattle.types.proofs.Prelude.{refl, ap, length-replicate, pick_true}
use Rattle.std.specs.Prelude.{ℕ, ◌-◌, ◌^◌, true, ◌≡◌, List, [], ◌∷◌, length}
use Rattle.types.specs.Names.{Done}
use Rattle.types.specs.{Pick.pick, Pick.both, Price.capped, Price.price, Span.inside, Span.cut, Span.over, Answer.bits_of, Answer.float32}
use Rattle.types.specs.{Answer.float64, Answer.number_of, Answer.shown_of, Fuel.set_fuel, Fuel.get_fuel, Limiter.padded, Limiter.no_limiter}
use Rattle.types.specs.{Limiter.says_of, Limiter.moved, Limiter.heard_of, Limits.valid_limits, Limits.valid_maximum, Limits.admits_of}
use Rattle.types.specs.{MemoryType.page_bound, MemoryType.valid_memory, MemoryType.build_memory, MemoryType.byte_size, MemoryType.minimum_bytes}
use Rattle.types.specs.{TableType.table_bound, TableType.valid_table, TableType.element_matches, Raw.raw_bytes}
use Rattle.memory.specs.{LittleEndian.le_bytes, LittleEndian.le_value, New.new_memory}
use Rattle.memory.specs.Access.{address_of, extend, loaded_of, load_found, load_at, store_found, store_at}
use Rattle.memory.specs.Memory.{pages_of, sound_room, sound_size, sound_memory, load_memory, store_memory}
use Rattle.table.specs.Names.{GrownTable}
use Rattle.table.specs.{Table.sound_buffer, Table.sound_table, New.new_table, Grow.grow_table, Fill.fill_table, Element.sound_segment, Element.new_segment}
use Rattle.table.specs.{Copy.same_table, Copy.rooms_apart, Copy.sound_two, Copy.copy_table, Init.init_table}
use Rattle.machine.specs.{Machine.next_byte, Machine.next_cell, Machine.next_item, Machine.fresh_machine, Outcome.changed, Outcome.settled, Fueling.set_by}
use Rattle.machine.specs.{Fueling.perform_fuel, Fueling.on_fuel, Memories.perform_memory, Memories.on_memory, Memories.made_memory, Memories.new_memory_on}
use Rattle.machine.specs.{Segments.init_on, Segments.made_segment, Segments.new_segment_on, Step.perform, Step.decide, Step.step, Step.run}
use Rattle.machine.specs.Sound.{follow, sound_list, sound_memories, sound_tables, sound_segments, sound_references, sound_machine}
use Rattle.machine.specs.Operation.{narrow_store, store_fields, item_field, item_fields, init_fields, fuel_well_formed, memory_well_formed, well_formed}
use Rattle.machine.specs.Tables.{perform_table, on_table, made_table, new_table_on, copy_on}
use Rattle.claims.specs.Cases.{all_hold, built_number, shown, answered_at, same, full_buffer, nearly_full, grown_by, cases}
use Rattle.table.specs.Table as table

-- the buffer is as long as it may be
full_length : length full_buffer ≡ 2 ^ 32
unfolding full_buffer
full_length = length-replicate {A = ℕ} (2 ^ 32) 0

-- so the table is sound
nearly_sound : sound_table nearly_full (length full_buffer) ≡ true
unfolding sound_table sound_buffer table.sound_size table_bound valid_table valid_limits admits_of inside both pick
nearly_sound = ap (sound_table nearly_full) full_length

-- P11: what grow_table answers behind that test
by_one : grown_by 1 ≡ 0 ∷ (2 ^ 32 - 2) ∷ []
unfolding grown_by grow_table element_matches says_of no_limiter admits_of shown number_of shown_of both pick
by_one = ap (λ (d : Done GrownTable). shown (d.out.answer ∷ [])) (pick_true _ _ _ nearly_sound)

by_two : grown_by 2 ≡ 6 ∷ 0 ∷ []
unfolding grown_by grow_table element_matches shown number_of shown_of both pick
by_two = ap (λ (d : Done GrownTable). shown (d.out.answer ∷ [])) (pick_true _ _ _ nearly_sound)

-- both tests of the list
last_two : (xs ys : List ℕ) → xs ≡ 0 ∷ (2 ^ 32 - 2) ∷ [] → ys ≡ 6 ∷ 0 ∷ [] → both (same xs (0 ∷ (2 ^ 32 - 2) ∷ [])) (both (same ys (6 ∷ 0 ∷ [])) true) ≡ true
unfolding same both
last_two xs ys e d = rw e (rw d refl)

-- every test of the list computes to true
pub worked_cases : all_hold cases ≡ true
unfolding all_hold cases built_number shown answered_at same price capped build_memory valid_memory valid_limits valid_maximum admits_of page_bound byte_size minimum_bytes table_bound valid_table element_matches raw_bytes inside cut over bits_of float32 float64 number_of shown_of set_fuel padded no_limiter says_of moved heard_of le_bytes le_value address_of extend loaded_of load_found load_at store_found store_at pages_of sound_room sound_size sound_memory load_memory store_memory new_memory table.sound_size sound_buffer sound_table new_table grow_table fill_table sound_segment new_segment same_table rooms_apart sound_two copy_table init_table next_byte next_cell next_item fresh_machine follow sound_list sound_memories sound_tables sound_segments sound_references sound_machine narrow_store store_fields item_field item_fields init_fields fuel_well_formed memory_well_formed well_formed changed settled set_by get_fuel perform_fuel on_fuel perform_memory on_memory made_memory new_memory_on perform_table on_table made_table new_table_on copy_on init_on made_segment new_segment_on perform decide step run pick both
worked_cases = last_two (grown_by 1) (grown_by 2) by_one by_two
