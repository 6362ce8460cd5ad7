-- The laws that each kind of record keeps for the functions over any kind. Assumes nothing.
use Rattle.std.specs.Prelude.{ℕ, ◌+◌, ◌*◌, ◌≤◌, ◌≡◌, true, List, length}
use Rattle.types.proofs.Prelude.{refl, arith, both_1, both_2, leb-true}
use Rattle.memory.specs.{Memory.sound_memory, declared.memory.Memory.Memory}
use Rattle.memory.proofs.Sounds.{sound_is}
use Rattle.table.specs.{Table.sound_table, Element.sound_segment, declared.table.Table.Table, declared.element.ElementSegment.ElementSegment}
use Rattle.table.proofs.Sounds.{sound_room_lem, segment_room}
use Rattle.machine.specs.{Machine.capacity, Sound.sound_list, Sound.sound_memories, Sound.sound_tables, Sound.sound_segments, Sound.sound_machine}
use Rattle.machine.specs.declared.records.Machine.{Machine}
use Rattle.machine.specs.Words.{record_length, segment_length, tables_at, segments_at, row_length, machine_from, records_from, memory_from, table_from, segment_from}
use Rattle.machine.specs.Words.{memory_words, table_words, segment_words}

-- the records of a kind lie in the row
pub memories_inside : 0 + capacity * record_length ≤ row_length
memories_inside = omega arith

pub tables_inside : tables_at + capacity * record_length ≤ row_length
tables_inside = omega arith

pub segments_inside : segments_at + capacity * segment_length ≤ row_length
segments_inside = omega arith

-- each record has the words of its kind
pub length_memory : (r : Memory) → length (memory_words r) ≡ record_length
unfolding memory_words
length_memory r = refl

pub length_table : (r : Table) → length (table_words r) ≡ record_length
unfolding table_words
length_table r = refl

pub length_segment : (r : ElementSegment) → length (segment_words r) ≡ segment_length
unfolding segment_words
length_segment r = refl

-- one after another from the kind's place on
pub memories_stand : (l : List ℕ) → (machine_from l).memories ≡ records_from memory_from record_length l 0 capacity
memories_stand l = refl

pub tables_stand : (l : List ℕ) → (machine_from l).tables ≡ records_from table_from record_length l tables_at capacity
tables_stand l = refl

pub segments_stand : (l : List ℕ) → (machine_from l).segments ≡ records_from segment_from segment_length l segments_at capacity
segments_stand l = refl

-- the room of a sound record ends inside the buffer
pub memory_ends : (len : ℕ) (r : Memory) → sound_memory r len ≡ true → r.start + r.room ≤ len
memory_ends len r h = (sound_is r len h).inside

pub table_ends : (len : ℕ) (r : Table) → sound_table r len ≡ true → r.start + r.room ≤ len
table_ends len r h = sound_room_lem r len h

pub segment_ends : (len : ℕ) (r : ElementSegment) → sound_segment r len ≡ true → r.start + r.places ≤ len
segment_ends len r h = segment_room r len h

-- a sound machine uses no more places than there are
module _ (m : Machine) (bytes cells items : ℕ) (e : sound_machine m bytes cells items ≡ true) where
  pub memories_few : m.counts.memories ≤ capacity
  unfolding sound_machine sound_memories sound_list
  memories_few = leb-true _ _ (both_1 _ _ (both_2 _ _ (both_1 _ _ (both_2 _ _ e))))

  pub tables_few : m.counts.tables ≤ capacity
  unfolding sound_machine sound_tables sound_list
  tables_few = leb-true _ _ (both_1 _ _ (both_2 _ _ (both_1 _ _ (both_2 _ _ (both_2 _ _ e)))))

  pub segments_few : m.counts.segments ≤ capacity
  unfolding sound_machine sound_segments sound_list
  segments_few = leb-true _ _ (both_1 _ _ (both_2 _ _ (both_2 _ _ (both_2 _ _ (both_2 _ _ e)))))
