-- Laws of a sound machine: its parts, its instances, that no count passes the places, and that the next room starts inside its buffer. Assumes nothing.
use Rattle.types.proofs.Prelude.{ℕ, ◌≤◌, ◌<◌, ◌≡◌, true, both_true, both_1, both_2}
use Rattle.memory.specs.{Memory.sound_memory, declared.memory.Memory.Memory}
use Rattle.memory.proofs.Sounds.{sound_is}
use Rattle.table.specs.{Table.sound_table, Element.sound_segment, declared.table.Table.Table, declared.element.ElementSegment.ElementSegment}
use Rattle.table.proofs.Sounds.{sound_room_lem, segment_room}
use Rattle.machine.specs.Machine.{memory_at, table_at, segment_at, no_memory, no_table, no_segment, next_byte, next_cell, next_item}
use Rattle.machine.specs.Sound.{sound_memories, sound_tables, sound_segments, sound_references, sound_machine}
use Rattle.machine.specs.declared.records.Machine.{Machine}
use Rattle.machine.proofs.ListLaws.{few, each_sound, next_inside}

-- what a sound machine has
pub record Parts (m : Machine) (bytes cells items : ℕ) : Type 0 where
  pub references : sound_references cells items ≡ true
  pub memories : sound_memories m bytes ≡ true
  pub tables : sound_tables m cells ≡ true
  pub segments : sound_segments m items ≡ true

pub parts : (m : Machine) (bytes cells items : ℕ) → sound_machine m bytes cells items ≡ true → Parts m bytes cells items
unfolding sound_machine
parts m bytes cells items e =
    let lists = both_2 _ _ e in
    let later = both_2 _ _ lists in
    record { references = both_1 _ _ e; memories = both_1 _ _ lists; tables = both_1 _ _ later; segments = both_2 _ _ later }

pub whole : (m : Machine) (bytes cells items : ℕ) → Parts m bytes cells items → sound_machine m bytes cells items ≡ true
unfolding sound_machine
whole m bytes cells items p = both_true _ _ p.references (both_true _ _ p.memories (both_true _ _ p.tables p.segments))

module _ (m : Machine) (bytes cells items : ℕ) (e : sound_machine m bytes cells items ≡ true) where
  -- an instance in use is sound
  pub memory_sound : (i : ℕ) → i < m.counts.memories → sound_memory (memory_at m i) bytes ≡ true
  unfolding sound_memories
  memory_sound i h = each_sound _ _ _ no_memory _ m.memories (parts m bytes cells items e).memories i h

  pub table_sound : (i : ℕ) → i < m.counts.tables → sound_table (table_at m i) cells ≡ true
  unfolding sound_tables
  table_sound i h = each_sound _ _ _ no_table _ m.tables (parts m bytes cells items e).tables i h

  pub segment_sound : (i : ℕ) → i < m.counts.segments → sound_segment (segment_at m i) items ≡ true
  unfolding sound_segments
  segment_sound i h = each_sound _ _ _ no_segment _ m.segments (parts m bytes cells items e).segments i h

  -- at most 8 instances of a kind are in use
  pub memories_few : m.counts.memories ≤ 8
  unfolding sound_memories
  memories_few = few _ _ _ no_memory _ m.memories (parts m bytes cells items e).memories

  pub tables_few : m.counts.tables ≤ 8
  unfolding sound_tables
  tables_few = few _ _ _ no_table _ m.tables (parts m bytes cells items e).tables

  pub segments_few : m.counts.segments ≤ 8
  unfolding sound_segments
  segments_few = few _ _ _ no_segment _ m.segments (parts m bytes cells items e).segments

  -- the next room starts inside its buffer
  pub next_byte_inside : next_byte m ≤ bytes
  unfolding next_byte sound_memories
  next_byte_inside = next_inside _ _ _ no_memory _ m.memories (parts m bytes cells items e).memories bytes (λ (r : Memory) s. (sound_is r bytes s).inside)

  pub next_cell_inside : next_cell m ≤ cells
  unfolding next_cell sound_tables
  next_cell_inside = next_inside _ _ _ no_table _ m.tables (parts m bytes cells items e).tables cells (λ (r : Table) s. sound_room_lem r cells s)

  pub next_item_inside : next_item m ≤ items
  unfolding next_item sound_segments
  next_item_inside = next_inside _ _ _ no_segment _ m.segments (parts m bytes cells items e).segments items (λ (r : ElementSegment) s. segment_room r items s)
