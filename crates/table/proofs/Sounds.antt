-- What soundness says of the places of tables and segments. Assumes nothing.
use Rattle.types.proofs.Prelude.{◌≡◌, sym, ap, ◌∙◌, Bool, true, false, ℕ, ◌+◌, ◌≤◌, ◌<◌, arith, le-leb, lt-leb, leb-true, both_left, both_right, both_then, both_1, both_2, known_test}
use Rattle.types.proofs.Spans.{within_is}
use Rattle.types.specs.{Pick.both, stages.Held.held, TableType.table_bound, TableType.valid_table}
use Rattle.table.specs.{Table.sound_buffer, Table.sound_size, Table.sound_table, Element.sound_segment, Copy.sound_two}
use Rattle.table.specs.{stages.Facts.Within, stages.Facts.Roomed, stages.Facts.Places, declared.table.Table.Table}
use Rattle.table.specs.declared.element.ElementSegment.{ElementSegment}

pub buffer_within : (start places len : ℕ) → sound_buffer start places len ≡ true → start + places ≤ len
unfolding sound_buffer
buffer_within start places len e = within_is _ _ _ (both_2 _ _ e)

pub size_within : (t : Table) → sound_size t ≡ true → t.size ≤ t.room
unfolding sound_size
size_within t e = leb-true _ _ (both_1 _ _ e)

-- the exits of the size's test
pub size_past : (t : Table) → t.room < t.size → false ≡ both (valid_table t.ty) (sound_size t)
unfolding sound_size
size_past t h = sym (both_right _ _ (both_left _ _ (lt-leb _ _ h)))

pub size_by : (t : Table) {r : Bool} → t.size ≤ t.room → r ≡ held t.ty.limits (table_bound t.ty) t.size → r ≡ both (valid_table t.ty) (sound_size t)
unfolding sound_size valid_table
size_by t h d = d ∙ ap (both (valid_table t.ty)) (sym (both_then _ _ (le-leb _ _ h)))

module _ (t : Table) (len : ℕ) (e : sound_table t len ≡ true) where
  pub sound_room_lem : Roomed t len
  unfolding sound_table
  sound_room_lem = buffer_within _ _ _ (both_1 _ _ e)

  pub sound_size_lem : t.size ≤ t.room
  unfolding sound_table
  sound_size_lem = size_within t (both_2 _ _ (both_2 _ _ e))

  pub sound_within : Within t len
  sound_within = omega (arith, sound_room_lem, sound_size_lem)

module _ (s : ElementSegment) (len : ℕ) (e : sound_segment s len ≡ true) where
  pub segment_room : s.start + s.places ≤ len
  unfolding sound_segment
  segment_room = buffer_within _ _ _ (both_1 _ _ e)

  pub segment_places : Places s len
  unfolding sound_segment
  segment_places =
      let q : s.size ≤ s.places = leb-true _ _ (both_2 _ _ e) in
      omega (arith, segment_room)

-- once the record was tested
pub tested_room : (t : Table) (len : ℕ) {r : Bool} → r ≡ sound_table t len → r ≡ true → Roomed t len
tested_room t len p q = sound_room_lem t len (known_test p q)

pub tested_within : (t : Table) (len : ℕ) {r : Bool} → r ≡ sound_table t len → r ≡ true → Within t len
tested_within t len p q = sound_within t len (known_test p q)

pub tested_two : (d s : Table) (len : ℕ) {r : Bool} → r ≡ sound_two d s len → r ≡ true → Within d len × Within s len
unfolding sound_two
tested_two d s len p q =
    let e = known_test p q in
    (sound_within d len (both_1 _ _ e), sound_within s len (both_1 _ _ (both_2 _ _ e)))

pub tested_pair : (t : Table) (s : ElementSegment) (len count : ℕ) {r : Bool} → r ≡ both (sound_table t len) (sound_segment s count) → r ≡ true
    → Within t len × Places s count
tested_pair t s len count p q =
    let e = known_test p q in
    (sound_within t len (both_1 _ _ e), segment_places s count (both_2 _ _ e))

pub tested_buffer : (start places len : ℕ) {r : Bool} → r ≡ sound_buffer start places len → r ≡ true → start + places ≤ len
tested_buffer start places len p q = buffer_within start places len (known_test p q)

-- an index below the size is one of the buffer, once the record was tested
pub cell_within : (t : Table) (len i : ℕ) {r : Bool} → r ≡ sound_table t len → r ≡ true → i < t.size → t.start + i < len
cell_within t len i p q h = omega (arith, sound_within t len (known_test p q))

pub item_within : (s : ElementSegment) (len i : ℕ) {r : Bool} → r ≡ sound_segment s len → r ≡ true → i < s.size → s.start + i < len
item_within s len i p q h = omega (arith, segment_places s len (known_test p q))
