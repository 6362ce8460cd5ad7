-- Small laws of how operations on tables and segments end: spans of no cells, and what is soundly made or named. Assumes nothing.
use Rattle.types.proofs.Prelude.{ap, subst, ◌∙◌, arith, le-leb, ltb-true, ltb-false, eqb-true, eqb-false, pick_true, both_true, both_1, both_2, either}
use Rattle.types.proofs.{Spans.over_nil, Picks.pick_same}
use Rattle.std.specs.Prelude.{ℕ, ◌-◌, ◌^◌, ◌≤◌, ◌<◌, ◌≡◌, true, List, eqb, leb, ltb, length}
use Rattle.types.specs.Names.{pick, over}
use Rattle.types.specs.Span.{inside, cut}
use Rattle.table.specs.{Names.Table, Table.sound_buffer, Copy.rooms_apart, Copy.sound_two}
use Rattle.table.proofs.Copies.{one_sound}
use Rattle.machine.specs.Names.{Buffers, table_at, no_table, table_end, next_cell, next_item, sound_over, Machine}
use Rattle.machine.specs.Sound.{sound_tables, sound_references}
use Rattle.machine.proofs.{ListLaws.rooms_apart_lem, Rooms.parts, Rooms.table_sound, Rooms.next_cell_inside, Rooms.next_item_inside}
use Rattle.claims.proofs.Exiting.{room_inside}

-- a room that fits what is left of a buffer is sound
fits_sound : (next room len : ℕ) → leb len (2 ^ 32) ≡ true → next ≤ len → leb room (len - next) ≡ true → sound_buffer next room len ≡ true
unfolding sound_buffer inside
fits_sound next room len p h q = both_true _ _ p (room_inside next room len h q)

-- and so is one of the cells and of the items of a sound machine
module _ (m : Machine) (b : Buffers) (e : sound_over m b ≡ true) (room : ℕ) where
  pub cells_sound : leb room (length b.cells - next_cell m) ≡ true → sound_buffer (next_cell m) room (length b.cells) ≡ true
  unfolding sound_references
  cells_sound h = fits_sound _ _ _ (both_1 _ _ (parts m _ _ _ e).references) (next_cell_inside m _ _ _ e) h

  pub items_sound : leb room (length b.items - next_item m) ≡ true → sound_buffer (next_item m) room (length b.items) ≡ true
  unfolding sound_references
  items_sound h = fits_sound _ _ _ (both_2 _ _ (parts m _ _ _ e).references) (next_item_inside m _ _ _ e) h

-- no cell is new
pub over_none : (cs : List ℕ) (at : ℕ) (items : List ℕ) (start n : ℕ) → n ≡ 0 → over cs at (cut items start n) ≡ cs
unfolding cut
over_none cs at items start n z = ap (λ (k : ℕ). over cs at (cut items start k)) z ∙ over_nil cs at

-- of two tables in use the rooms follow each other
rooms_follow : (m : Machine) (b : Buffers) (i j : ℕ) → sound_over m b ≡ true → i < m.counts.tables → j < m.counts.tables → (i ≡ j → ⊥)
    → rooms_apart (table_at m i) (table_at m j) ≡ true
unfolding rooms_apart sound_tables
rooms_follow m b i j e h g d =
    let p : (k l : ℕ) → k < l → l < m.counts.tables → table_end (table_at m k) ≤ (table_at m l).start =
    rooms_apart_lem _ _ _ no_table _ m.tables (parts m _ _ _ e).tables (λ (t : Table). omega arith) in
    either (ltb i j)
    (λ t. pick_true _ _ _ (le-leb _ _ (p i j (ltb-true i j t) g)))
    (λ t.
    let z : j ≤ i = ltb-false i j t in
    ap (pick _ true) (le-leb _ _ (p j i (omega arith) h)) ∙ pick_same _ true)

-- two tables in use are sound together, and so is one with itself
pub two_sound : (m : Machine) (b : Buffers) (i j : ℕ) → sound_over m b ≡ true → i < m.counts.tables → j < m.counts.tables
    → sound_two (table_at m i) (table_at m j) (length b.cells) ≡ true
unfolding sound_two
two_sound m b i j e h g =
    either (eqb i j)
    (λ q.
    subst (λ (k : ℕ). sound_two (table_at m i) (table_at m k) (length b.cells) ≡ true) (eqb-true i j q)
    (one_sound (table_at m i) _ (table_sound m _ _ _ e i h)))
    (λ q.
    both_true _ _ (table_sound m _ _ _ e i h)
    (both_true _ _ (table_sound m _ _ _ e j g)
    (ap (pick _ true) (rooms_follow m b i j e h g (eqb-false i j q)) ∙ pick_same _ true)))
