-- An accepted operation writes one span inside its buffer and nothing else, and what the bound counts is that span's bytes. Assumes nothing.
use Rattle.types.proofs.Prelude.{refl, sym, ap, subst, ◌∙◌, false≢true, arith, length-replicate, le-leb, leb-true, ltb-true, eqb-true, pick_true, pick_false}
use Rattle.types.proofs.Prelude.{both_true, both_right, both_1, both_2, either}
use Rattle.types.proofs.{Spans.within_is, Spans.length_over, Spans.over_before, Spans.over_after, Moves.length_cut}
use Rattle.std.specs.Prelude.{ℕ, ◌+◌, ◌-◌, ◌*◌, ◌≤◌, ◌≡◌, Bool, true, false, List, eqb, ltb, length, get_or, replicate}
use Rattle.types.specs.{Names.cut, Names.over, Names.page_bytes, Span.inside}
use lib.{Seq.get_or-take, Seq.get_or-drop}
use Rattle.memory.specs.Names.{width_bytes, store_width, le_bytes, least_bytes, grown_size}
use Rattle.memory.proofs.{Sounds.sound_is, Bytes.length_bytes}
use Rattle.table.proofs.Sounds.{sound_room_lem, sound_size_lem, segment_places}
use Rattle.machine.specs.Names.{Buffers, memory_at, table_at, segment_at, next_byte, next_cell, next_item, sound_over, items_of, Stepped, step, Machine}
use Rattle.machine.specs.Names.{Operation, MemoryOp, TableOp}
use Rattle.machine.proofs.Rooms.{memory_sound, table_sound, segment_sound, next_byte_inside, next_cell_inside, next_item_inside}
use Rattle.claims.specs.{Answers.accepted, Metered.memory_metering, Metered.table_metering, Metered.metering_of, Metered.metering, Bound.wrote}
use Rattle.claims.specs.Occasions.{holds, granted, reaches, memory_checks, table_checks, checks_of, occasion}
use Rattle.claims.specs.Spans.{Span, Nowhere, InBytes, InCells, InItems, put, span_bytes, fits, AllBut, OnlyIn, WritesSpan}
use Rattle.claims.specs.Effects.{memory_effect, table_effect, effect_of, effects, accepted_step}
use Rattle.claims.proofs.{Checks.given_1, Checks.given_2, Checks.growing_some, MemoryExits.more_bytes, Exits.refusal_leaves}
use Rattle.claims.proofs.{Exits.accepted_when_lem, Exits.accepted_does}
use Rattle.machine.specs.declared.operation.Operation.TheVariants as op
use Rattle.machine.specs.declared.operation.MemoryOp.TheVariants as memory
use Rattle.machine.specs.declared.operation.TableOp.TheVariants as table

-- a span replaced inside a list leaves what lies before it and from its end on
all_but : (l : List ℕ) (at : ℕ) (new : List ℕ) → inside at (length new) (length l) ≡ true → AllBut at (length new) l (over l at new)
all_but l at new e =
    let h = within_is at (length new) (length l) e in
    record {
      long = length_over l at new h;
      before = λ i g.
          sym (get_or-take at (over l at new) i 0 g) ∙ ap (λ (x : List ℕ). get_or x i 0) (over_before l at new (omega (arith, h))) ∙ get_or-take at l i 0 g;
      beyond = λ i g.
          let z : i + 0 ≡ i = omega arith in
          ap (λ (k : ℕ). get_or (over l at new) k 0) (sym z)
          ∙ sym (get_or-drop i (over l at new) 0 0)
          ∙ ap (λ (x : List ℕ). get_or x 0 0) (over_after l at new i h g)
          ∙ get_or-drop i l 0 0
          ∙ ap (λ (k : ℕ). get_or l k 0) z;
    }

-- in each of the three buffers
only_in : (b : Buffers) (s : Span) → fits b s ≡ true → OnlyIn s b (put b s)
unfolding fits OnlyIn put
only_in b Nowhere e = refl
only_in b (InBytes at new) e = (all_but b.bytes at new e, refl, refl)
only_in b (InCells at new) e = (refl, all_but b.cells at new e, refl)
only_in b (InItems at new) e = (refl, refl, all_but b.items at new e)

-- so many cells from a place on lie inside
inside_of : (at n len : ℕ) (new : List ℕ) → length new ≡ n → at + n ≤ len → inside at (length new) len ≡ true
unfolding inside
inside_of at n len new e h = le-leb (at + length new) len (omega arith)

-- and so do so many of one value
filled_inside : (at n v len : ℕ) → at + n ≤ len → inside at (length (replicate n v)) len ≡ true
filled_inside at n v len h = inside_of at n len (replicate n v) (length-replicate n v) h

module _ (r : ℕ) (m : Machine) (b : Buffers) (s : sound_over m b ≡ true) where
  -- a table in use lies inside its buffer
  table_inside : (i n : ℕ) → ltb i m.counts.tables ≡ true → n ≤ (table_at m i).room → (table_at m i).start + n ≤ length b.cells
  table_inside i n k h = omega (arith, h, sound_room_lem (table_at m i) _ (table_sound m _ _ _ s i (ltb-true _ _ k)))

  -- and so does a span within its size
  cells_inside : (i start n : ℕ) → ltb i m.counts.tables ≡ true → inside start n (table_at m i).size ≡ true
      → (table_at m i).start + start + n ≤ length b.cells
  cells_inside i start n k h =
      let held = sound_size_lem (table_at m i) _ (table_sound m _ _ _ s i (ltb-true _ _ k)) in
      omega (arith, table_inside i (start + n) k (omega (arith, within_is start n _ h)))

  -- the cells copied are as many as are asked for
  copied : (i from n : ℕ) → ltb i m.counts.tables ≡ true → inside from n (table_at m i).size ≡ true
      → length (cut b.cells ((table_at m i).start + from) n) ≡ n
  copied i from n k h = length_cut b.cells _ n (cells_inside i from n k h)

  -- and so are the items
  initial : (i from n : ℕ) → ltb i m.counts.segments ≡ true → inside from n (segment_at m i).size ≡ true
      → length (cut b.items ((segment_at m i).start + from) n) ≡ n
  initial i from n k h =
      length_cut b.items _ n (omega (arith, within_is from n _ h, segment_places (segment_at m i) _ (segment_sound m _ _ _ s i (ltb-true _ _ k))))

  -- 11 to 14, 30: what is written to a memory
  memory_fits : (i : ℕ) (pays : Bool) (o : MemoryOp) → ltb i m.counts.memories ≡ true → holds (granted m) (memory_checks (memory_at m i) pays o) ≡ true → fits b (memory_effect (memory_at m i) b.bytes o).span ≡ true
  unfolding fits memory_effect holds memory_checks reaches
  memory_fits i pays (memory.Grow pages) k e =
      let old = memory_at m i in
      let sound = memory_sound m _ _ _ s i (ltb-true _ _ k) in
      let is = sound_is old _ sound in
      filled_inside (old.start + old.size) (grown_size old pages - old.size) 0 (length b.bytes)
      (either (eqb pages 0)
      (λ t.
      let none : pages * page_bytes old.ty.page ≡ 0 * page_bytes old.ty.page = ap (λ (n : ℕ). n * page_bytes old.ty.page) (eqb-true pages 0 t) in
      omega (arith, none, more_bytes old pages _ sound, is.inside, is.held))
      (λ t.
      let held : grown_size old pages ≤ old.room = leb-true _ _ (both_2 _ _ (both_2 _ _ (both_2 _ _ (growing_some _ pages _ _ t e)))) in
      omega (arith, held, is.inside, is.held)))
  memory_fits i pays memory.Size k e = refl
  memory_fits i pays (memory.Load kind pointer offset) k e = refl
  memory_fits i pays (memory.Store kind pointer offset bits) k e =
      let is = sound_is (memory_at m i) _ (memory_sound m _ _ _ s i (ltb-true _ _ k)) in
      let n = width_bytes (store_width kind) in
      inside_of ((memory_at m i).start + (pointer + offset)) n (length b.bytes) (le_bytes n bits) (length_bytes n bits)
      (omega (arith, within_is (pointer + offset) _ _ (both_2 _ _ e), is.inside, is.held))
  memory_fits i pays (memory.LinkCheck wanted) k e = refl

  -- 21 to 25: what is written to a table
  table_fits : (i : ℕ) (pays : Bool) (o : TableOp) → ltb i m.counts.tables ≡ true → holds (granted m) (table_checks (table_at m i) pays o) ≡ true → fits b (table_effect (table_at m i) b.cells o).span ≡ true
  unfolding fits table_effect holds table_checks
  table_fits i pays (table.Grow cells value) k e =
      let old = table_at m i in
      let size = sound_size_lem old _ (table_sound m _ _ _ s i (ltb-true _ _ k)) in
      filled_inside (old.start + old.size) cells value.raw.bits (length b.cells)
      (either (eqb cells 0)
      (λ t. omega (arith, eqb-true cells 0 t, table_inside i old.size k size))
      (λ t.
      let held : old.size + cells ≤ old.room = leb-true _ _ (both_2 _ _ (both_2 _ _ (both_2 _ _ (both_2 _ _ (growing_some _ cells _ _ t (given_2 _ _ _ e)))))) in
      omega (arith, table_inside i (old.size + cells) k held)))
  table_fits i pays table.Size k e = refl
  table_fits i pays (table.Get index) k e = refl
  table_fits i pays (table.Set index value) k e =
      let size = sound_size_lem (table_at m i) _ (table_sound m _ _ _ s i (ltb-true _ _ k)) in
      let below = ltb-true index _ (both_2 _ _ e) in
      filled_inside ((table_at m i).start + index) 1 value.raw.bits (length b.cells)
      (omega (arith, table_inside i (index + 1) k (omega (arith, size, below))))
  table_fits i pays (table.Fill start value len) k e =
      filled_inside ((table_at m i).start + start) len value.raw.bits (length b.cells) (cells_inside i start len k (both_1 _ _ (both_2 _ _ e)))

  -- what any operation writes lies inside its buffer
  span_fits : (op : Operation) → occasion r m b op ≡ true → fits b (effects r m b op).span ≡ true
  unfolding fits effect_of holds checks_of
  span_fits (op.Fuel o) e = refl
  span_fits (op.NewMemory room wanted) e =
      let free = leb-true room _ (both_2 _ _ (both_1 _ _ (both_1 _ _ e))) in
      let least = leb-true _ room (both_2 _ _ (both_2 _ _ e)) in
      filled_inside (next_byte m) (least_bytes wanted) 0 (length b.bytes) (omega (arith, free, least, next_byte_inside m _ _ _ s))
  span_fits (op.Memory number o) e = memory_fits number _ o (given_1 _ _ _ e) (given_2 _ _ _ e)
  span_fits (op.NewTable room wanted first) e =
      let free = leb-true room _ (both_2 _ _ (both_1 _ _ (both_1 _ _ e))) in
      let least = leb-true _ room (both_2 _ _ (both_2 _ _ e)) in
      filled_inside (next_cell m) wanted.limits.minimum first.raw.bits (length b.cells) (omega (arith, free, least, next_cell_inside m _ _ _ s))
  span_fits (op.Table number o) e = table_fits number _ o (given_1 _ _ _ e) (given_2 _ _ _ e)
  span_fits (op.TableCopy into source span) e =
      let known = both_1 _ _ e in
      let within = both_1 _ _ (both_2 _ _ (both_2 _ _ e)) in
      inside_of ((table_at m into).start + span.to) span.len (length b.cells) (cut b.cells ((table_at m source).start + span.from) span.len)
      (copied source span.from span.len (both_2 _ _ known) (both_2 _ _ within))
      (cells_inside into span.to span.len (both_1 _ _ known) (both_1 _ _ within))
  span_fits (op.TableInit table segment span) e =
      let known = both_1 _ _ e in
      let within = both_1 _ _ (both_2 _ _ (both_2 _ _ e)) in
      inside_of ((table_at m table).start + span.to) span.len (length b.cells) (cut b.items ((segment_at m segment).start + span.from) span.len)
      (initial segment span.from span.len (both_2 _ _ known) (both_2 _ _ within))
      (cells_inside table span.to span.len (both_1 _ _ known) (both_1 _ _ within))
  span_fits (op.DropSegment segment) e = refl
  span_fits (op.NewSegment element items) e =
      let free : length (items_of items) ≤ length b.items - next_item m = leb-true _ _ (both_2 _ _ e) in
      inside_of (next_item m) (length (items_of items)) (length b.items) (items_of items) refl (omega (arith, free, next_item_inside m _ _ _ s))

  -- the bytes of a span of a memory
  memory_bytes : (i : ℕ) (o : MemoryOp) → ltb i m.counts.memories ≡ true → (metering r m (op.Memory i o)).meets ≡ true
      → (metering r m (op.Memory i o)).bytes ≡ span_bytes r (memory_effect (memory_at m i) b.bytes o).span
  unfolding memory_metering memory_effect span_bytes metering_of
  memory_bytes i (memory.Grow pages) k p =
      let old = memory_at m i in
      let long = length-replicate {A = ℕ} (grown_size old pages - old.size) 0 in
      omega (arith, long, more_bytes old pages _ (memory_sound m _ _ _ s i (ltb-true _ _ k)))
  memory_bytes i memory.Size k p = absurd (false≢true p)
  memory_bytes i (memory.Load kind pointer offset) k p = absurd (false≢true p)
  memory_bytes i (memory.Store kind pointer offset bits) k p = absurd (false≢true p)
  memory_bytes i (memory.LinkCheck wanted) k p = absurd (false≢true p)

  -- of a span of a table
  table_bytes : (i : ℕ) (o : TableOp) → (table_metering r o).meets ≡ true → (table_metering r o).bytes ≡ span_bytes r (table_effect (table_at m i) b.cells o).span
  unfolding table_metering table_effect span_bytes
  table_bytes i (table.Grow cells value) p = ap (λ (n : ℕ). n * r) (sym (length-replicate cells _))
  table_bytes i table.Size p = absurd (false≢true p)
  table_bytes i (table.Get index) p = absurd (false≢true p)
  table_bytes i (table.Set index value) p = absurd (false≢true p)
  table_bytes i (table.Fill start value len) p = ap (λ (n : ℕ). n * r) (sym (length-replicate len _))

  -- the byte length of an operation that meets the fuel step is its span's
  span_length : (op : Operation) → (metering r m op).meets ≡ true → occasion r m b op ≡ true → (metering r m op).bytes ≡ span_bytes r (effects r m b op).span
  unfolding metering_of holds checks_of effect_of span_bytes
  span_length (op.Fuel o) p e = absurd (false≢true p)
  span_length (op.NewMemory room wanted) p e = absurd (false≢true p)
  span_length (op.Memory number o) p e = memory_bytes number o (given_1 _ _ _ e) p
  span_length (op.NewTable room wanted first) p e = absurd (false≢true p)
  span_length (op.Table number o) p e = table_bytes number o p
  span_length (op.TableCopy into source span) p e =
      ap (λ (n : ℕ). n * r)
      (sym (copied source span.from span.len (both_2 _ _ (both_1 _ _ e)) (both_2 _ _ (both_1 _ _ (both_2 _ _ (both_2 _ _ e))))))
  span_length (op.TableInit table segment span) p e =
      ap (λ (n : ℕ). n * r)
      (sym (initial segment span.from span.len (both_2 _ _ (both_1 _ _ e)) (both_2 _ _ (both_1 _ _ (both_2 _ _ (both_2 _ _ e))))))
  span_length (op.DropSegment segment) p e = absurd (false≢true p)
  span_length (op.NewSegment element items) p e = absurd (false≢true p)

module _ (r : ℕ) (m : Machine) (b : Buffers) (op : Operation) where
  -- an accepted operation writes its span, inside its buffer, and nothing else
  pub span_alone : accepted (step r m b op).answer ≡ true → WritesSpan (effects r m b op).span b (step r m b op).buffers
  unfolding accepted_step
  span_alone e =
      let when = both_2 _ _ (sym (accepted_when_lem r m b op) ∙ e) in
      let new : (step r m b op).buffers ≡ put b (effects r m b op).span = ap (λ (x : Stepped). x.buffers) (accepted_does r m b op e) in
      let held = span_fits r m b (both_1 _ _ when) op (both_2 _ _ when) in
      record { new = new; inside = held; alone = subst (OnlyIn (effects r m b op).span b) (sym new) (only_in b (effects r m b op).span held) }

  -- and counts exactly its bytes where it meets the fuel step
  pub span_counted : accepted (step r m b op).answer ≡ true → (metering r m op).meets ≡ true → wrote r m b op ≡ span_bytes r (effects r m b op).span
  unfolding wrote
  span_counted e p =
      let when = both_2 _ _ (sym (accepted_when_lem r m b op) ∙ e) in
      pick_true _ _ 0 (both_true _ _ p e) ∙ span_length r m b (both_1 _ _ when) op p (both_2 _ _ when)

  -- a refused one writes and counts nothing
  pub refused_writes_none : accepted (step r m b op).answer ≡ false → ((step r m b op).buffers ≡ b) × (wrote r m b op ≡ 0)
  unfolding wrote
  refused_writes_none e = ((refusal_leaves r m b op e).cells, pick_false _ _ 0 (both_right _ _ e))
