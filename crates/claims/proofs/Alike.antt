-- Machines that agree on what an operation names and on fuel, script, numbers, room left and segments: the same answer, fuel and script. Assumes nothing.
use Rattle.types.proofs.Prelude.{refl, sym, ap, ◌∙◌, arith, leb-false, ltb-true, pick_true, pick_false, both_true, both_1, both_2, either}
use Rattle.types.proofs.Picks.{pick_ap}
use Rattle.std.specs.Prelude.{ℕ, ◌+◌, ◌-◌, ◌<◌, ◌≡◌, Bool, true, false, List, leb, length, get_or, Ok, Err, Some, None, Result, Option}
use Rattle.types.specs.Names.{pick, Done, done, Answer, Spanned, Limiter, TypedRawRef, CopySpan, WantedMemory, WantedTable}
use Rattle.memory.specs.Names.{width_bytes, load_width, sound_memory, LoadKind, StoreKind, Memory, GrownMemory, CreatedMemory}
use Rattle.memory.specs.{LittleEndian.le_value, Access.address_of, Access.extend, Access.loaded_of, Access.load_found, Access.load_at, Access.store_found}
use Rattle.memory.specs.{Access.store_at, Memory.pages_of, Memory.load_memory, Memory.store_memory, Grow.grow_memory}
use Rattle.memory.specs.{New.new_memory}
use Rattle.memory.proofs.Accesses.{address_is}
use Rattle.table.specs.Names.{sound_table, sound_segment, Table, GrownTable, ElementSegment, CreatedTable}
use Rattle.table.specs.{Grow.grow_table, Fill.fill_table, Copy.copy_table, Init.init_table, New.new_table}
use Rattle.table.specs.Table.{get_table, set_sound, set_table}
use Rattle.machine.specs.Names.{Buffers, buffers, memory_at, table_at, segment_at, next_byte, next_cell, sound_over, well_formed, Stepped, Machine}
use Rattle.machine.specs.Names.{Operation, MemoryOp, TableOp}
use Rattle.machine.specs.{Machine.next_item, Outcome.settled, Fueling.fueled, Fueling.on_fuel, Segments.init_on, Segments.drop_on, Segments.made_segment}
use Rattle.machine.specs.{Segments.new_segment_on, Step.Performed, Step.perform, Step.decide, Step.step, declared.outcome.Outcome.Outcome}
use Rattle.machine.specs.{declared.fueling.Fueled.Fueled, Memories.perform_memory, Memories.link_to, Memories.on_memory, Memories.made_memory, Memories.new_memory_on}
use Rattle.machine.specs.Tables.{perform_table, on_table, made_table, new_table_on, copy_on}
use Rattle.machine.proofs.Rooms.{memory_sound, table_sound, segment_sound, next_byte_inside}
use Rattle.claims.specs.Alike.{SameMemory, SameTable, Watched, names_only, Agree}
use Rattle.claims.proofs.{Exiting.room_inside, TableExiting.cells_sound, TableExiting.two_sound, Cuts.part_alike, Cuts.cell_alike}
use Rattle.machine.specs.declared.operation.Operation.TheVariants as op
use Rattle.machine.specs.declared.operation.MemoryOp.TheVariants as memory
use Rattle.machine.specs.declared.operation.TableOp.TheVariants as table
use Rattle.types.specs.declared.answer.Refusal.{Refusal}

-- what a host sees of a result with its cells; shut, so that it goes down a chain of checks
unfoldable sight : {A : Type 0} → (A → Fueled) → Done A → Fueled
sight see d = see d.out

-- of a chain it sees what it sees of the one picked
sight_pick : {A : Type 0} (see : A → Fueled) (t : Bool) (x y : Done A) → sight see (pick t x y) ≡ pick t (sight see x) (sight see y)
sight_pick see = pick_ap (sight see)

-- and nothing of the cells
sight_done : {A : Type 0} (see : A → Fueled) (x : A) (cs : List ℕ) → sight see (done x cs) ≡ see x
unfolding sight
sight_done see x cs = refl

ruleset chain = (sight_pick, sight_done, pick_true)

-- answer, fuel and limiter of an operation on one memory
abbrev of_memory : GrownMemory → Fueled
of_memory g = fueled g.answer g.fuel g.limiter

-- on one table
abbrev of_table : GrownTable → Fueled
of_table g = fueled g.answer g.fuel g.limiter

-- of a copy or init
abbrev of_span : Limiter → Spanned → Fueled
of_span l s = fueled s.answer s.fuel l

-- of any
abbrev of_out : Outcome → Fueled
of_out o = fueled o.answer o.fuel o.limiter

-- of a step
abbrev pub of_step : Stepped → Fueled
of_step s = fueled s.answer s.machine.fuel s.machine.limiter

-- two choices by one test show the same where their values do
way : {A : Type 0} (see : A → Fueled) (t : Bool) (x y x' y' : A) → (t ≡ true → see x ≡ see x') → (t ≡ false → see y ≡ see y') → see (pick t x y) ≡ see (pick t x' y')
way see t x y x' y' f g =
    either t
    (λ k. ap see (pick_true t x y k) ∙ f k ∙ sym (ap see (pick_true t x' y' k)))
    (λ k. ap see (pick_false t x y k) ∙ g k ∙ sym (ap see (pick_false t x' y' k)))

-- a machine with other memories and tables
abbrev pub beside : Machine → List Memory → List Table → Machine
beside m ms ts = record { memories = ms; tables = ts; segments = m.segments; counts = m.counts; fuel = m.fuel; limiter = m.limiter }

-- two sound machines of the same fuel, limiter, counts, segments and items
module _ (r : ℕ) (m : Machine) (b : Buffers) (ms : List Memory) (ts : List Table) (bs cs : List ℕ)
    (e : sound_over m b ≡ true) (e' : sound_over (beside m ms ts) (buffers bs cs b.items) ≡ true) where
  -- the second machine
  abbrev m' : Machine
  m' = beside m ms ts

  -- its buffers
  abbrev b' : Buffers
  b' = buffers bs cs b.items

  -- a memory in use that is the same in both
  module _ (i : ℕ) (h : i < m.counts.memories) (w : SameMemory m b m' b' i) where
    -- it is sound in the first
    sound_memory_lem : sound_memory (memory_at m i) (length b.bytes) ≡ true
    sound_memory_lem = memory_sound m _ _ _ e i h

    -- and in the second
    sound_memory' : sound_memory (memory_at m' i) (length bs) ≡ true
    sound_memory' = memory_sound m' _ _ _ e' i h

    -- 13: the bytes read are the same
    load_alike : (k : LoadKind) (ptr offset : ℕ) → load_memory k (memory_at m i) b.bytes ptr offset ≡ load_memory k (memory_at m' i) bs ptr offset
    unfolding load_memory load_at load_found loaded_of
    load_alike k ptr offset = simp (pick_true, sound_memory_lem, sound_memory', w.size, found (address_of (memory_at m' i).size ptr offset n) refl)
      where
        n : ℕ
        n = width_bytes (load_width k)

        found : (d : Option ℕ) → address_of (memory_at m' i).size ptr offset n ≡ d → load_found k b.bytes (memory_at m i).start d ≡ load_found k bs (memory_at m' i).start d
        found None q = refl
        found (Some x) q =
            let g = (address_is (memory_at m' i).size ptr offset n x q).1 in
            ap (λ (l : List ℕ). Ok (extend k (le_value l)))
            (part_alike b.bytes bs _ _ _ _ x n w.size (omega (arith, w.size)) w.bytes)

    -- 14: the answer is the same
    store_alike : (k : StoreKind) (ptr offset bits : ℕ) → (store_memory k (memory_at m i) b.bytes ptr offset bits).out ≡ (store_memory k (memory_at m' i) bs ptr offset bits).out
    unfolding store_memory store_at store_found address_of
    store_alike k ptr offset bits =
        simp (pick_true, sound_memory_lem, sound_memory', w.size, pick_ap (λ (d : Done Answer). d.out), pick_ap (store_found k b.bytes (memory_at m i).start bits), pick_ap (store_found k bs (memory_at m' i).start bits))

    -- 11 to 14, 30
    memory_alike : (o : MemoryOp)
        → sight of_memory (perform_memory (memory_at m i) b.bytes m.fuel m.limiter o) ≡ sight of_memory (perform_memory (memory_at m' i) bs m.fuel m.limiter o)
    unfolding perform_memory grow_memory link_to pages_of
    memory_alike (memory.Grow pages) = simp (chain, sound_memory_lem, sound_memory', w.ty, w.room, w.size)
    memory_alike memory.Size = simp (chain, w.ty, w.size)
    memory_alike (memory.Load kind pointer offset) = simp (chain, load_alike)
    memory_alike (memory.Store kind pointer offset bits) = simp (chain, store_alike)
    memory_alike (memory.LinkCheck wanted) = simp (chain, w.ty)

  -- a table in use that is the same in both
  module _ (i : ℕ) (h : i < m.counts.tables) (w : SameTable m b m' b' i) where
    -- it is sound in the first
    sound_table_lem : sound_table (table_at m i) (length b.cells) ≡ true
    sound_table_lem = table_sound m _ _ _ e i h

    -- and in the second
    sound_table' : sound_table (table_at m' i) (length cs) ≡ true
    sound_table' = table_sound m' _ _ _ e' i h

    -- 23: the cell read is the same
    get_alike : (j : ℕ) → get_table (table_at m i) b.cells j ≡ get_table (table_at m' i) cs j
    unfolding get_table
    get_alike j =
        either (leb (table_at m' i).size j)
        (λ k. simp (pick_true, sound_table_lem, sound_table', w.size, k))
        (λ k.
        let g : j < (table_at m' i).size = leb-false _ _ k in
        let q : get_or b.cells ((table_at m i).start + j) 0 ≡ get_or cs ((table_at m' i).start + j) 0 =
        cell_alike b.cells cs _ _ _ _ j w.size (omega (arith, w.size)) w.cells in
        simp (pick_true, pick_false, sound_table_lem, sound_table', w.size, k, q))

    -- 21 to 25
    table_alike : (o : TableOp)
        → sight of_table (perform_table r (table_at m i) b.cells m.fuel m.limiter o) ≡ sight of_table (perform_table r (table_at m' i) cs m.fuel m.limiter o)
    unfolding perform_table grow_table set_table set_sound fill_table
    table_alike (table.Grow cells value) = simp (chain, sound_table_lem, sound_table', w.ty, w.room, w.size)
    table_alike table.Size = simp (chain, w.size)
    table_alike (table.Get index) = simp (chain, get_alike)
    table_alike (table.Set index value) = simp (chain, sound_table_lem, sound_table', w.ty, w.size, pick_ap (λ (d : Done Answer). d.out))
    table_alike (table.Fill start value len) =
        simp (chain, sound_table_lem, sound_table', w.ty, w.size, pick_ap (λ (d : Done Spanned). d.out.answer), pick_ap (λ (d : Done Spanned). d.out.fuel))

    -- 27: an init from a sound segment
    init_alike : (g : ElementSegment) (s : CopySpan) → sound_segment g (length b.items) ≡ true
        → sight (of_span m.limiter) (init_table r (table_at m i) g b.cells b.items s m.fuel)
        ≡ sight (of_span m.limiter) (init_table r (table_at m' i) g cs b.items s m.fuel)
    unfolding init_table
    init_alike g s k = simp (chain, both_true, sound_table_lem, sound_table', k, w.ty, w.size)

  -- 26: a copy between two tables that are the same in both, or within one
  copy_alike : (i j : ℕ) (s : CopySpan) → i < m.counts.tables → j < m.counts.tables → SameTable m b m' b' i → SameTable m b m' b' j
      → sight (of_span m.limiter) (copy_table r (table_at m i) (table_at m j) b.cells s m.fuel)
      ≡ sight (of_span m.limiter) (copy_table r (table_at m' i) (table_at m' j) cs s m.fuel)
  unfolding copy_table
  copy_alike i j s h g w v = simp (chain, two_sound m b i j e h g, two_sound m' b' i j e' h g, w.ty, v.ty, w.size, v.size)

  -- 10: a memory made in a room that is left in both
  new_memory_alike : (room : ℕ) (w : WantedMemory) → leb room (length b.bytes - next_byte m) ≡ true → leb room (length bs - next_byte m') ≡ true
      → sight (λ (c : CreatedMemory). of_out (made_memory m c.made c.limiter)) (new_memory w (next_byte m) room b.bytes m.limiter)
      ≡ sight (λ (c : CreatedMemory). of_out (made_memory m' c.made c.limiter)) (new_memory w (next_byte m') room bs m.limiter)
  unfolding new_memory made_memory
  new_memory_alike room w t t' = simp (chain, room_inside _ room _ (next_byte_inside m _ _ _ e) t, room_inside _ room _ (next_byte_inside m' _ _ _ e') t')

  -- 20: a table made in a room that is left in both
  new_table_alike : (room : ℕ) (w : WantedTable) (v : TypedRawRef) → leb room (length b.cells - next_cell m) ≡ true → leb room (length cs - next_cell m') ≡ true
      → sight (λ (c : CreatedTable). of_out (made_table m c.made c.limiter)) (new_table w v (next_cell m) room b.cells m.limiter)
      ≡ sight (λ (c : CreatedTable). of_out (made_table m' c.made c.limiter)) (new_table w v (next_cell m') room cs m.limiter)
  unfolding new_table made_table
  new_table_alike room w v t t' = simp (chain, cells_sound m b e room t, cells_sound m' b' e' room t')

  -- 29: a segment made
  new_segment_alike : (x : Result ElementSegment Refusal) → of_out (made_segment m x) ≡ of_out (made_segment m' x)
  unfolding made_segment
  new_segment_alike (Err x) = refl
  new_segment_alike (Ok x) = refl

  -- the watched instances are the same in both
  module _ (w : Watched) (g : Agree w m b m' b') where
    -- every operation: 16 or 17, then as above
    perform_alike : (op : Operation) → names_only w op ≡ true → of_out (perform r m b op).out ≡ of_out (perform r m' b' op).out
    unfolding perform names_only on_fuel new_memory_on on_memory new_table_on on_table copy_on init_on drop_on new_segment_on next_item sight
    perform_alike (op.Fuel o) n = refl
    perform_alike (op.NewMemory room wanted) n =
        let p = g.rest.bytes in
        rw p (way (sight of_out) _ _ _ _ _ (λ t. new_memory_alike room wanted (ap (leb room) p ∙ both_2 _ _ t) (both_2 _ _ t)) (λ t. refl))
    perform_alike (op.Memory number o) n =
        way (sight of_out) _ _ _ _ _ (λ t. let h = ltb-true number m.counts.memories t in memory_alike number h (g.memory number n h) o) (λ t. refl)
    perform_alike (op.NewTable room wanted initial) n =
        let p = g.rest.cells in
        rw p (way (sight of_out) _ _ _ _ _ (λ t. new_table_alike room wanted initial (ap (leb room) p ∙ both_2 _ _ t) (both_2 _ _ t)) (λ t. refl))
    perform_alike (op.Table number o) n =
        way (sight of_out) _ _ _ _ _ (λ t. let h = ltb-true number m.counts.tables t in table_alike number h (g.table number n h) o) (λ t. refl)
    perform_alike (op.TableCopy into source span) n =
        way (sight of_out) _ _ _ _ _
        (λ t.
        let h = ltb-true into m.counts.tables (both_1 _ _ t) in
        let k = ltb-true source m.counts.tables (both_2 _ _ t) in
        copy_alike into source span h k (g.table into (both_1 _ _ n) h) (g.table source (both_2 _ _ n) k))
        (λ t. refl)
    perform_alike (op.TableInit table segment span) n =
        way (sight of_out) _ _ _ _ _
        (λ t.
        let h = ltb-true table m.counts.tables (both_1 _ _ t) in
        init_alike table h (g.table table n h) (segment_at m segment) span (segment_sound m _ _ _ e segment (ltb-true _ _ (both_2 _ _ t))))
        (λ t. refl)
    perform_alike (op.DropSegment segment) n = way of_out _ _ _ _ _ (λ t. refl) (λ t. refl)
    perform_alike (op.NewSegment element items) n = way (sight of_out) _ _ _ _ _ (λ t. new_segment_alike _) (λ t. refl)

    -- 18 first, then the operation
    pub step_alike : (op : Operation) → names_only w op ≡ true → of_step (step r m b op) ≡ of_step (step r m' b' op)
    unfolding step decide settled
    step_alike op n =
        way see (well_formed op) _ _ _ _
        (λ t. ap see (pick_true _ _ _ e) ∙ perform_alike op n ∙ sym (ap see (pick_true _ _ _ e')))
        (λ t. refl)
      where
        see : Performed → Fueled
        see x = of_out x.out
