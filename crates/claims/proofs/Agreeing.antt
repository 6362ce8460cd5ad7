-- What an operation leaves of two machines that agree and accept it: the room left, the watched instances, segments and items are the same. Assumes nothing.
use Rattle.types.proofs.Prelude.{refl, sym, ap, ◌∙◌, arith, length-replicate, ltb-true, both_1, both_2}
use Rattle.types.proofs.{Picks.pick_same, Picks.pick_ap, Spans.within_is}
use Rattle.std.specs.Prelude.{ℕ, ◌+◌, ◌-◌, ◌*◌, ◌/◌, ◌≤◌, ◌<◌, ◌≡◌, true, false, List, eqb, ltb, length, replicate}
use Rattle.types.specs.Names.{page_bytes, cut, over, MemoryType, WantedMemory, TypedRawRef, CopySpan, WantedTable}
use Rattle.memory.specs.{Names.width_bytes, Names.store_width, Names.le_bytes, Names.grown_size, Names.Memory, Memory.pages_of, New.least_bytes as least_of}
use Rattle.memory.proofs.{Sounds.sound_is, Sounds.sound_used, Bytes.length_bytes, Growths.reach_more}
use Rattle.table.specs.Names.{Table, ElementSegment}
use Rattle.table.proofs.Sounds.{sound_room_lem, sound_size_lem, sound_within}
use Rattle.machine.specs.Names.{Buffers, buffers, memory_at, table_at, segment_at, next_byte, next_cell, sound_over, Stepped, step, Machine, Operation}
use Rattle.machine.specs.{Names.MemoryOp, Names.TableOp, Machine.next_item, Outcome.changed}
use Rattle.machine.specs.Frame.{InMemory, InTable, NewItems, target_of}
use Rattle.machine.proofs.{Laws.along, Rooms.memory_sound, Rooms.table_sound, Rooms.next_byte_inside, Rooms.next_cell_inside}
use Rattle.claims.specs.{Answers.accepted, Spans.put, Effects.memory_effect, Effects.table_effect, Effects.effect_of, Effects.effects}
use Rattle.claims.specs.{Effects.accepted_step, Alike.SameMemory, Alike.SameTable, Alike.Watched, Alike.names_only, Alike.Agree}
use Rattle.claims.specs.Occasions.{given, holds, reaches, memory_checks, table_checks, checks_of}
use Rattle.claims.proofs.{Cuts.cut_short, Cuts.part_alike, Cuts.first_alike, Cuts.inside_alike, Cuts.more_alike, Cuts.made_alike, Alike.beside}
use Rattle.claims.proofs.Targets.{kind_of, number_in, unlike, at_place}
use Rattle.claims.proofs.Left.{on_occasion, others, byte_room, cell_room, byte_room_less, cell_room_less, made_memory_lem, made_table_lem}
use Rattle.claims.proofs.Left.{named_memory, named_table, memory_held, table_held}
use Rattle.machine.specs.declared.outcome.Change.TheVariants as change
use Rattle.machine.specs.declared.operation.Operation.TheVariants as op
use Rattle.machine.specs.declared.operation.MemoryOp.TheVariants as memory
use Rattle.machine.specs.declared.operation.TableOp.TheVariants as table

-- instances are the same where their records and cells are
module _ (m : Machine) (b : Buffers) (m' : Machine) (b' : Buffers) (i : ℕ) where
  same_memory : (x x' : Memory) → memory_at m i ≡ x → memory_at m' i ≡ x' → x.ty ≡ x'.ty → x.room ≡ x'.room → x.size ≡ x'.size
      → cut b.bytes x.start x.size ≡ cut b'.bytes x'.start x'.size → SameMemory m b m' b' i
  same_memory x x' p p' t o z c =
      record {
        ty = ap (λ (y : Memory). y.ty) p ∙ t ∙ sym (ap (λ (y : Memory). y.ty) p');
        room = ap (λ (y : Memory). y.room) p ∙ o ∙ sym (ap (λ (y : Memory). y.room) p');
        size = ap (λ (y : Memory). y.size) p ∙ z ∙ sym (ap (λ (y : Memory). y.size) p');
        bytes = ap (λ (y : Memory). cut b.bytes y.start y.size) p ∙ c
            ∙ sym (ap (λ (y : Memory). cut b'.bytes y.start y.size) p');
      }

  same_table_lem : (x x' : Table) → table_at m i ≡ x → table_at m' i ≡ x' → x.ty ≡ x'.ty → x.room ≡ x'.room → x.size ≡ x'.size
      → cut b.cells x.start x.size ≡ cut b'.cells x'.start x'.size → SameTable m b m' b' i
  same_table_lem x x' p p' t o z c =
      record {
        ty = ap (λ (y : Table). y.ty) p ∙ t ∙ sym (ap (λ (y : Table). y.ty) p');
        room = ap (λ (y : Table). y.room) p ∙ o ∙ sym (ap (λ (y : Table). y.room) p');
        size = ap (λ (y : Table). y.size) p ∙ z ∙ sym (ap (λ (y : Table). y.size) p');
        cells = ap (λ (y : Table). cut b.cells y.start y.size) p ∙ c
            ∙ sym (ap (λ (y : Table). cut b'.cells y.start y.size) p');
      }

-- another record of one kind leaves the segments
memory_segments : (m : Machine) (i : ℕ) (x : Memory) → (changed (change.Memory i x) m).segments ≡ m.segments
unfolding changed
memory_segments m i x = pick_ap (λ (y : Machine). y.segments) (ltb i 8) _ _ ∙ pick_same _ _

table_segments : (m : Machine) (i : ℕ) (x : Table) → (changed (change.Table i x) m).segments ≡ m.segments
unfolding changed
table_segments m i x = pick_ap (λ (y : Machine). y.segments) (ltb i 8) _ _ ∙ pick_same _ _

-- two sound machines that agree: the second is the first with memories and tables of its own
module _ (r : ℕ) (m : Machine) (b : Buffers) (ms : List Memory) (ts : List Table) (bs cs : List ℕ)
    (e : sound_over m b ≡ true) (e' : sound_over (beside m ms ts) (buffers bs cs b.items) ≡ true)
    (w : Watched) (g : Agree w m b (beside m ms ts) (buffers bs cs b.items)) where
  -- the second machine, and its buffers
  abbrev pub m' : Machine
  m' = beside m ms ts

  abbrev pub b' : Buffers
  b' = buffers bs cs b.items

  -- an operation that both accept, and what it leaves of each
  abbrev pub Taken : Operation → Type 0
  Taken op = (accepted (step r m b op).answer ≡ true) × (accepted (step r m' b' op).answer ≡ true)

  abbrev pub left : Operation → Stepped
  left = accepted_step r m b

  abbrev pub left' : Operation → Stepped
  left' = accepted_step r m' b'

  abbrev pub MemoryAfter : Operation → ℕ → Type 0
  MemoryAfter op i = SameMemory (left op).machine (left op).buffers (left' op).machine (left' op).buffers i

  abbrev pub TableAfter : Operation → ℕ → Type 0
  TableAfter op i = SameTable (left op).machine (left op).buffers (left' op).machine (left' op).buffers i

  -- the room left and the watched instances of each kind
  pub record Memories (op : Operation) : Type 0 where
    pub room : length (left op).buffers.bytes - next_byte (left op).machine ≡ length (left' op).buffers.bytes - next_byte (left' op).machine
    pub each : (i : ℕ) → w.memory i ≡ true → i < (effects r m b op).out.counts.memories → MemoryAfter op i

  pub record Tables (op : Operation) : Type 0 where
    pub room : length (left op).buffers.cells - next_cell (left op).machine ≡ length (left' op).buffers.cells - next_cell (left' op).machine
    pub each : (i : ℕ) → w.table i ≡ true → i < (effects r m b op).out.counts.tables → TableAfter op i

  module _ (op : Operation) (a : Taken op) where
    -- as many instances in use: as much room is left
    same_bytes : (effects r m b op).out.counts.memories ≡ m.counts.memories → (effects r m' b' op).out.counts.memories ≡ m.counts.memories
        → length (left op).buffers.bytes - next_byte (left op).machine ≡ length (left' op).buffers.bytes - next_byte (left' op).machine
    same_bytes q q' = byte_room r m b op e a.0 q ∙ g.rest.bytes ∙ sym (byte_room r m' b' op e' a.1 q')

    same_cells : (effects r m b op).out.counts.tables ≡ m.counts.tables → (effects r m' b' op).out.counts.tables ≡ m.counts.tables
        → length (left op).buffers.cells - next_cell (left op).machine ≡ length (left' op).buffers.cells - next_cell (left' op).machine
    same_cells q q' = cell_room r m b op e a.0 q ∙ g.rest.cells ∙ sym (cell_room r m' b' op e' a.1 q')

    -- an instance that is not the target
    memory_other : (i : ℕ) → w.memory i ≡ true → i < m.counts.memories
        → (target_of m op ≡ InMemory i → ⊥) → (target_of m' op ≡ InMemory i → ⊥) → MemoryAfter op i
    memory_other i v h t t' =
        let p = g.memory i v h in
        let o = others r m b op e a.0 in
        let o' = others r m' b' op e' a.1 in
        let z = (sound_is _ _ (memory_sound m _ _ _ e i h)).held in
        let z' = (sound_is _ _ (memory_sound m' _ _ _ e' i h)).held in
        same_memory _ _ _ _ i _ _ (o.memory i h t) (o'.memory i h t') p.ty p.room p.size
        (first_alike _ _ _ _ _ _ _ refl z (o.bytes i h t) ∙ p.bytes ∙ sym (first_alike _ _ _ _ _ _ _ refl z' (o'.bytes i h t')))

    table_other : (i : ℕ) → w.table i ≡ true → i < m.counts.tables
        → (target_of m op ≡ InTable i → ⊥) → (target_of m' op ≡ InTable i → ⊥) → TableAfter op i
    table_other i v h t t' =
        let p = g.table i v h in
        let o = others r m b op e a.0 in
        let o' = others r m' b' op e' a.1 in
        let z = sound_size_lem _ _ (table_sound m _ _ _ e i h) in
        let z' = sound_size_lem _ _ (table_sound m' _ _ _ e' i h) in
        same_table_lem _ _ _ _ i _ _ (o.table i h t) (o'.table i h t') p.ty p.room p.size
        (first_alike _ _ _ _ _ _ _ refl z (o.cells i h t) ∙ p.cells ∙ sym (first_alike _ _ _ _ _ _ _ refl z' (o'.cells i h t')))

    -- the target is of another kind
    memories_stay : eqb (kind_of (target_of m op)) 1 ≡ false → eqb (kind_of (target_of m' op)) 1 ≡ false
        → (effects r m b op).out.counts.memories ≡ m.counts.memories → (effects r m' b' op).out.counts.memories ≡ m.counts.memories → Memories op
    unfolding kind_of
    memories_stay t t' q q' =
        record { room = same_bytes q q'; each = λ i v h. memory_other i v (omega arith) (unlike {u = InMemory i} t) (unlike {u = InMemory i} t') }

    tables_stay : eqb (kind_of (target_of m op)) 2 ≡ false → eqb (kind_of (target_of m' op)) 2 ≡ false
        → (effects r m b op).out.counts.tables ≡ m.counts.tables → (effects r m' b' op).out.counts.tables ≡ m.counts.tables → Tables op
    unfolding kind_of
    tables_stay t t' q q' =
        record { room = same_cells q q'; each = λ i v h. table_other i v (omega arith) (unlike {u = InTable i} t) (unlike {u = InTable i} t') }

    items_stay : eqb (kind_of (target_of m op)) 4 ≡ false → eqb (kind_of (target_of m' op)) 4 ≡ false → (left op).buffers.items ≡ (left' op).buffers.items
    unfolding kind_of
    items_stay t t' =
        (others r m b op e a.0).kept (unlike {u = NewItems} t) ∙ sym ((others r m' b' op e' a.1).kept (unlike {u = NewItems} t'))

    -- the target, and the others
    memories_but : (k : ℕ) → target_of m op ≡ InMemory k → target_of m' op ≡ InMemory k
        → ((i : ℕ) → i < (effects r m b op).out.counts.memories → (i ≡ k → ⊥) → i < m.counts.memories)
        → (k < (effects r m b op).out.counts.memories → MemoryAfter op k)
        → (i : ℕ) → w.memory i ≡ true → i < (effects r m b op).out.counts.memories → MemoryAfter op i
    unfolding number_in
    memories_but k t t' u f i v h =
        at_place k i (MemoryAfter op)
        (λ z. f (omega arith))
        (λ z. memory_other i v (u i h z) (λ y. z (ap number_in (sym y ∙ t))) (λ y. z (ap number_in (sym y ∙ t'))))

    tables_but : (k : ℕ) → target_of m op ≡ InTable k → target_of m' op ≡ InTable k
        → ((i : ℕ) → i < (effects r m b op).out.counts.tables → (i ≡ k → ⊥) → i < m.counts.tables)
        → (k < (effects r m b op).out.counts.tables → TableAfter op k)
        → (i : ℕ) → w.table i ≡ true → i < (effects r m b op).out.counts.tables → TableAfter op i
    unfolding number_in
    tables_but k t t' u f i v h =
        at_place k i (TableAfter op)
        (λ z. f (omega arith))
        (λ z. table_other i v (u i h z) (λ y. z (ap number_in (sym y ∙ t))) (λ y. z (ap number_in (sym y ∙ t'))))

  -- 10: the memory made
  memory_made_lem : (room : ℕ) (q : WantedMemory) → Taken (op.NewMemory room q) → Memories (op.NewMemory room q)
  unfolding accepted_step effect_of target_of put
  memory_made_lem room q a =
      let o = op.NewMemory room q in
      let p = made_memory_lem m b e r room q a.0 in
      let p' = made_memory_lem m' b' e' r room q a.1 in
      record {
        room = byte_room_less r m b o e a.0 _ refl p ∙ omega (arith, g.rest.bytes) ∙ sym (byte_room_less r m' b' o e' a.1 _ refl p');
        each = memories_but o a _ refl refl (λ i h z. omega arith)
            (λ h.
            same_memory _ _ _ _ _ _ _ p p' refl refl refl
            (made_alike b.bytes bs _ _ (least_of q) 0 (next_byte_inside m _ _ _ e) (next_byte_inside m' _ _ _ e')));
      }

  -- 20: the table made
  table_made_lem : (room : ℕ) (q : WantedTable) (x : TypedRawRef) → Taken (op.NewTable room q x) → Tables (op.NewTable room q x)
  unfolding accepted_step effect_of target_of put
  table_made_lem room q x a =
      let o = op.NewTable room q x in
      let p = made_table_lem m b e r room q x a.0 in
      let p' = made_table_lem m' b' e' r room q x a.1 in
      record {
        room = cell_room_less r m b o e a.0 _ refl p ∙ omega (arith, g.rest.cells) ∙ sym (cell_room_less r m' b' o e' a.1 _ refl p');
        each = tables_but o a _ refl refl (λ i h z. omega arith)
            (λ h.
            same_table_lem _ _ _ _ _ _ _ p p' refl refl refl
            (made_alike b.cells cs _ _ q.limits.minimum x.raw.bits (next_cell_inside m _ _ _ e) (next_cell_inside m' _ _ _ e')));
      }

  -- the size of the memory named
  memory_sizes : (i : ℕ) (o : MemoryOp) → SameMemory m b m' b' i → (memory_effect (memory_at m i) b.bytes o).size ≡ (memory_effect (memory_at m' i) bs o).size
  unfolding memory_effect pages_of
  memory_sizes i (memory.Grow pages) v =
      along (λ (t : MemoryType) (z : ℕ). (z / page_bytes t.page + pages) * page_bytes t.page) v.ty v.size
  memory_sizes i memory.Size v = v.size
  memory_sizes i (memory.Load kind pointer offset) v = v.size
  memory_sizes i (memory.Store kind pointer offset bits) v = v.size
  memory_sizes i (memory.LinkCheck wanted) v = v.size

  -- its bytes
  memory_bytes : (i : ℕ) (o : MemoryOp) → Taken (op.Memory i o) → i < m.counts.memories → SameMemory m b m' b' i
      → cut (put b (memory_effect (memory_at m i) b.bytes o).span).bytes (memory_at m i).start (memory_effect (memory_at m i) b.bytes o).size
      ≡ cut (put b' (memory_effect (memory_at m' i) bs o).span).bytes (memory_at m' i).start (memory_effect (memory_at m' i) bs o).size
  unfolding put memory_effect holds checks_of given memory_checks reaches
  memory_bytes i (memory.Grow pages) a h v =
      let x = memory_at m i in
      let x' = memory_at m' i in
      let s = sound_is x _ (memory_sound m _ _ _ e i h) in
      let s' = sound_is x' _ (memory_sound m' _ _ _ e' i h) in
      let f = memory_held m b e r i (memory.Grow pages) h a.0 in
      let c : grown_size x pages ≡ grown_size x' pages = memory_sizes i (memory.Grow pages) v in
      let k = grown_size x pages - x.size in
      let q : grown_size x pages ≡ x.size + k = omega (arith, reach_more x pages _ s) in
      let d : k ≡ grown_size x' pages - x'.size = omega (arith, v.size) in
      let q' : x'.size + k ≡ grown_size x' pages = omega (arith, v.size) in
      ap (cut (over b.bytes (x.start + x.size) (replicate k 0)) x.start) q
      ∙ more_alike b.bytes bs _ _ _ _ k 0 v.size (omega (arith, s.inside)) (omega (arith, s'.inside, v.room, v.size)) v.bytes
      ∙ along (λ (j n : ℕ). cut (over bs (x'.start + x'.size) (replicate j 0)) x'.start n) d q'
  memory_bytes i memory.Size a h v = v.bytes
  memory_bytes i (memory.Load kind pointer offset) a h v = v.bytes
  memory_bytes i (memory.Store kind pointer offset bits) a h v =
      let n = width_bytes (store_width kind) in
      let k = within_is _ _ _ (both_2 _ _ (both_2 _ _ (on_occasion r m b (op.Memory i (memory.Store kind pointer offset bits)) e a.0))) in
      inside_alike b.bytes bs _ _ _ _ (pointer + offset) (le_bytes n bits) v.size (omega (arith, length_bytes n bits))
      (sound_used _ _ (memory_sound m _ _ _ e i h)) (sound_used _ _ (memory_sound m' _ _ _ e' i h)) v.bytes
  memory_bytes i (memory.LinkCheck wanted) a h v = v.bytes

  -- 11 to 14, 30: the memory named
  memory_named : (k : ℕ) (o : MemoryOp) → w.memory k ≡ true → Taken (op.Memory k o) → Memories (op.Memory k o)
  unfolding accepted_step effect_of target_of put
  memory_named k o n a =
      record {
        room = same_bytes (op.Memory k o) a refl refl;
        each = memories_but (op.Memory k o) a k refl refl (λ i h z. h)
            (λ h.
            let p = g.memory k n h in
            same_memory _ _ _ _ k _ _ (named_memory m b e r k o h) (named_memory m' b' e' r k o h) p.ty p.room (memory_sizes k o p)
            (memory_bytes k o a h p));
      }

  -- the size of the table named
  table_sizes : (i : ℕ) (o : TableOp) → SameTable m b m' b' i → (table_effect (table_at m i) b.cells o).size ≡ (table_effect (table_at m' i) cs o).size
  unfolding table_effect
  table_sizes i (table.Grow cells value) v = ap (λ (z : ℕ). z + cells) v.size
  table_sizes i table.Size v = v.size
  table_sizes i (table.Get index) v = v.size
  table_sizes i (table.Set index value) v = v.size
  table_sizes i (table.Fill start value len) v = v.size

  -- the same cells replaced inside it
  table_put : (i at : ℕ) (vs : List ℕ) → i < m.counts.tables → SameTable m b m' b' i → at + length vs ≤ (table_at m i).size
      → cut (over b.cells ((table_at m i).start + at) vs) (table_at m i).start (table_at m i).size
      ≡ cut (over cs ((table_at m' i).start + at) vs) (table_at m' i).start (table_at m' i).size
  table_put i at vs h v k =
      inside_alike b.cells cs _ _ _ _ at vs v.size k
      (sound_within _ _ (table_sound m _ _ _ e i h)) (sound_within _ _ (table_sound m' _ _ _ e' i h)) v.cells

  -- its cells
  table_cells : (i : ℕ) (o : TableOp) → Taken (op.Table i o) → i < m.counts.tables → SameTable m b m' b' i
      → cut (put b (table_effect (table_at m i) b.cells o).span).cells (table_at m i).start (table_effect (table_at m i) b.cells o).size
      ≡ cut (put b' (table_effect (table_at m' i) cs o).span).cells (table_at m' i).start (table_effect (table_at m' i) cs o).size
  unfolding put table_effect holds checks_of given table_checks
  table_cells i (table.Grow cells value) a h v =
      let f = table_held m b e r i (table.Grow cells value) h a.0 in
      let f' = table_held m' b' e' r i (table.Grow cells value) h a.1 in
      let k : (table_at m i).start + (table_at m i).room ≤ length b.cells = sound_room_lem _ _ (table_sound m _ _ _ e i h) in
      let k' : (table_at m' i).start + (table_at m' i).room ≤ length cs = sound_room_lem _ _ (table_sound m' _ _ _ e' i h) in
      more_alike b.cells cs _ _ _ _ cells value.raw.bits v.size (omega arith) (omega arith) v.cells
  table_cells i table.Size a h v = v.cells
  table_cells i (table.Get index) a h v = v.cells
  table_cells i (table.Set index value) a h v =
      let c = on_occasion r m b (op.Table i (table.Set index value)) e a.0 in
      let k : index < (table_at m i).size = ltb-true _ _ (both_2 _ _ (both_2 _ _ c)) in
      table_put i index (replicate 1 value.raw.bits) h v (omega (arith, length-replicate 1 value.raw.bits))
  table_cells i (table.Fill start value len) a h v =
      let c = on_occasion r m b (op.Table i (table.Fill start value len)) e a.0 in
      let k : start + len ≤ (table_at m i).size = within_is _ _ _ (both_1 _ _ (both_2 _ _ (both_2 _ _ c))) in
      table_put i start (replicate len value.raw.bits) h v (omega (arith, length-replicate len value.raw.bits))

  -- 21 to 25: the table named
  table_named : (k : ℕ) (o : TableOp) → w.table k ≡ true → Taken (op.Table k o) → Tables (op.Table k o)
  unfolding accepted_step effect_of target_of put
  table_named k o n a =
      record {
        room = same_cells (op.Table k o) a refl refl;
        each = tables_but (op.Table k o) a k refl refl (λ i h z. h)
            (λ h.
            let p = g.table k n h in
            same_table_lem _ _ _ _ k _ _ (named_table m b e r k o h) (named_table m' b' e' r k o h) p.ty p.room (table_sizes k o p)
            (table_cells k o a h p));
      }

  -- 26: the destination, by cells of a source that is the same in both
  table_copied : (k j : ℕ) (s : CopySpan) → w.table k ≡ true → w.table j ≡ true → Taken (op.TableCopy k j s) → Tables (op.TableCopy k j s)
  unfolding accepted_step effect_of target_of put changed holds checks_of given
  table_copied k j s n u a =
      let c = on_occasion r m b (op.TableCopy k j s) e a.0 in
      let y : j < m.counts.tables = ltb-true _ _ (both_2 _ _ (both_1 _ _ c)) in
      let within = both_1 _ _ (both_2 _ _ (both_2 _ _ c)) in
      let t : s.to + s.len ≤ (table_at m k).size = within_is _ _ _ (both_1 _ _ within) in
      let f : s.from + s.len ≤ (table_at m j).size = within_is _ _ _ (both_2 _ _ within) in
      let q = g.table j u y in
      record {
        room = same_cells (op.TableCopy k j s) a refl refl;
        each = tables_but (op.TableCopy k j s) a k refl refl (λ i h z. h)
            (λ h.
            let p = g.table k n h in
            same_table_lem _ _ _ _ k _ _ refl refl p.ty p.room p.size
            (table_put k s.to _ h p (omega (arith, cut_short b.cells ((table_at m j).start + s.from) s.len))
            ∙ ap (λ (x : List ℕ). cut (over cs ((table_at m' k).start + s.to) x) (table_at m' k).start (table_at m' k).size)
            (part_alike b.cells cs _ _ _ _ s.from s.len q.size f q.cells)));
      }

  -- 27: the table named, by the same items
  table_inited : (k j : ℕ) (s : CopySpan) → w.table k ≡ true → Taken (op.TableInit k j s) → Tables (op.TableInit k j s)
  unfolding accepted_step effect_of target_of put changed holds checks_of given
  table_inited k j s n a =
      let c = on_occasion r m b (op.TableInit k j s) e a.0 in
      let t : s.to + s.len ≤ (table_at m k).size = within_is _ _ _ (both_1 _ _ (both_1 _ _ (both_2 _ _ (both_2 _ _ c)))) in
      record {
        room = same_cells (op.TableInit k j s) a refl refl;
        each = tables_but (op.TableInit k j s) a k refl refl (λ i h z. h)
            (λ h.
            let p = g.table k n h in
            same_table_lem _ _ _ _ k _ _ refl refl p.ty p.room p.size
            (table_put k s.to _ h p (omega (arith, cut_short b.items ((segment_at m j).start + s.from) s.len))));
      }

  -- no record put, or the same segment
  none_put : (changed change.Nothing m).segments ≡ (changed change.Nothing m').segments
  unfolding changed
  none_put = refl

  segment_put : (i : ℕ) (x : ElementSegment) → (changed (change.Segment i x) m).segments ≡ (changed (change.Segment i x) m').segments
  unfolding changed
  segment_put i x = pick_ap (λ (y : Machine). y.segments) (ltb i 8) _ _ ∙ sym (pick_ap (λ (y : Machine). y.segments) (ltb i 8) _ _)

  -- the segments after each operation
  pub segments_after : (op : Operation) → (changed (effects r m b op).out.change m).segments ≡ (changed (effects r m' b' op).out.change m').segments
  unfolding effect_of next_item
  segments_after (op.Fuel o) = none_put
  segments_after (op.NewMemory room wanted) = memory_segments m _ _ ∙ sym (memory_segments m' _ _)
  segments_after (op.Memory number o) = memory_segments m _ _ ∙ sym (memory_segments m' _ _)
  segments_after (op.NewTable room wanted initial) = table_segments m _ _ ∙ sym (table_segments m' _ _)
  segments_after (op.Table number o) = table_segments m _ _ ∙ sym (table_segments m' _ _)
  segments_after (op.TableCopy into source span) = none_put
  segments_after (op.TableInit table segment span) = none_put
  segments_after (op.DropSegment segment) = segment_put _ _
  segments_after (op.NewSegment element items) = segment_put _ _

  -- the numbers
  pub counts_after : (op : Operation) → (effects r m b op).out.counts ≡ (effects r m' b' op).out.counts
  unfolding effect_of
  counts_after (op.Fuel o) = refl
  counts_after (op.NewMemory room wanted) = refl
  counts_after (op.Memory number o) = refl
  counts_after (op.NewTable room wanted initial) = refl
  counts_after (op.Table number o) = refl
  counts_after (op.TableCopy into source span) = refl
  counts_after (op.TableInit table segment span) = refl
  counts_after (op.DropSegment segment) = refl
  counts_after (op.NewSegment element items) = refl

  -- the items
  pub items_after : (op : Operation) → Taken op → (put b (effects r m b op).span).items ≡ (put b' (effects r m' b' op).span).items
  unfolding put effect_of accepted_step target_of kind_of next_item
  items_after (op.Fuel o) a = refl
  items_after (op.NewMemory room wanted) a = refl
  items_after (op.Memory number o) a = items_stay (op.Memory number o) a refl refl
  items_after (op.NewTable room wanted initial) a = refl
  items_after (op.Table number o) a = items_stay (op.Table number o) a refl refl
  items_after (op.TableCopy into source span) a = refl
  items_after (op.TableInit table segment span) a = refl
  items_after (op.DropSegment segment) a = refl
  items_after (op.NewSegment element items) a = refl

  -- the memories
  pub memories_after : (op : Operation) → names_only w op ≡ true → Taken op → Memories op
  unfolding names_only target_of effect_of kind_of
  memories_after (op.Fuel o) n a = memories_stay (op.Fuel o) a refl refl refl refl
  memories_after (op.NewMemory room wanted) n a = memory_made_lem room wanted a
  memories_after (op.Memory number o) n a = memory_named number o n a
  memories_after (op.NewTable room wanted initial) n a = memories_stay (op.NewTable room wanted initial) a refl refl refl refl
  memories_after (op.Table number o) n a = memories_stay (op.Table number o) a refl refl refl refl
  memories_after (op.TableCopy into source span) n a = memories_stay (op.TableCopy into source span) a refl refl refl refl
  memories_after (op.TableInit table segment span) n a = memories_stay (op.TableInit table segment span) a refl refl refl refl
  memories_after (op.DropSegment segment) n a = memories_stay (op.DropSegment segment) a refl refl refl refl
  memories_after (op.NewSegment element items) n a = memories_stay (op.NewSegment element items) a refl refl refl refl

  -- the tables
  pub tables_after : (op : Operation) → names_only w op ≡ true → Taken op → Tables op
  unfolding names_only target_of effect_of kind_of
  tables_after (op.Fuel o) n a = tables_stay (op.Fuel o) a refl refl refl refl
  tables_after (op.NewMemory room wanted) n a = tables_stay (op.NewMemory room wanted) a refl refl refl refl
  tables_after (op.Memory number o) n a = tables_stay (op.Memory number o) a refl refl refl refl
  tables_after (op.NewTable room wanted initial) n a = table_made_lem room wanted initial a
  tables_after (op.Table number o) n a = table_named number o n a
  tables_after (op.TableCopy into source span) n a = table_copied into source span (both_1 _ _ n) (both_2 _ _ n) a
  tables_after (op.TableInit table segment span) n a = table_inited table segment span n a
  tables_after (op.DropSegment segment) n a = tables_stay (op.DropSegment segment) a refl refl refl refl
  tables_after (op.NewSegment element items) n a = tables_stay (op.NewSegment element items) a refl refl refl refl
