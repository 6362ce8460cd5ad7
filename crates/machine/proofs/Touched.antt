-- What an operation does to records in use and to the cells of their rooms, over any kind of record; each operation touches its target alone. Assumes nothing.
use Rattle.std.specs.Prelude.{Ok, Err, Result}
use Rattle.types.proofs.Prelude.{ℕ, ◌+◌, ◌-◌, ◌≤◌, ◌<◌, ◌≡◌, refl, sym, ap, subst, ◌∙◌, Bool, true, false, List, arith, eqb, ltb, length, take, drop, get_or, set}
use Rattle.types.proofs.Prelude.{drop-drop, lt-ltb, eqb-true, eqb-false, ltb-true, ltb-false, pick_true, both_1, either}
use Rattle.types.proofs.Spans.{length_over, over_low, over_after, cut_of}
use mathlib.Core.Logic.{◌⊎◌, inl, inr}
use lib.Seq.{take-take, get_or-set_same, get_or-set_other}
use Rattle.types.specs.{Pick.pick, Span.cut, Done.Done, declared.fuel.Fuel.Fuel, declared.limiter.Limiter.Limiter, declared.raw.RefType.RefType}
use Rattle.types.specs.{declared.raw.TypedRawRef.TypedRawRef, declared.memory_ty.MemoryType.MemoryType, declared.memory_ty.WantedMemory.WantedMemory}
use Rattle.types.specs.{declared.span.CopySpan.CopySpan, declared.table_ty.WantedTable.WantedTable}
use Rattle.memory.specs.{declared.grow.GrownMemory.GrownMemory, declared.new.CreatedMemory.CreatedMemory, Memory.sound_memory, declared.memory.Memory.Memory}
use Rattle.memory.specs.{New.new_memory, Grow.grow_memory}
use Rattle.table.specs.{declared.grow.GrownTable.GrownTable, declared.new.CreatedTable.CreatedTable, Table.sound_table, New.new_table, Grow.grow_table}
use Rattle.table.specs.{Element.dropped, Element.new_segment, Element.sound_segment}
use Rattle.table.specs.{declared.table.Table.Table, declared.element.ElementSegment.ElementSegment}
use Rattle.memory.proofs.Sounds.{sound_is}
use Rattle.table.proofs.Frames.{Kept, dropped_sound}
use Rattle.machine.specs.Machine.{Buffers, buffers, no_memory, no_table, no_segment, memory_at, table_at, segment_at, next_byte, next_cell, next_item}
use Rattle.machine.specs.Sound.{sound_list, sound_memories, sound_tables, sound_segments, sound_over}
use Rattle.machine.specs.Frame.{InMemory, InTable, InSegment, NewItems, target_of}
use Rattle.machine.specs.Outcome.{with_memories, with_tables, with_segments, changed, standing, one_memory_more, one_table_more, one_segment_more, settled}
use Rattle.machine.specs.{Operation.well_formed, Operation.items_of, Fueling.on_fuel}
use Rattle.machine.specs.Memories.{perform_memory, on_memory, made_memory, new_memory_on}
use Rattle.machine.specs.Tables.{perform_table, on_table, made_table, new_table_on, copy_on}
use Rattle.machine.specs.Segments.{init_on, drop_on, made_segment, new_segment_on}
use Rattle.machine.specs.Step.{Performed, on_none, on_bytes, on_cells, on_items, perform, decide, step}
use Rattle.machine.specs.{declared.records.Machine.Machine, declared.outcome.Outcome.Outcome, declared.operation.Operation.Operation}
use Rattle.machine.specs.{declared.operation.MemoryOp.MemoryOp, declared.operation.TableOp.TableOp}
use Rattle.machine.proofs.Rooms.{Parts, parts, memory_sound, table_sound, segment_sound}
use Rattle.memory.specs.Memory as of_memory_lem
use Rattle.memory.proofs.Frames as memory_frames
use Rattle.table.specs.Table as of_table_lem
use Rattle.table.proofs.Frames as table_frames
use Rattle.machine.specs.declared.outcome.Change.TheVariants as change
use Rattle.machine.specs.declared.operation.Operation.TheVariants as op
use Rattle.machine.specs.declared.operation.MemoryOp.TheVariants as memory
use Rattle.machine.specs.declared.operation.TableOp.TheVariants as table
use Rattle.machine.proofs.ListLaws as lists
use Rattle.types.specs.declared.answer.Refusal.{Refusal}

-- spans that lie apart from the cells that may differ are as they were
module _ (x e : ℕ) (cs ds : List ℕ) (w : Kept x e cs ds) where
  cut_before : (b k : ℕ) → b + k ≤ x → cut ds b k ≡ cut cs b k
  unfolding cut
  cut_before b k h =
      let up : (l : List ℕ) → take (b + k) (take x l) ≡ take (b + k) l = λ l. take-take (b + k) x l h in
      cut_of ds b k ∙ ap (drop b) (sym (up ds) ∙ ap (take (b + k)) w.before ∙ up cs) ∙ sym (cut_of cs b k)

  cut_after : (b k : ℕ) → e ≤ b → cut ds b k ≡ cut cs b k
  unfolding cut
  cut_after b k h =
      let q : e + (b - e) ≡ b = omega arith in
      let on : (l : List ℕ) → drop (b - e) (drop e l) ≡ drop b l = λ l. drop-drop (b - e) e l ∙ ap (λ (j : ℕ). drop j l) q in
      ap (take k) (sym (on ds) ∙ ap (drop (b - e)) w.after ∙ on cs)

module _ {A : Type 0} (start room : A → ℕ) (d : A) (n : ℕ) (rs : List A) where
  -- the cells after an operation: as many as before, and those of each room in use the same but where P holds
  pub record Celled (P : ℕ → Type 0) (cs ds : List ℕ) : Type 0 where
    pub long : length ds ≡ length cs
    pub others : (i : ℕ) → i < n → (P i → ⊥) → cut ds (start (get_or rs i d)) (room (get_or rs i d)) ≡ cut cs (start (get_or rs i d)) (room (get_or rs i d))

  pub cells_stay : (P : ℕ → Type 0) (cs : List ℕ) → Celled P cs cs
  cells_stay P cs = record { long = refl; others = λ i h p. refl }

  -- the records after an operation, n' in use: sound, each in use before like what it was, and the same but where P holds
  pub record Listed (sound : A → Bool) (Like : A → A → Type 0) (P : ℕ → Type 0) (n' : ℕ) (rs' : List A) : Type 0 where
    pub sounds : sound_list sound start (λ (r : A). start r + room r) n' rs' ≡ true
    pub others : (i : ℕ) → i < n → (P i → ⊥) → get_or rs' i d ≡ get_or rs i d
    pub like : (i : ℕ) → i < n → Like (get_or rs i d) (get_or rs' i d)

  module _ (sound : A → Bool) (P : ℕ → Type 0) (e : sound_list sound start (λ (r : A). start r + room r) n rs ≡ true) where
    -- where a room ends
    abbrev end : A → ℕ
    end r = start r + room r

    ordered : (r : A) → start r ≤ end r
    ordered r = omega arith

    -- of two places, at one of which P holds and at the other not
    differ : (i j : ℕ) → P i → (P j → ⊥) → ¬ (j ≡ i)
    differ i j p q h = q (subst P (sym h) p)

    -- only cells of one room differ
    pub cells_change : (i : ℕ) (cs ds : List ℕ) → P i → i < n → Kept (start (get_or rs i d)) (start (get_or rs i d) + room (get_or rs i d)) cs ds → Celled P cs ds
    cells_change i cs ds p h w =
        record {
          long = w.long;
          others = λ j g q.
              let z : ¬ (j ≡ i) = differ i j p q in
              either (ltb j i)
              (λ t. cut_before _ _ cs ds w _ _ (lists.rooms_apart_lem sound start end d n rs e ordered j i (ltb-true j i t) h))
              (λ t.
              let y : i ≤ j = ltb-false j i t in
              cut_after _ _ cs ds w _ _ (lists.rooms_apart_lem sound start end d n rs e ordered i j (omega arith) g));
        }

    -- only cells past every room differ
    pub cells_add : (hi : ℕ) (cs ds : List ℕ) → Kept (lists.next sound start (λ (r : A). start r + room r) d n rs) hi cs ds → Celled P cs ds
    cells_add hi cs ds w = record { long = w.long; others = λ j g q. cut_before _ _ cs ds w _ _ (lists.ends_before_next sound start end d n rs e ordered j g) }

    module _ (Like : A → A → Type 0) (same : (r : A) → Like r r) where
      pub list_stays : Listed sound Like P n rs
      list_stays = record { sounds = e; others = λ i h p. refl; like = λ i h. same _ }

      -- a record is replaced by one like it, of the same room
      pub list_changes : (i : ℕ) (r : A) → P i → i < n → sound r ≡ true → start r ≡ start (get_or rs i d) → room r ≡ room (get_or rs i d) → Like (get_or rs i d) r
          → Listed sound Like P n (set rs i r)
      list_changes i r p h s a z l =
          record {
            sounds = lists.set_sound_lem sound start end d n rs e i r h s a (omega arith);
            others = λ j g q. get_or-set_other rs i j r d (differ i j p q);
            like = λ j g.
                either (eqb j i)
                (λ t.
                let y : j ≡ i = eqb-true j i t in
                subst (λ (k : ℕ). Like (get_or rs k d) (get_or (set rs i r) k d)) (sym y)
                (subst (Like (get_or rs i d)) (sym (get_or-set_same rs i r d (omega (arith, lists.placed sound start end d n rs e)))) l))
                (λ t. subst (Like (get_or rs j d)) (sym (get_or-set_other rs i j r d (eqb-false j i t))) (same _));
          }

      -- one more record, which starts where the last one ends
      pub list_adds : (r : A) → n < 8 → sound r ≡ true → start r ≡ lists.next sound start (λ (r : A). start r + room r) d n rs → Listed sound Like P (n + 1) (set rs n r)
      list_adds r h s a =
          record {
            sounds = lists.add_sound sound start end d n rs e r h s a;
            others = λ j g q. kept j g;
            like = λ j g. subst (Like (get_or rs j d)) (sym (kept j g)) (same _);
          }
        where
          kept : (j : ℕ) → j < n → get_or (set rs n r) j d ≡ get_or rs j d
          kept j g = get_or-set_other rs n j r d (λ y. omega arith)

-- each kind's records and cells, after an operation on a machine whose buffer has so many cells
abbrev pub LikeMemory : Memory → Memory → Type 0
LikeMemory old new = new ≡ of_memory_lem.resized old new.size

abbrev pub LikeTable : Table → Table → Type 0
LikeTable old new = new ≡ of_table_lem.resized old new.size

abbrev pub LikeSegment : ElementSegment → ElementSegment → Type 0
LikeSegment old new = (new ≡ old) ⊎ (new ≡ dropped old)

abbrev pub Memories : Machine → ℕ → (ℕ → Type 0) → Machine → Type 0
Memories m len P m' =
    Listed (λ (r : Memory). r.start) (λ (r : Memory). r.room) no_memory m.counts.memories m.memories
    (λ (r : Memory). sound_memory r len) LikeMemory P m'.counts.memories m'.memories

abbrev pub Tables : Machine → ℕ → (ℕ → Type 0) → Machine → Type 0
Tables m len P m' =
    Listed (λ (r : Table). r.start) (λ (r : Table). r.room) no_table m.counts.tables m.tables
    (λ (r : Table). sound_table r len) LikeTable P m'.counts.tables m'.tables

abbrev pub Segments : Machine → ℕ → (ℕ → Type 0) → Machine → Type 0
Segments m len P m' =
    Listed (λ (r : ElementSegment). r.start) (λ (r : ElementSegment). r.places) no_segment m.counts.segments m.segments
    (λ (r : ElementSegment). sound_segment r len) LikeSegment P m'.counts.segments m'.segments

abbrev pub Bytes : Machine → (ℕ → Type 0) → List ℕ → List ℕ → Type 0
Bytes m P = Celled (λ (r : Memory). r.start) (λ (r : Memory). r.room) no_memory m.counts.memories m.memories P

abbrev pub Cells : Machine → (ℕ → Type 0) → List ℕ → List ℕ → Type 0
Cells m P = Celled (λ (r : Table). r.start) (λ (r : Table). r.room) no_table m.counts.tables m.tables P

abbrev pub Items : Machine → (ℕ → Type 0) → List ℕ → List ℕ → Type 0
Items m P = Celled (λ (r : ElementSegment). r.start) (λ (r : ElementSegment). r.places) no_segment m.counts.segments m.segments P

-- what an operation leaves of a machine and its buffers: all but its target as it was; items change only where a segment is made
pub record Touched (m : Machine) (b : Buffers) (op : Operation) (m' : Machine) (b' : Buffers) : Type 0 where
  pub memories : Memories m (length b.bytes) (λ (i : ℕ). target_of m op ≡ InMemory i) m'
  pub bytes : Bytes m (λ (i : ℕ). target_of m op ≡ InMemory i) b.bytes b'.bytes
  pub tables : Tables m (length b.cells) (λ (i : ℕ). target_of m op ≡ InTable i) m'
  pub cells : Cells m (λ (i : ℕ). target_of m op ≡ InTable i) b.cells b'.cells
  pub segments : Segments m (length b.items) (λ (i : ℕ). target_of m op ≡ InSegment i) m'
  pub items : Items m (λ (i : ℕ). ⊥) b.items b'.items
  pub kept : (target_of m op ≡ NewItems → ⊥) → b'.items ≡ b.items

-- a test and what follows from it
tested : {A : Type 0} (P : A → Type 0) (t : Bool) (x y : A) → (t ≡ true → P x) → P y → P (pick t x y)
unfolding pick
tested P true x y f g = f refl
tested P false x y f g = g

-- only cells from lo up to hi differ
within_kept : (bs : List ℕ) (lo hi : ℕ) (cs : List ℕ) → memory_frames.Within bs lo hi cs → hi ≤ length bs → Kept lo hi bs cs
within_kept bs lo hi cs w h =
    subst (Kept lo hi bs) (sym w.cells)
    (record {
      long = length_over bs w.at w.vs (omega (arith, w.high));
      before = over_low bs w.at w.vs lo w.low (omega (arith, w.high));
      after = over_after bs w.at w.vs hi (omega (arith, w.high)) w.high;
    })

-- a memory of the same type and room is the same but for its size
like_same : (r old : Memory) → memory_frames.Same r old → LikeMemory old r
like_same r old s =
    let of : MemoryType → ℕ → ℕ → Memory = λ t a z. record { ty = t; start = a; room = z; size = r.size } in
    ap (λ (t : MemoryType). of t r.start r.room) s.ty ∙ ap (λ (a : ℕ). of old.ty a r.room) s.start ∙ ap (of old.ty old.start) s.room

-- what an operation on one record leaves: cells of its room alone may differ, and of the record only its size
pub record MemoryRoom (r : Memory) (bs : List ℕ) (d : Done GrownMemory) : Type 0 where
  pub kept : Kept r.start (r.start + r.room) bs d.cells
  pub sound : sound_memory d.out.memory (length bs) ≡ true
  pub like : LikeMemory r d.out.memory

pub record TableRoom (t : Table) (cs : List ℕ) (d : Done GrownTable) : Type 0 where
  pub kept : Kept t.start (t.start + t.room) cs d.cells
  pub sound : sound_table d.out.table (length cs) ≡ true
  pub like : LikeTable t d.out.table

same_cells : (x e : ℕ) (cs : List ℕ) → Kept x e cs cs
same_cells x e cs = record { long = refl; before = refl; after = refl }

pub memory_room : (r : Memory) (bs : List ℕ) (f : Fuel) (l : Limiter) (o : MemoryOp) → sound_memory r (length bs) ≡ true → MemoryRoom r bs (perform_memory r bs f l o)
unfolding perform_memory
memory_room r bs f l (memory.Grow pages) s =
    record {
      kept = within_kept _ _ _ _ (memory_frames.grow_within r bs pages f l) (sound_is r (length bs) s).inside;
      sound = sym (ap (sound_memory (grow_memory r bs pages f l).out.memory) (memory_frames.grow_length r bs pages f l)) ∙ memory_frames.grow_sound_lem r bs pages f l s;
      like = like_same _ _ (memory_frames.grow_same r bs pages f l);
    }
memory_room r bs f l memory.Size s = record { kept = same_cells _ _ bs; sound = s; like = refl }
memory_room r bs f l (memory.Load kind pointer offset) s = record { kept = same_cells _ _ bs; sound = s; like = refl }
memory_room r bs f l (memory.Store kind pointer offset bits) s =
    record {
      kept = within_kept _ _ _ _ (memory_frames.store_within kind r bs pointer offset bits) (sound_is r (length bs) s).inside;
      sound = s;
      like = refl;
    }
memory_room r bs f l (memory.LinkCheck wanted) s = record { kept = same_cells _ _ bs; sound = s; like = refl }

pub table_room : (r : ℕ) (t : Table) (cs : List ℕ) (f : Fuel) (l : Limiter) (o : TableOp) → sound_table t (length cs) ≡ true → TableRoom t cs (perform_table r t cs f l o)
unfolding perform_table
table_room r t cs f l (table.Grow cells value) s =
    let g = table_frames.grow_frame r t cs cells value f l in
    record {
      kept = g.kept;
      sound = sym (ap (sound_table (grow_table r t cs cells value f l).out.table) g.kept.long) ∙ g.sound s;
      like = g.same;
    }
table_room r t cs f l table.Size s = record { kept = same_cells _ _ cs; sound = s; like = refl }
table_room r t cs f l (table.Get index) s = record { kept = same_cells _ _ cs; sound = s; like = refl }
table_room r t cs f l (table.Set index value) s = record { kept = (table_frames.set_frame t cs index value).kept; sound = s; like = refl }
table_room r t cs f l (table.Fill start value len) s =
    record { kept = (table_frames.fill_frame r t cs (record { start = start; len = len }) f value).kept; sound = s; like = refl }

-- the same machine with other records of one kind, so many of them in use
abbrev memories_to : Machine → List Memory → ℕ → Machine
memories_to m rs n = standing (with_memories m rs) (record { memories = n; tables = m.counts.tables; segments = m.counts.segments }) m.fuel m.limiter

abbrev tables_to : Machine → List Table → ℕ → Machine
tables_to m rs n = standing (with_tables m rs) (record { memories = m.counts.memories; tables = n; segments = m.counts.segments }) m.fuel m.limiter

abbrev segments_to : Machine → List ElementSegment → ℕ → Machine
segments_to m rs n = standing (with_segments m rs) (record { memories = m.counts.memories; tables = m.counts.tables; segments = n }) m.fuel m.limiter

-- records and numbers after an outcome, with fuel and limiter as before
abbrev recorded : Machine → Outcome → Machine
recorded m o = standing (changed o.change m) o.counts m.fuel m.limiter

module _ (m : Machine) (b : Buffers) (op : Operation) (e : sound_over m b ≡ true) where
  -- what the operation may leave, and what is sound before it
  abbrev To : Machine → Buffers → Type 0
  To m' b' = Touched m b op m' b'

  abbrev sounds : Parts m (length b.bytes) (length b.cells) (length b.items)
  sounds = parts m (length b.bytes) (length b.cells) (length b.items) e

  -- each kind, where its list stays
  memories_stay : Memories m (length b.bytes) (λ (i : ℕ). target_of m op ≡ InMemory i) m
  unfolding sound_memories
  memories_stay = list_stays _ _ _ _ _ _ _ sounds.memories _ (λ r. refl)

  tables_stay : Tables m (length b.cells) (λ (i : ℕ). target_of m op ≡ InTable i) m
  unfolding sound_tables
  tables_stay = list_stays _ _ _ _ _ _ _ sounds.tables _ (λ r. refl)

  segments_stay : Segments m (length b.items) (λ (i : ℕ). target_of m op ≡ InSegment i) m
  unfolding sound_segments
  segments_stay = list_stays _ _ _ _ _ _ _ sounds.segments _ (λ r. inl refl)

  -- nothing changes
  stays : To m b
  stays =
      record {
        memories = memories_stay;
        bytes = cells_stay _ _ _ _ _ _ _;
        tables = tables_stay;
        cells = cells_stay _ _ _ _ _ _ _;
        segments = segments_stay;
        items = cells_stay _ _ _ _ _ _ _;
        kept = λ h. refl;
      }

  -- nor where the buffers are equal
  still : (b' : Buffers) → b' ≡ b → To m b'
  still b' q = subst (To m) (sym q) stays

  -- memories and bytes alone change
  on_bytes_lem : (rs : List Memory) (n : ℕ) (bs : List ℕ) → Memories m (length b.bytes) (λ (i : ℕ). target_of m op ≡ InMemory i) (memories_to m rs n)
      → Bytes m (λ (i : ℕ). target_of m op ≡ InMemory i) b.bytes bs → To (memories_to m rs n) (buffers bs b.cells b.items)
  on_bytes_lem rs n bs l c =
      record { memories = l; bytes = c; tables = tables_stay; cells = cells_stay _ _ _ _ _ _ _; segments = segments_stay; items = cells_stay _ _ _ _ _ _ _; kept = λ h. refl }

  -- tables and cells alone change
  on_cells_lem : (rs : List Table) (n : ℕ) (cs : List ℕ) → Tables m (length b.cells) (λ (i : ℕ). target_of m op ≡ InTable i) (tables_to m rs n)
      → Cells m (λ (i : ℕ). target_of m op ≡ InTable i) b.cells cs → To (tables_to m rs n) (buffers b.bytes cs b.items)
  on_cells_lem rs n cs l c =
      record { memories = memories_stay; bytes = cells_stay _ _ _ _ _ _ _; tables = l; cells = c; segments = segments_stay; items = cells_stay _ _ _ _ _ _ _; kept = λ h. refl }

  -- segments and items alone change
  on_items_lem : (rs : List ElementSegment) (n : ℕ) (is : List ℕ) → Segments m (length b.items) (λ (i : ℕ). target_of m op ≡ InSegment i) (segments_to m rs n)
      → Items m (λ (i : ℕ). ⊥) b.items is → ((target_of m op ≡ NewItems → ⊥) → is ≡ b.items) → To (segments_to m rs n) (buffers b.bytes b.cells is)
  on_items_lem rs n is l c k =
      record { memories = memories_stay; bytes = cells_stay _ _ _ _ _ _ _; tables = tables_stay; cells = cells_stay _ _ _ _ _ _ _; segments = l; items = c; kept = k }

  module _ (i : ℕ) (h : i < m.counts.memories) (p : target_of m op ≡ InMemory i) (bs : List ℕ)
      (w : Kept (memory_at m i).start ((memory_at m i).start + (memory_at m i).room) b.bytes bs) where
    bytes_change : Bytes m (λ (i : ℕ). target_of m op ≡ InMemory i) b.bytes bs
    unfolding sound_memories
    bytes_change = cells_change _ _ _ _ _ _ _ sounds.memories i b.bytes bs p h w

    -- bytes and size of one memory
    memory_changed : (r : Memory) → sound_memory r (length b.bytes) ≡ true → LikeMemory (memory_at m i) r
        → To (standing (changed (change.Memory i r) m) m.counts m.fuel m.limiter) (buffers bs b.cells b.items)
    unfolding sound_memories changed
    memory_changed r s l =
        subst (λ (m' : Machine). To (standing m' m.counts m.fuel m.limiter) (buffers bs b.cells b.items))
        (sym (pick_true _ _ _ (lt-ltb i 8 (omega (arith, h, lists.few _ _ _ no_memory _ _ sounds.memories)))))
        (on_bytes_lem _ _ bs
        (list_changes _ _ _ _ _ _ _ sounds.memories _ (λ r. refl) i r p h s (ap (λ (x : Memory). x.start) l) (ap (λ (x : Memory). x.room) l) l)
        bytes_change)

  -- one more memory
  memory_added : (r : Memory) (hi : ℕ) (bs : List ℕ) → m.counts.memories < 8 → sound_memory r (length b.bytes) ≡ true → r.start ≡ next_byte m
      → Kept (next_byte m) hi b.bytes bs
      → To (standing (changed (change.Memory m.counts.memories r) m) (one_memory_more m.counts) m.fuel m.limiter) (buffers bs b.cells b.items)
  unfolding sound_memories changed next_byte
  memory_added r hi bs h s q w =
      subst (λ (m' : Machine). To (standing m' (one_memory_more m.counts) m.fuel m.limiter) (buffers bs b.cells b.items)) (sym (pick_true _ _ _ (lt-ltb m.counts.memories 8 h)))
      (on_bytes_lem _ _ bs
      (list_adds _ _ _ _ _ _ _ sounds.memories _ (λ r. refl) r h s q)
      (cells_add _ _ _ _ _ _ _ sounds.memories hi b.bytes bs w))

  module _ (i : ℕ) (h : i < m.counts.tables) (p : target_of m op ≡ InTable i) (cs : List ℕ)
      (w : Kept (table_at m i).start ((table_at m i).start + (table_at m i).room) b.cells cs) where
    cells_changed : Cells m (λ (i : ℕ). target_of m op ≡ InTable i) b.cells cs
    unfolding sound_tables
    cells_changed = cells_change _ _ _ _ _ _ _ sounds.tables i b.cells cs p h w

    -- cells of one table
    table_written : To m (buffers b.bytes cs b.items)
    table_written = on_cells_lem m.tables m.counts.tables cs tables_stay cells_changed

    -- and its size
    table_changed : (r : Table) → sound_table r (length b.cells) ≡ true → LikeTable (table_at m i) r
        → To (standing (changed (change.Table i r) m) m.counts m.fuel m.limiter) (buffers b.bytes cs b.items)
    unfolding sound_tables changed
    table_changed r s l =
        subst (λ (m' : Machine). To (standing m' m.counts m.fuel m.limiter) (buffers b.bytes cs b.items))
        (sym (pick_true _ _ _ (lt-ltb i 8 (omega (arith, h, lists.few _ _ _ no_table _ _ sounds.tables)))))
        (on_cells_lem _ _ cs
        (list_changes _ _ _ _ _ _ _ sounds.tables _ (λ r. refl) i r p h s (ap (λ (x : Table). x.start) l) (ap (λ (x : Table). x.room) l) l)
        cells_changed)

  -- one more table
  table_added : (r : Table) (hi : ℕ) (cs : List ℕ) → m.counts.tables < 8 → sound_table r (length b.cells) ≡ true → r.start ≡ next_cell m
      → Kept (next_cell m) hi b.cells cs
      → To (standing (changed (change.Table m.counts.tables r) m) (one_table_more m.counts) m.fuel m.limiter) (buffers b.bytes cs b.items)
  unfolding sound_tables changed next_cell
  table_added r hi cs h s q w =
      subst (λ (m' : Machine). To (standing m' (one_table_more m.counts) m.fuel m.limiter) (buffers b.bytes cs b.items)) (sym (pick_true _ _ _ (lt-ltb m.counts.tables 8 h)))
      (on_cells_lem _ _ cs
      (list_adds _ _ _ _ _ _ _ sounds.tables _ (λ r. refl) r h s q)
      (cells_add _ _ _ _ _ _ _ sounds.tables hi b.cells cs w))

  -- one segment is dropped
  segment_dropped : (i : ℕ) → i < m.counts.segments → target_of m op ≡ InSegment i → To (standing (changed (change.Segment i (dropped (segment_at m i))) m) m.counts m.fuel m.limiter) b
  unfolding sound_segments changed
  segment_dropped i h p =
      subst (λ (m' : Machine). To (standing m' m.counts m.fuel m.limiter) b)
      (sym (pick_true _ _ _ (lt-ltb i 8 (omega (arith, h, lists.few _ _ _ no_segment _ _ sounds.segments)))))
      (on_items_lem _ _ b.items
      (list_changes _ _ _ _ _ _ _ sounds.segments _ (λ r. inl refl) i (dropped (segment_at m i)) p h
      (dropped_sound _ _ (segment_sound m (length b.bytes) (length b.cells) (length b.items) e i h)) refl refl (inr refl))
      (cells_stay _ _ _ _ _ _ _) (λ k. refl))

  -- one more segment
  segment_added : (r : ElementSegment) (hi : ℕ) (is : List ℕ) → m.counts.segments < 8 → sound_segment r (length b.items) ≡ true → r.start ≡ next_item m
      → Kept (next_item m) hi b.items is
      → target_of m op ≡ NewItems → To (standing (changed (change.Segment m.counts.segments r) m) (one_segment_more m.counts) m.fuel m.limiter) (buffers b.bytes b.cells is)
  unfolding sound_segments changed next_item
  segment_added r hi is h s q w t =
      subst (λ (m' : Machine). To (standing m' (one_segment_more m.counts) m.fuel m.limiter) (buffers b.bytes b.cells is)) (sym (pick_true _ _ _ (lt-ltb m.counts.segments 8 h)))
      (on_items_lem _ _ is
      (list_adds _ _ _ _ _ _ _ sounds.segments _ (λ r. inl refl) r h s q)
      (cells_add _ _ _ _ _ _ _ sounds.segments hi b.items is w) (λ k. absurd (k t)))

  -- what is left where an operation was performed
  abbrev Leaves : Performed → Type 0
  Leaves p = To (recorded m p.out) p.buffers

  -- an instance in use is sound
  abbrev memory_at_lem : (i : ℕ) → i < m.counts.memories → sound_memory (memory_at m i) (length b.bytes) ≡ true
  memory_at_lem = memory_sound m (length b.bytes) (length b.cells) (length b.items) e

  abbrev table_at_lem : (i : ℕ) → i < m.counts.tables → sound_table (table_at m i) (length b.cells) ≡ true
  table_at_lem = table_sound m (length b.bytes) (length b.cells) (length b.items) e

  -- 10: a memory is made
  new_memory_lem : (room : ℕ) (w : WantedMemory) → Leaves (on_bytes (new_memory_on m b.bytes room w) b)
  unfolding new_memory_on made_memory changed
  new_memory_lem room w =
      tested (λ (d : Done Outcome). Leaves (on_bytes d b)) _ _ _ (λ t. made (ltb-true m.counts.memories 8 (both_1 _ _ t)) _ refl) stays
    where
      c : Done CreatedMemory
      c = new_memory w (next_byte m) room b.bytes m.limiter

      made : m.counts.memories < 8 → (y : Result Memory Refusal) → c.out.made ≡ y
          → To (recorded m (made_memory m y c.out.limiter)) (buffers c.cells b.cells b.items)
      made h (Err r) q =
          still _ (ap (λ (bs : List ℕ). buffers bs b.cells b.items)
          (memory_frames.new_kept w (next_byte m) room b.bytes m.limiter r q).0)
      made h (Ok r) q =
          let v = memory_frames.new_done w (next_byte m) room b.bytes m.limiter r q in
          let d : Ok v.memory ≡ Ok r = sym v.made ∙ q in
          let z : v.memory ≡ r = cc in
          memory_added r _ _ h
          (sym (ap (sound_memory r) (memory_frames.new_length w (next_byte m) room b.bytes m.limiter))
          ∙ memory_frames.new_sound w (next_byte m) room b.bytes m.limiter r q)
          (ap (λ (y : Memory). y.start) (sym z) ∙ v.start_is)
          (within_kept _ _ _ _ (memory_frames.new_within w (next_byte m) room b.bytes m.limiter) (omega (arith, v.sound.inside, v.start_is, v.room_is)))

  -- 11 to 14, 30: an operation on one memory
  on_memory_lem : (i : ℕ) (o : MemoryOp) → target_of m op ≡ InMemory i → Leaves (on_bytes (on_memory m b.bytes i o) b)
  unfolding on_memory changed
  on_memory_lem i o p =
      tested (λ (d : Done Outcome). Leaves (on_bytes d b)) _ _ _
      (λ t.
      let h : i < m.counts.memories = ltb-true i m.counts.memories t in
      let q = memory_room (memory_at m i) b.bytes m.fuel m.limiter o (memory_at_lem i h) in
      memory_changed i h p _ q.kept _ q.sound q.like)
      stays

  -- 20: a table is made
  new_table_lem : (room : ℕ) (w : WantedTable) (v : TypedRawRef) → Leaves (on_cells (new_table_on m b.cells room w v) b)
  unfolding new_table_on made_table changed
  new_table_lem room w v =
      tested (λ (d : Done Outcome). Leaves (on_cells d b)) _ _ _ (λ t. made (ltb-true m.counts.tables 8 (both_1 _ _ t)) _ refl) stays
    where
      c : Done CreatedTable
      c = new_table w v (next_cell m) room b.cells m.limiter

      f : table_frames.NewFrame (next_cell m) room b.cells c
      f = table_frames.new_frame w v (next_cell m) room b.cells m.limiter

      made : m.counts.tables < 8 → (y : Result Table Refusal) → c.out.made ≡ y
          → To (recorded m (made_table m y c.out.limiter)) (buffers b.bytes c.cells b.items)
      made h (Err r) q = still _ (ap (λ (cs : List ℕ). buffers b.bytes cs b.items) (f.refused r q))
      made h (Ok r) q = table_added r _ _ h (sym (ap (sound_table r) f.kept.long) ∙ f.sound r q) (f.placed r q).0 f.kept

  -- 21 to 25: an operation on one table
  on_table_lem : (r i : ℕ) (o : TableOp) → target_of m op ≡ InTable i → Leaves (on_cells (on_table r m b.cells i o) b)
  unfolding on_table changed
  on_table_lem r i o p =
      tested (λ (d : Done Outcome). Leaves (on_cells d b)) _ _ _
      (λ t.
      let h : i < m.counts.tables = ltb-true i m.counts.tables t in
      let q = table_room r (table_at m i) b.cells m.fuel m.limiter o (table_at_lem i h) in
      table_changed i h p _ q.kept _ q.sound q.like)
      stays

  -- 26: cells are copied, between two tables or within one
  copy_table_lem : (r into source : ℕ) (s : CopySpan) → target_of m op ≡ InTable into → Leaves (on_cells (copy_on r m b.cells into source s) b)
  unfolding copy_on changed
  copy_table_lem r into source s p =
      tested (λ (d : Done Outcome). Leaves (on_cells d b)) _ _ _
      (λ t. table_written into (ltb-true into m.counts.tables (both_1 _ _ t)) p _
      (table_frames.copy_frame r (table_at m into) (table_at m source) b.cells s m.fuel).kept)
      stays

  -- 27: cells are set from a segment's items
  init_table_lem : (r i segment : ℕ) (s : CopySpan) → target_of m op ≡ InTable i → Leaves (on_cells (init_on r m b.cells b.items i segment s) b)
  unfolding init_on changed
  init_table_lem r i segment s p =
      tested (λ (d : Done Outcome). Leaves (on_cells d b)) _ _ _
      (λ t. table_written i (ltb-true i m.counts.tables (both_1 _ _ t)) p _
      (table_frames.init_frame r (table_at m i) (segment_at m segment) b.cells b.items s m.fuel).kept)
      stays

  -- 28: a segment is dropped
  drop_segment : (i : ℕ) → target_of m op ≡ InSegment i → Leaves (on_none (drop_on m i) b)
  unfolding drop_on changed
  drop_segment i p = tested (λ (o : Outcome). Leaves (on_none o b)) _ _ _ (λ t. segment_dropped i (ltb-true i m.counts.segments t) p) stays

  -- 29: a segment is made
  new_segment_lem : (element : RefType) (given : List ℕ) → target_of m op ≡ NewItems → Leaves (on_items (new_segment_on m b.items element given) b)
  unfolding new_segment_on made_segment changed
  new_segment_lem element given p =
      tested (λ (d : Done Outcome). Leaves (on_items d b)) _ _ _ (λ t. made (ltb-true m.counts.segments 8 (both_1 _ _ t)) _ refl) stays
    where
      c : Done (Result ElementSegment Refusal)
      c = new_segment element (next_item m) b.items given

      f : table_frames.SegmentFrame (next_item m) (length given) b.items c
      f = table_frames.segment_frame element (next_item m) b.items given

      made : m.counts.segments < 8 → (y : Result ElementSegment Refusal) → c.out ≡ y → To (recorded m (made_segment m y)) (buffers b.bytes b.cells c.cells)
      made h (Err r) q = still _ (ap (buffers b.bytes b.cells) (f.refused r q))
      made h (Ok r) q = segment_added r _ _ h (sym (ap (sound_segment r) f.kept.long) ∙ f.sound r q) (f.placed r q).0 f.kept p

-- every operation touches its target alone
perform_touched : (r : ℕ) (m : Machine) (b : Buffers) (op : Operation) → sound_over m b ≡ true
    → Touched m b op (recorded m (perform r m b op).out) (perform r m b op).buffers
unfolding perform on_fuel target_of changed
perform_touched r m b (op.Fuel o) e = stays m b _ e
perform_touched r m b (op.NewMemory room wanted) e = new_memory_lem m b _ e room wanted
perform_touched r m b (op.Memory number o) e = on_memory_lem m b _ e number o refl
perform_touched r m b (op.NewTable room wanted initial) e = new_table_lem m b _ e room wanted initial
perform_touched r m b (op.Table number o) e = on_table_lem m b _ e r number o refl
perform_touched r m b (op.TableCopy into source span) e = copy_table_lem m b _ e r into source span refl
perform_touched r m b (op.TableInit table segment span) e = init_table_lem m b _ e r table segment span refl
perform_touched r m b (op.DropSegment segment) e = drop_segment m b _ e segment refl
perform_touched r m b (op.NewSegment element items) e = new_segment_lem m b _ e element (items_of items) refl

-- a step on a sound machine touches its operation's target alone
pub step_touched : (r : ℕ) (m : Machine) (b : Buffers) (op : Operation) → sound_over m b ≡ true → Touched m b op (step r m b op).machine (step r m b op).buffers
unfolding step decide settled changed
step_touched r m b op e =
    tested (λ (p : Performed). Touched m b op (settled m p.out) p.buffers) (well_formed op) _ _
    (λ t.
    tested (λ (p : Performed). Touched m b op (settled m p.out) p.buffers) (sound_over m b) _ _
    (λ k.
    let w = perform_touched r m b op e in
    record { memories = w.memories; bytes = w.bytes; tables = w.tables; cells = w.cells; segments = w.segments; items = w.items; kept = w.kept })
    (stays m b op e))
    (stays m b op e)
