-- A growth at a place of a lent list is the machine's own step on all that is lent, where all else that is lent is sound. Assumes nothing.
use Rattle.types.proofs.Prelude.{ℕ, zero, suc, ◌≤◌, ◌<◌, ◌≡◌, refl, sym, ap, ◌∙◌, Bool, true, false, List, [], ◌∷◌, arith, leb, ltb, length, take, leb-true}
use Rattle.types.proofs.Prelude.{leb-false, le-leb, lt-ltb, pick_true, pick_false, both_true, both_1, both_2, both_left, both_right, both_then, both_last, either}
use Rattle.std.proofs.lemmas.List.{take-append-drop, get_or-take}
use Rattle.types.specs.{Numbers.word32, Pick.pick, Pick.both, Answer.refuse, Done.Done, Answer.Answer, declared.raw.TypedRawRef.TypedRawRef}
use Rattle.memory.specs.{Memory.sound_memory, Grow.grow_memory, declared.memory.Memory.Memory, declared.grow.GrownMemory.GrownMemory}
use Rattle.table.specs.{Table.sound_table, Grow.grow_table, declared.table.Table.Table, declared.grow.GrownTable.GrownTable}
use Rattle.machine.specs.{Machine.Buffers, Machine.buffers, Machine.no_memory, Machine.no_table, Machine.memory_at, Machine.table_at, Machine.memory_end}
use Rattle.machine.specs.{Machine.table_end, Sound.sound_list, Sound.sound_memories, Sound.sound_tables, Sound.sound_segments, Sound.sound_references}
use Rattle.machine.specs.{Sound.sound_machine, Sound.sound_over, Operation.memory_well_formed, Operation.well_formed, Outcome.keeps, Outcome.refused}
use Rattle.machine.specs.{Outcome.changed, Outcome.standing, Outcome.settled, Memories.memory_done, Memories.perform_memory, Memories.on_memory, Tables.table_done}
use Rattle.machine.specs.{Tables.perform_table, Tables.on_table, Step.Performed, Step.on_none, Step.on_bytes, Step.on_cells, Step.perform, Step.decide, Step.after}
use Rattle.machine.specs.{Step.step, declared.records.Machine.Machine, declared.operation.Operation.Operation}
use Rattle.lent.specs.Growth.{Lending, lending, Grew, grow_at}
use Rattle.lent.specs.Memories.{sound_memory_list, record_of as memory_of, memory_grown, grow_memory_at}
use Rattle.lent.specs.Tables.{sound_table_list, record_of as table_of, table_grown, grow_table_at}
use Rattle.lent.specs.Records.{Lent, lent, machine_of, long_enough, placed, lent_back, LentStepped, lent_stepped, unfit, step_placed, lent_step}
use Rattle.lent.proofs.{Lists.set_front, Lists.front_sound}
use Rattle.lent.specs.stages.Listed.{few}
use Rattle.lent.proofs.GrowthAnswers.{memory_answers, table_answers}
use Rattle.machine.specs.declared.operation.Operation.TheVariants as operation
use Rattle.machine.specs.declared.operation.MemoryOp.TheVariants as memory_op
use Rattle.machine.specs.declared.operation.TableOp.TheVariants as on_table_lem

-- what an operation leaves, as what is lent has it
abbrev pub back_of : Lent → Performed → LentStepped
back_of x p = lent_stepped (after (machine_of x) p).answer (lent_back (after (machine_of x) p).machine x) p.buffers

module _ (r : ℕ) (x : Lent) (b : Buffers) where
  abbrev m : Machine
  m = machine_of x

  long_taken : {A : Type 0} (n : ℕ) (l : List A) → n ≤ length (take n l) → n ≤ length l
  long_taken zero l h = omega arith
  long_taken (suc n) [] h = h
  long_taken (suc n) (y ∷ l) h = let k = long_taken n l (omega arith) in omega arith

  list_long : {A : Type 0} (sound : A → Bool) (start end : A → ℕ) (n : ℕ) (l : List A) → sound_list sound start end n (take 8 l) ≡ true → leb 8 (length l) ≡ true
  unfolding sound_list
  list_long sound start end n l e = le-leb _ _ (long_taken 8 l (leb-true _ _ (both_1 _ _ e)))

  -- a refusal leaves all
  kept_all : (a : Answer) → back_of x (on_none (keeps m a) b) ≡ lent_stepped a x b
  unfolding settled changed
  kept_all a = (λ i. lent_stepped a (lent (take-append-drop 8 x.memories i) (take-append-drop 8 x.tables i) (take-append-drop 8 x.segments i) x.standing x.fuel) b)

  -- memories, bytes, fuel and limiter, as lent to a growth of a memory
  abbrev pub memories_of : Lending Memory
  memories_of = lending x.memories b.bytes x.fuel x.standing.limiter

  -- a growth of a memory, with all else that is lent as it was
  abbrev pub with_memories : Grew Memory → LentStepped
  with_memories g =
      lent_stepped g.answer (lent g.lent.records x.tables x.segments (record { counts = x.standing.counts; limiter = g.lent.limiter }) g.lent.fuel)
      (buffers g.lent.cells b.cells b.items)

  -- all but the memories is sound
  pub record MemoriesBeside : Type 0 where
    pub references : sound_references (length b.cells) (length b.items) ≡ true
    pub tables : sound_tables m (length b.cells) ≡ true
    pub segments : sound_segments m (length b.items) ≡ true

  module _ (beside : MemoriesBeside) (i pages : ℕ) where
    abbrev op : Operation
    op = operation.Memory i (memory_op.Grow pages)

    abbrev grown : Memory → Done GrownMemory
    grown y = grow_memory y b.bytes pages x.fuel x.standing.limiter

    memory_stored_lem : (g : Done GrownMemory) → i < 8 → back_of x (on_bytes (memory_done m i g) b) ≡ with_memories (memory_grown i memories_of g)
    unfolding settled changed
    memory_stored_lem g h =
        ap (λ (n : Machine). lent_stepped g.out.answer (lent_back (standing n m.counts g.out.fuel g.out.limiter) x) (buffers g.cells b.cells b.items))
        (pick_true (ltb i 8) _ _ (lt-ltb i 8 h))
        ∙ (λ j. lent_stepped g.out.answer (lent (sym (set_front 8 i x.memories g.out.memory h) j) (take-append-drop 8 x.tables j) (take-append-drop 8 x.segments j) (record { counts = x.standing.counts; limiter = g.out.limiter }) g.out.fuel) (buffers g.cells b.cells b.items))

    memory_tests : (s k : Bool) → (s ≡ true → k ≡ true → i < 8)
        → back_of x (pick s (on_bytes (pick k (memory_done m i (grown (memory_at m i))) (refused m 16 b.bytes)) b) (on_none (keeps m (refuse 19 0)) b))
        ≡ with_memories (grow_at s k memories_of (memory_grown i memories_of (grown (memory_of memories_of i))))
    unfolding pick grow_at
    memory_tests false k h = kept_all (refuse 19 0)
    memory_tests true false h = kept_all (refuse 16 0)
    memory_tests true true h =
        memory_stored_lem (grown (memory_at m i)) (h refl refl)
        ∙ ap (λ (y : Memory). with_memories (memory_grown i memories_of (grown y))) (get_or-take 8 x.memories i no_memory (h refl refl))

    memories_over : 8 ≤ length x.memories → sound_over m b ≡ sound_memory_list x.standing.counts.memories memories_of
    unfolding sound_machine sound_memories sound_memory_list
    memories_over h =
        both_then _ _ beside.references ∙ both_last _ _ (both_true _ _ beside.tables beside.segments)
        ∙ front_sound (λ (y : Memory). sound_memory y (length b.bytes)) (λ (y : Memory). y.start) memory_end x.memories x.standing.counts.memories h

    pub memory_grow_steps : lent_step r x b op ≡ with_memories (grow_memory_at x.standing.counts.memories i pages memories_of)
    unfolding lent_step step_placed step decide perform on_memory perform_memory well_formed memory_well_formed unfit grow_memory_at long_enough pick sound_memory_list sound_tables sound_segments
    memory_grow_steps =
        either (leb 8 (length x.memories))
        (λ t.
        pick_true (placed x) _ _ (both_true _ _ t (both_true _ _ (list_long _ _ _ _ x.tables beside.tables) (list_long _ _ _ _ x.segments beside.segments)))
        ∙ ap (λ (s : Bool). back_of x (pick s (perform r m b op) (on_none (keeps m (refuse 19 0)) b))) (memories_over (leb-true _ _ t))
        ∙ memory_tests (sound_memory_list x.standing.counts.memories memories_of) (ltb i x.standing.counts.memories) (few _ _ _ _ i x.memories))
        (λ t.
        pick_false (placed x) _ _ (both_left _ _ t)
        ∙ ap with_memories (sym ((memory_answers pages).short x.standing.counts.memories i memories_of (leb-false _ _ t))))

  -- cells of tables, fuel and limiter, as lent to a growth of a table
  abbrev pub tables_of : Lending Table
  tables_of = lending x.tables b.cells x.fuel x.standing.limiter

  -- a growth of a table, with all else that is lent as it was
  abbrev pub with_tables : Grew Table → LentStepped
  with_tables g =
      lent_stepped g.answer (lent x.memories g.lent.records x.segments (record { counts = x.standing.counts; limiter = g.lent.limiter }) g.lent.fuel)
      (buffers b.bytes g.lent.cells b.items)

  -- all but the tables and their cells is sound
  pub record TablesBeside : Type 0 where
    pub items : leb (length b.items) word32 ≡ true
    pub memories : sound_memories m (length b.bytes) ≡ true
    pub segments : sound_segments m (length b.items) ≡ true

  module _ (beside : TablesBeside) (i delta : ℕ) (v : TypedRawRef) where
    abbrev table_op : Operation
    table_op = operation.Table i (on_table_lem.Grow delta v)

    abbrev table_grown_lem : Table → Done GrownTable
    table_grown_lem y = grow_table r y b.cells delta v x.fuel x.standing.limiter

    table_stored_lem : (g : Done GrownTable) → i < 8 → back_of x (on_cells (table_done m i g) b) ≡ with_tables (table_grown i tables_of g)
    unfolding settled changed
    table_stored_lem g h =
        ap (λ (n : Machine). lent_stepped g.out.answer (lent_back (standing n m.counts g.out.fuel g.out.limiter) x) (buffers b.bytes g.cells b.items))
        (pick_true (ltb i 8) _ _ (lt-ltb i 8 h))
        ∙ (λ j. lent_stepped g.out.answer (lent (take-append-drop 8 x.memories j) (sym (set_front 8 i x.tables g.out.table h) j) (take-append-drop 8 x.segments j) (record { counts = x.standing.counts; limiter = g.out.limiter }) g.out.fuel) (buffers b.bytes g.cells b.items))

    table_tests : (s k : Bool) → (s ≡ true → k ≡ true → i < 8)
        → back_of x (pick s (on_cells (pick k (table_done m i (table_grown_lem (table_at m i))) (refused m 16 b.cells)) b) (on_none (keeps m (refuse 19 0)) b))
        ≡ with_tables (grow_at s k tables_of (table_grown i tables_of (table_grown_lem (table_of tables_of i))))
    unfolding pick grow_at
    table_tests false k h = kept_all (refuse 19 0)
    table_tests true false h = kept_all (refuse 16 0)
    table_tests true true h =
        table_stored_lem (table_grown_lem (table_at m i)) (h refl refl)
        ∙ ap (λ (y : Table). with_tables (table_grown i tables_of (table_grown_lem y))) (get_or-take 8 x.tables i no_table (h refl refl))

    tables_over : 8 ≤ length x.tables → sound_over m b ≡ sound_table_list x.standing.counts.tables tables_of
    unfolding sound_machine sound_references sound_tables sound_table_list
    tables_over h =
        (λ j. both (both_last (leb (length b.cells) word32) _ beside.items j) ((both_then _ _ beside.memories ∙ both_last (sound_tables m (length b.cells)) _ beside.segments) j))
        ∙ ap (both (leb (length b.cells) word32)) (front_sound (λ (y : Table). sound_table y (length b.cells)) (λ (y : Table). y.start) table_end x.tables x.standing.counts.tables h)

    pub table_grow_steps : lent_step r x b table_op ≡ with_tables (grow_table_at r x.standing.counts.tables i delta v tables_of)
    unfolding lent_step step_placed step decide perform on_table perform_table well_formed unfit grow_table_at long_enough pick sound_table_list sound_memories sound_segments
    table_grow_steps =
        either (leb 8 (length x.tables))
        (λ t.
        pick_true (placed x) _ _ (both_true _ _ (list_long _ _ _ _ x.memories beside.memories) (both_true _ _ t (list_long _ _ _ _ x.segments beside.segments)))
        ∙ ap (λ (s : Bool). back_of x (pick s (perform r m b table_op) (on_none (keeps m (refuse 19 0)) b))) (tables_over (leb-true _ _ t))
        ∙ table_tests (sound_table_list x.standing.counts.tables tables_of) (ltb i x.standing.counts.tables) (λ s k. few _ _ _ _ i x.tables (both_2 _ _ s) k))
        (λ t.
        pick_false (placed x) _ _ (both_right _ _ (both_left _ _ t))
        ∙ ap with_tables (sym ((table_answers r delta v).short x.standing.counts.tables i tables_of (leb-false _ _ t))))
