-- What an operation that a sound machine accepts leaves of it: records, sizes and the room left; and what a refused one leaves. Assumes nothing.
use Rattle.types.proofs.Prelude.{sym, ap, subst, ◌∙◌, arith, leb-true, lt-ltb, ltb-true, eqb-false, ne_eqb, pick_true, pick_false, both_1, both_2, either}
use Rattle.std.specs.Prelude.{ℕ, ◌+◌, ◌-◌, ◌≤◌, ◌<◌, ◌≡◌, true, false, List, eqb, length, get_or}
use Rattle.types.specs.Names.{pick, WantedMemory, TypedRawRef, WantedTable}
use lib.Seq.{get_or-set_same}
use Rattle.memory.specs.{Names.memory_of, Names.Memory, New.wanted as type_of, New.least_bytes as least_of}
use Rattle.memory.proofs.Sounds.{sound_is}
use Rattle.table.specs.{Names.table_of, Names.Table, New.wanted as table_type_of}
use Rattle.table.proofs.Sounds.{sound_size_lem}
use Rattle.machine.specs.Names.{Buffers, no_memory, no_table, memory_at, table_at, memory_end, table_end, sound_over, OthersStay, OnlySizes, metered}
use Rattle.machine.specs.Names.{Stepped, step, Machine, Operation, MemoryOp, TableOp}
use Rattle.machine.specs.{Machine.next_byte, Machine.next_cell, Sound.sound_list, Sound.sound_memories, Sound.sound_tables, Outcome.changed}
use Rattle.machine.proofs.{Laws.along, Rooms.parts, Rooms.memory_sound, Rooms.table_sound, Apart.others_stay, Apart.only_sizes, Kept.step_sound}
use Rattle.machine.proofs.{Kept.step_bytes_long, Kept.step_cells_long}
use Rattle.claims.specs.{Answers.accepted, Occasions.given, Occasions.holds, Occasions.checks_of, Occasions.occasion}
use Rattle.claims.specs.Effects.{memory_effect, table_effect, effect_of, effects, accepted_step}
use Rattle.claims.proofs.Exits.{refusal_leaves, accepted_when_lem, accepted_does}
use Rattle.memory.specs.Memory as of_memory_lem
use Rattle.table.specs.Table as of_table_lem
use Rattle.machine.specs.declared.outcome.Change.TheVariants as change
use Rattle.machine.specs.declared.operation.Operation.TheVariants as op
use Rattle.machine.proofs.ListLaws as lists

-- a refused operation leaves all but fuel and limiter
abbrev pub kept : Machine → Buffers → Stepped → Stepped
kept m b s = record { answer = s.answer; machine = metered m s.machine.fuel s.machine.limiter; buffers = b }

pub refused_keeps : (r : ℕ) (m : Machine) (b : Buffers) (op : Operation) → accepted (step r m b op).answer ≡ false
    → step r m b op ≡ kept m b (step r m b op)
refused_keeps r m b op a =
    let x = refusal_leaves r m b op a in
    (λ i. record { answer = (step r m b op).answer; machine = x.records i; buffers = x.cells i })

-- where the next room starts: as many records in use that end where they did, or one more
module _ {A : Type 0} (end : A → ℕ) (d : A) where
  next_stays : (n n' : ℕ) (xs xs' : List A) → n' ≡ n → ((i : ℕ) → i < n → end (get_or xs' i d) ≡ end (get_or xs i d))
      → pick (eqb n' 0) 0 (end (get_or xs' (n' - 1) d)) ≡ pick (eqb n 0) 0 (end (get_or xs (n - 1) d))
  next_stays n n' xs xs' q f =
      ap (λ (k : ℕ). pick (eqb k 0) 0 (end (get_or xs' (k - 1) d))) q
      ∙ either (eqb n 0)
      (λ t. pick_true _ _ _ t ∙ sym (pick_true _ _ _ t))
      (λ t.
      let z : ¬ (n ≡ 0) = eqb-false n 0 t in
      ap (pick (eqb n 0) 0) (f (n - 1) (omega arith)))

  next_made : (n n' : ℕ) (xs' : List A) → n' ≡ n + 1 → pick (eqb n' 0) 0 (end (get_or xs' (n' - 1) d)) ≡ end (get_or xs' n d)
  next_made n n' xs' q =
      let k : n' - 1 ≡ n = omega arith in
      pick_false _ _ _ (ne_eqb n' 0 (λ z. omega arith)) ∙ ap (λ (j : ℕ). end (get_or xs' j d)) k

-- one sound machine, and an operation that it accepts
module _ (r : ℕ) (m : Machine) (b : Buffers) (op : Operation) (e : sound_over m b ≡ true) (a : accepted (step r m b op).answer ≡ true) where
  -- what it leaves
  abbrev s : Stepped
  s = accepted_step r m b op

  does : step r m b op ≡ s
  does = accepted_does r m b op a

  -- it was accepted on its occasion
  pub on_occasion : occasion r m b op ≡ true
  on_occasion = both_2 _ _ (both_2 _ _ (sym (accepted_when_lem r m b op) ∙ a))

  -- what it keeps of the machine: others, all but sizes, soundness, the buffers' lengths
  pub others : OthersStay m b op s
  others = subst (OthersStay m b op) does (others_stay r m b op e)

  sizes : OnlySizes m s
  sizes = subst (OnlySizes m) does (only_sizes r m b op e)

  pub still_sound : sound_over s.machine s.buffers ≡ true
  still_sound = subst (λ (x : Stepped). sound_over x.machine x.buffers ≡ true) does (step_sound r m b op e)

  bytes_long : length s.buffers.bytes ≡ length b.bytes
  bytes_long = subst (λ (x : Stepped). length x.buffers.bytes ≡ length b.bytes) does (step_bytes_long r m b op)

  cells_long : length s.buffers.cells ≡ length b.cells
  cells_long = subst (λ (x : Stepped). length x.buffers.cells ≡ length b.cells) does (step_cells_long r m b op)

  -- where none was made, the next room starts where it did
  pub byte_room : (effects r m b op).out.counts.memories ≡ m.counts.memories
      → length s.buffers.bytes - next_byte s.machine ≡ length b.bytes - next_byte m
  unfolding next_byte accepted_step
  byte_room q = along ◌-◌ bytes_long (next_stays memory_end no_memory _ _ m.memories s.machine.memories q (λ i h. ap memory_end (sizes.memory i h)))

  pub cell_room : (effects r m b op).out.counts.tables ≡ m.counts.tables
      → length s.buffers.cells - next_cell s.machine ≡ length b.cells - next_cell m
  unfolding next_cell accepted_step
  cell_room q = along ◌-◌ cells_long (next_stays table_end no_table _ _ m.tables s.machine.tables q (λ i h. ap table_end (sizes.table i h)))

  -- where one was made, it starts after that one's room
  pub byte_room_less : (x : Memory) → (effects r m b op).out.counts.memories ≡ m.counts.memories + 1 → memory_at s.machine m.counts.memories ≡ x
      → length s.buffers.bytes - next_byte s.machine ≡ length b.bytes - memory_end x
  unfolding next_byte accepted_step
  byte_room_less x q p = along ◌-◌ bytes_long (next_made memory_end no_memory _ _ s.machine.memories q ∙ ap memory_end p)

  pub cell_room_less : (x : Table) → (effects r m b op).out.counts.tables ≡ m.counts.tables + 1 → table_at s.machine m.counts.tables ≡ x
      → length s.buffers.cells - next_cell s.machine ≡ length b.cells - table_end x
  unfolding next_cell accepted_step
  cell_room_less x q p = along ◌-◌ cells_long (next_made table_end no_table _ _ s.machine.tables q ∙ ap table_end p)

-- a sound machine
module _ (m : Machine) (b : Buffers) (e : sound_over m b ≡ true) where
  -- a record is put at its place
  put_memory_lem : (i : ℕ) (x : Memory) → i < 8 → memory_at (changed (change.Memory i x) m) i ≡ x
  unfolding changed sound_memories sound_list
  put_memory_lem i x h =
      let k : 8 ≤ length m.memories = leb-true _ _ (both_1 _ _ (parts m _ _ _ e).memories) in
      ap (λ (y : Machine). memory_at y i) (pick_true _ _ _ (lt-ltb i 8 h)) ∙ get_or-set_same m.memories i x no_memory (omega arith)

  put_table_lem : (i : ℕ) (x : Table) → i < 8 → table_at (changed (change.Table i x) m) i ≡ x
  unfolding changed sound_tables sound_list
  put_table_lem i x h =
      let k : 8 ≤ length m.tables = leb-true _ _ (both_1 _ _ (parts m _ _ _ e).tables) in
      ap (λ (y : Machine). table_at y i) (pick_true _ _ _ (lt-ltb i 8 h)) ∙ get_or-set_same m.tables i x no_table (omega arith)

  -- at most 8 are in use
  few_memories : m.counts.memories ≤ 8
  unfolding sound_memories
  few_memories = lists.few _ _ _ no_memory _ _ (parts m _ _ _ e).memories

  few_tables : m.counts.tables ≤ 8
  unfolding sound_tables
  few_tables = lists.few _ _ _ no_table _ _ (parts m _ _ _ e).tables

  -- the record that an accepted operation makes, or that of the instance that it names
  module _ (r : ℕ) where
    pub made_memory_lem : (room : ℕ) (q : WantedMemory) → accepted (step r m b (op.NewMemory room q)).answer ≡ true
        → memory_at (accepted_step r m b (op.NewMemory room q)).machine m.counts.memories ≡ memory_of (type_of q) (next_byte m) room (least_of q)
    unfolding accepted_step effect_of holds checks_of given
    made_memory_lem room q a = put_memory_lem _ _ (ltb-true _ _ (both_1 _ _ (both_1 _ _ (both_1 _ _ (on_occasion r m b (op.NewMemory room q) e a)))))

    pub made_table_lem : (room : ℕ) (q : WantedTable) (v : TypedRawRef) → accepted (step r m b (op.NewTable room q v)).answer ≡ true
        → table_at (accepted_step r m b (op.NewTable room q v)).machine m.counts.tables ≡ table_of (table_type_of q) (next_cell m) room q.limits.minimum
    unfolding accepted_step effect_of holds checks_of given
    made_table_lem room q v a = put_table_lem _ _ (ltb-true _ _ (both_1 _ _ (both_1 _ _ (both_1 _ _ (on_occasion r m b (op.NewTable room q v) e a)))))

    pub named_memory : (i : ℕ) (o : MemoryOp) → i < m.counts.memories
        → memory_at (accepted_step r m b (op.Memory i o)).machine i ≡ of_memory_lem.resized (memory_at m i) (memory_effect (memory_at m i) b.bytes o).size
    unfolding accepted_step effect_of
    named_memory i o h = put_memory_lem i _ (omega (arith, few_memories))

    pub named_table : (i : ℕ) (o : TableOp) → i < m.counts.tables
        → table_at (accepted_step r m b (op.Table i o)).machine i ≡ of_table_lem.resized (table_at m i) (table_effect (table_at m i) b.cells o).size
    unfolding accepted_step effect_of
    named_table i o h = put_table_lem i _ (omega (arith, few_tables))

    -- its size afterwards lies inside its room
    pub memory_held : (i : ℕ) (o : MemoryOp) → i < m.counts.memories → accepted (step r m b (op.Memory i o)).answer ≡ true
        → (memory_effect (memory_at m i) b.bytes o).size ≤ (memory_at m i).room
    unfolding accepted_step effect_of
    memory_held i o h a =
        subst (λ (x : Memory). x.size ≤ x.room) (named_memory i o h)
        (sound_is _ _ (memory_sound _ _ _ _ (still_sound r m b (op.Memory i o) e a) i h)).held

    pub table_held : (i : ℕ) (o : TableOp) → i < m.counts.tables → accepted (step r m b (op.Table i o)).answer ≡ true
        → (table_effect (table_at m i) b.cells o).size ≤ (table_at m i).room
    unfolding accepted_step effect_of
    table_held i o h a =
        subst (λ (x : Table). x.size ≤ x.room) (named_table i o h)
        (sound_size_lem _ _ (table_sound _ _ _ _ (still_sound r m b (op.Table i o) e a) i h))
