-- What a growth at a place of a lent list answers first, over any kind of record: 19 where the list is short or its rooms do not follow each other,
-- then 16 where the number is not in use, and nothing changes. Assumes nothing.
use Rattle.types.proofs.Prelude.{ℕ, zero, suc, ◌≤◌, ◌<◌, ◌≡◌, ◌∙◌, Bool, true, false, List, [], ◌∷◌, arith, leb, ltb, length, take, get_or, leb-true, lt-leb}
use Rattle.types.proofs.Prelude.{le-ltb, eqb-true, pick_true, pick_false, both_1, both_2, both_left, both_right, either}
use Rattle.types.specs.{Numbers.word32, Pick.both, Answer.refuse, declared.raw.TypedRawRef.TypedRawRef}
use Rattle.memory.specs.{Memory.sound_memory, Grow.grow_memory, declared.memory.Memory.Memory}
use Rattle.table.specs.{Table.sound_table, Grow.grow_table, declared.table.Table.Table}
use Rattle.machine.specs.{Machine.no_memory, Machine.no_table, Machine.memory_end, Machine.table_end, Sound.follow, Sound.sound_list}
use Rattle.lent.specs.Growth.{Lending, Grew, grew, grow_at}
use Rattle.lent.specs.Memories.{sound_memory_list, record_of as memory_of, memory_grown, grow_memory_at}
use Rattle.lent.specs.Tables.{sound_table_list, record_of as table_of, table_grown, grow_table_at}

module _ {A : Type 0} (start end : A → ℕ) (none : A) where
  -- where the room of a record has to start: at the buffer's start, or where the one before it ends
  abbrev pub start_of : ℕ → ℕ → List A → ℕ
  start_of from zero xs = from
  start_of from (suc i) xs = end (get_or xs i none)

  -- the first answers of a growth of record i, of n in use
  pub record FirstAnswers (sound : ℕ → Lending A → Bool) (grow : ℕ → ℕ → Lending A → Grew A) : Type 0 where
    pub short : (n i : ℕ) (l : Lending A) → length l.records < 8 → grow n i l ≡ grew (refuse 19 0) l
    pub elsewhere : (n i j : ℕ) (l : Lending A) → j < n → (start (get_or l.records j none) ≡ start_of 0 j l.records → ⊥) → grow n i l ≡ grew (refuse 19 0) l
    pub unknown : (n i : ℕ) (l : Lending A) → sound n l ≡ true → n ≤ i → grow n i l ≡ grew (refuse 16 0) l

  follow_starts : (sound : A → Bool) (from n i : ℕ) (xs : List A) → i < n → n ≤ length xs → follow sound start end from (take n xs) ≡ true → start (get_or xs i none) ≡ start_of from i xs
  unfolding follow
  follow_starts sound from n i [] h k e = absurd (omega arith)
  follow_starts sound from zero i (x ∷ xs) h k e = absurd (omega arith)
  follow_starts sound from (suc n) zero (x ∷ xs) h k e = eqb-true _ _ (both_1 _ _ e)
  follow_starts sound from (suc n) (suc zero) (x ∷ xs) h k e = follow_starts sound (end x) n zero xs (omega arith) (omega arith) (both_2 _ _ (both_2 _ _ e))
  follow_starts sound from (suc n) (suc (suc i)) (x ∷ xs) h k e = follow_starts sound (end x) n (suc i) xs (omega arith) (omega arith) (both_2 _ _ (both_2 _ _ e))

  list_starts : (sound : A → Bool) (n i : ℕ) (xs : List A) → i < n → sound_list sound start end n xs ≡ true → start (get_or xs i none) ≡ start_of 0 i xs
  unfolding sound_list
  list_starts sound n i xs h e =
      let long : 8 ≤ length xs = leb-true _ _ (both_1 _ _ e) in
      let few : n ≤ 8 = leb-true _ _ (both_1 _ _ (both_2 _ _ e)) in
      follow_starts sound 0 n i xs h (omega arith) (both_2 _ _ (both_2 _ _ e))

  -- what fits, a sound list, and a growth of any kind
  module _ (fits : Lending A → Bool) (sound : Lending A → A → Bool) (g : ℕ → Lending A → Grew A) where
    abbrev listed : ℕ → Lending A → Bool
    listed n l = both (fits l) (sound_list (sound l) start end n l.records)

    unsound : (n i : ℕ) (l : Lending A) → sound_list (sound l) start end n l.records ≡ false → grow_at (listed n l) (ltb i n) l (g i l) ≡ grew (refuse 19 0) l
    unfolding grow_at
    unsound n i l e = pick_false _ _ _ (both_right _ _ e)

    few_places : (n : ℕ) (l : Lending A) → length l.records < 8 → sound_list (sound l) start end n l.records ≡ false
    unfolding sound_list
    few_places n l h = both_left _ _ (lt-leb 8 (length l.records) h)

    not_in_use : (n i : ℕ) (l : Lending A) → listed n l ≡ true → n ≤ i → grow_at (listed n l) (ltb i n) l (g i l) ≡ grew (refuse 16 0) l
    unfolding grow_at
    not_in_use n i l s h = pick_true _ _ _ s ∙ pick_false _ _ _ (le-ltb i n h)

    pub first_answers : FirstAnswers listed (λ n i l. grow_at (listed n l) (ltb i n) l (g i l))
    first_answers =
        record {
          short = λ n i l h. unsound n i l (few_places n l h);
          elsewhere =
              λ n i j l h e.
              either (sound_list (sound l) start end n l.records) (λ t. absurd (e (list_starts (sound l) n j l.records h t)))
              (λ t. unsound n i l t);
          unknown = not_in_use;
        }

-- of memories
pub memory_answers : (pages : ℕ) → FirstAnswers (λ (m : Memory). m.start) memory_end no_memory sound_memory_list (λ n i l. grow_memory_at n i pages l)
unfolding grow_memory_at sound_memory_list both
memory_answers pages =
    first_answers (λ (m : Memory). m.start) memory_end no_memory (λ _. true) (λ (l : Lending Memory) m. sound_memory m (length l.cells))
    (λ i l. memory_grown i l (grow_memory (memory_of l i) l.cells pages l.fuel l.limiter))

-- of tables
pub table_answers : (r delta : ℕ) (v : TypedRawRef) → FirstAnswers (λ (t : Table). t.start) table_end no_table sound_table_list (λ n i l. grow_table_at r n i delta v l)
unfolding grow_table_at sound_table_list
table_answers r delta v =
    first_answers (λ (t : Table). t.start) table_end no_table (λ (l : Lending Table). leb (length l.cells) word32) (λ (l : Lending Table) t. sound_table t (length l.cells))
    (λ i l. table_grown i l (grow_table r (table_of l i) l.cells delta v l.fuel l.limiter))
