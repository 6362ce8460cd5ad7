-- The law of sound lists that the kinds of record which grow in a list give: a place for each record in use. Assumes nothing.
use Rattle.std.specs.Prelude.{ℕ, ◌≡◌, ◌<◌, true, Bool, List, ltb, length}
use Rattle.types.proofs.Prelude.{arith, leb-true, ltb-true, both_1, both_2}
use Rattle.memory.specs.Names.{sound_memory, Memory}
use Rattle.table.specs.Names.{sound_table, Table}
use Rattle.machine.specs.{Machine.memory_end, Machine.table_end, Sound.sound_list}
use Rattle.lent.specs.stages.Growth.{sound_memories_over, sound_tables_over}

-- a sound list has at most 8 records in use
pub few : {A : Type 0} (sound : A → Bool) (start end : A → ℕ) (n i : ℕ) (xs : List A) → sound_list sound start end n xs ≡ true → ltb i n ≡ true → i < 8
unfolding sound_list
few sound start end n i xs s k =
    let a = leb-true n 8 (both_1 _ _ (both_2 _ _ s)) in
    let b = ltb-true i n k in
    omega arith

-- so it has a place for each of them
in_list : {A : Type 0} (sound : A → Bool) (start end : A → ℕ) (n i : ℕ) (xs : List A) → sound_list sound start end n xs ≡ true → ltb i n ≡ true → i < length xs
unfolding sound_list
in_list sound start end n i xs s k =
    let long = leb-true 8 (length xs) (both_1 _ _ s) in
    let h = few sound start end n i xs s k in
    omega arith

pub memory_placed : (n i len : ℕ) (ms : List Memory) → sound_memories_over n ms len ≡ true → ltb i n ≡ true → i < length ms
unfolding sound_memories_over
memory_placed n i len ms = in_list (λ (r : Memory). sound_memory r len) (λ (r : Memory). r.start) memory_end n i ms

pub table_placed : (n i len : ℕ) (ts : List Table) → sound_tables_over n ts len ≡ true → ltb i n ≡ true → i < length ts
unfolding sound_tables_over
table_placed n i len ts s = in_list (λ (r : Table). sound_table r len) (λ (r : Table). r.start) table_end n i ts (both_2 _ _ s)
