-- How a growth of one record of a lent list is carried out, over the kind of record and of cell.
use Rattle.std.specs.Prelude.{ℕ, Bool, List, leb, set}
use Rattle.types.specs.Names.{word32, both, raw_bytes, Answer, Fuel, Limiter, TypedRawRef}
use Rattle.memory.specs.Names.{sound_memory, grow_memory, Memory}
use Rattle.table.specs.Names.{sound_table, grow_table, Table}
use Rattle.machine.specs.{Machine.memory_end, Machine.table_end, Sound.sound_list}
use Rattle.lent.specs.Growth.{lending, GrewOf, grew}

-- an answer, and what a growth leaves of the record, its cells, the fuel record and the limiter
pub record Regrown (A C : Type 0) : Type 0 where
  pub answer : Answer
  pub record_after : A
  pub cells : List C
  pub fuel : Fuel
  pub limiter : Limiter

-- all five
abbrev pub regrown : {A C : Type 0} → Answer → A → List C → Fuel → Limiter → Regrown A C
regrown a r cs f l = record { answer = a; record_after = r; cells = cs; fuel = f; limiter = l }

-- a growth, its record put back in its place
abbrev pub put_back : {A C : Type 0} → List A → ℕ → Regrown A C → GrewOf A C
put_back rs i g = grew g.answer (lending (set rs i g.record_after) g.cells g.fuel g.limiter)

-- of a memory
abbrev pub memory_regrown : Memory → List ℕ → ℕ → Fuel → Limiter → Regrown Memory ℕ
memory_regrown m bytes pages f l =
    let g = grow_memory m bytes pages f l in
    regrown g.out.answer g.out.memory g.cells g.out.fuel g.out.limiter

-- of a table, by so many cells that hold a reference
abbrev pub table_regrown : Table → List ℕ → ℕ × TypedRawRef → Fuel → Limiter → Regrown Table ℕ
table_regrown t cells by f l =
    let g = grow_table raw_bytes t cells by.0 by.1 f l in
    regrown g.out.answer g.out.table g.cells g.out.fuel g.out.limiter

-- 8 places at least, and the first n records are sound memories over so many bytes whose rooms follow each other
unfoldable pub sound_memories_over : ℕ → List Memory → ℕ → Bool
sound_memories_over n ms len =
    sound_list (λ (r : Memory). sound_memory r len) (λ (r : Memory). r.start) memory_end n ms

-- at most 2^32 cells, and likewise sound tables
unfoldable pub sound_tables_over : ℕ → List Table → ℕ → Bool
sound_tables_over n ts len =
    both (leb len word32) (sound_list (λ (r : Table). sound_table r len) (λ (r : Table). r.start) table_end n ts)
