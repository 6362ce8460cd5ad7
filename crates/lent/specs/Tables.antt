-- Document 01, "The machine": tables stand in a lent list of records. The record of one is read and grown, and its size stored.
-- R, the bytes that a reference counts, is the first argument of a growth.
use Rattle.std.specs.Prelude.{ℕ, Bool, List, ◌≡◌, leb, ltb, length, get_or, set}
use Rattle.types.specs.Names.{word32, both, Done, Answer, Fuel, Limiter, TypedRawRef}
use Rattle.table.specs.Names.{sound_table, grow_table, Table, GrownTable}
use Rattle.machine.specs.Names.{no_table, table_end, sound_list}
use Rattle.lent.specs.Growth.{Lending, lending, Grew, grew, grow_at}

-- at most 2^32 cells, 8 places at least, and the first n records are sound tables whose rooms follow each other
unfoldable pub sound_table_list : ℕ → Lending Table → Bool
sound_table_list n l =
    both (leb (length l.cells) word32)
    (sound_list (λ (r : Table). sound_table r (length l.cells)) (λ (r : Table). r.start) table_end n l.records)

-- the record at a place
abbrev pub record_of : Lending Table → ℕ → Table
record_of l i = get_or l.records i no_table

-- a growth, its record put back in its place
abbrev pub table_grown : ℕ → Lending Table → Done GrownTable → Grew Table
table_grown i l g =
    grew g.out.answer (lending (set l.records i g.out.table) g.cells g.out.fuel g.out.limiter)

-- growth of table i, of n in use, by so many cells that hold the reference
unfoldable pub grow_table_at : ℕ → ℕ → ℕ → ℕ → TypedRawRef → Lending Table → Grew Table
grow_table_at r n i cells v l =
    grow_at (sound_table_list n l) (ltb i n) l
    (table_grown i l (grow_table r (record_of l i) l.cells cells v l.fuel l.limiter))

-- all that a growth promises: its answer, and the records, cells, fuel and limiter after it, are the growth's
abbrev pub GrowsTable : ℕ → ℕ → ℕ → ℕ → TypedRawRef → Lending Table → Answer → List Table → List ℕ → Fuel → Limiter → Type 0
GrowsTable r n i delta v l a records cells fuel limiter = grew a (lending records cells fuel limiter) ≡ grow_table_at r n i delta v l
