-- Document 01, operations 20 to 26: tables. 16 is tested once, then an operation is one on the table's own record.
-- R, the bytes that a reference counts, is the first argument throughout.
use Rattle.std.specs.Prelude.{ℕ, ◌-◌, List, leb, ltb, length, Result}
use Rattle.types.specs.Names.{unless, both, Done, done, accept, Answer, Fuel, Limiter, Spanned, TypedRawRef, CopySpan, WantedTable}
use Rattle.table.specs.Names.{get_table, set_table, new_table, grow_table, fill_table, copy_table, Table, GrownTable, CreatedTable}
use Rattle.machine.specs.{Machine.capacity, Machine.table_at, Machine.next_cell, Outcome.leaves, Outcome.made, Outcome.refused, Outcome.one_table_more}
use Rattle.machine.specs.declared.{records.Machine.Machine, records.Counts.Counts, outcome.Outcome.Outcome, outcome.Change.Change, operation.TableOp.TableOp}
use Rattle.types.specs.declared.answer.Refusal.{Refusal}

-- an answer that leaves a table's record, with fuel and limiter after it
abbrev pub table_kept : Table → Fuel → Limiter → Answer → GrownTable
table_kept t f l a = record { answer = a; table = t; fuel = f; limiter = l }

-- what setting one cell leaves
abbrev pub table_stored : Table → Fuel → Limiter → Done Answer → Done GrownTable
table_stored t f l s = done (table_kept t f l s.out) s.cells

-- what a fill leaves: fuel may fall
abbrev pub table_spanned : Table → Limiter → Done Spanned → Done GrownTable
table_spanned t l s = done (table_kept t s.out.fuel l s.out.answer) s.cells

-- 21 to 25, on one table's record
unfoldable pub perform_table : ℕ → Table → List ℕ → Fuel → Limiter → TableOp → Done GrownTable
perform_table r t cs f l (TableOp.Grow cells value) = grow_table r t cs cells value f l
perform_table r t cs f l TableOp.Size = done (table_kept t f l (accept t.size)) cs
perform_table r t cs f l (TableOp.Get index) = done (table_kept t f l (get_table t cs index)) cs
perform_table r t cs f l (TableOp.Set index value) = table_stored t f l (set_table t cs index value)
perform_table r t cs f l (TableOp.Fill start value len) = table_spanned t l (fill_table r t cs (record { start = start; len = len }) value f)

-- the record goes back to its place
abbrev pub table_out : Machine → ℕ → GrownTable → Outcome
table_out m i g = record { answer = g.answer; change = Change.Table i g.table; counts = m.counts; fuel = g.fuel; limiter = g.limiter }

-- the same, with the cells after it
abbrev pub table_done : Machine → ℕ → Done GrownTable → Done Outcome
table_done m i d = done (table_out m i d.out) d.cells

-- 16, then the operation on the table's own record
unfoldable pub on_table : ℕ → Machine → List ℕ → ℕ → TableOp → Done Outcome
on_table r m cs i o =
    unless (ltb i m.counts.tables) (refused m 16 cs)
    (table_done m i (perform_table r (table_at m i) cs m.fuel m.limiter o))

-- 26, 27: no record changes, fuel may
abbrev pub spanned_out : Machine → Spanned → Outcome
spanned_out m s = leaves m s.answer s.fuel m.limiter

-- the same, with the cells after it
abbrev pub spanned_done : Machine → Done Spanned → Done Outcome
spanned_done m s = done (spanned_out m s.out) s.cells

-- 26: 16, then the copy; both numbers may be one
unfoldable pub copy_on : ℕ → Machine → List ℕ → ℕ → ℕ → CopySpan → Done Outcome
copy_on r m cs into source span =
    unless (both (ltb into m.counts.tables) (ltb source m.counts.tables)) (refused m 16 cs)
    (spanned_done m (copy_table r (table_at m into) (table_at m source) cs span m.fuel))

-- 20: a creation answers the new number; a refused one takes neither number nor room
unfoldable pub made_table : Machine → Result Table Refusal → Limiter → Outcome
made_table = made (λ (k : Counts). k.tables) one_table_more Change.Table

-- the same, with the cells after it
abbrev pub table_made : Machine → Done CreatedTable → Done Outcome
table_made m c = done (made_table m c.out.made c.out.limiter) c.cells

-- 17, then a new table in the next room
unfoldable pub new_table_on : Machine → List ℕ → ℕ → WantedTable → TypedRawRef → Done Outcome
new_table_on m cs room w v =
    unless (both (ltb m.counts.tables capacity) (leb room (length cs - next_cell m))) (refused m 17 cs)
    (table_made m (new_table w v (next_cell m) room cs m.limiter))
