-- Document 01, "First check wins", copy: 14, 12, 7, at length 0 too; WebAssembly Core Specification 3.0, Execution, Instructions, table.copy, whose steps leave this span.
use Rattle.std.specs.Prelude.{ℕ, ◌+◌, Bool, true, List, eqb, leb, length}
use Rattle.types.specs.Names.{pick, unless, both, inside, cut, over, refuse, accept, short, paid, Done, span_done, element_matches}
use Rattle.types.specs.Names.{Fuel, Spanned, CopySpan}
use Rattle.table.specs.{Table.sound_table, Grow.cells_price, declared.table.Table.Table}

-- two records of one table: the same start, room and size; two tables without a room may have that too, and share no cell
unfoldable pub same_table : Table → Table → Bool
same_table d s = both (eqb d.start s.start) (both (eqb d.room s.room) (eqb d.size s.size))

-- the rooms of two tables follow each other
unfoldable pub rooms_apart : Table → Table → Bool
rooms_apart d s = pick (leb (d.start + d.room) s.start) true (leb (s.start + s.room) d.start)

-- two sound records, of one table or of two that have no cell in common
unfoldable pub sound_two : Table → Table → ℕ → Bool
sound_two d s len = both (sound_table d len) (both (sound_table s len) (pick (same_table d s) true (rooms_apart d s)))

-- cells of one table go to another, or to others of its own; all are read as they were before
unfoldable pub copy_table : ℕ → Table → Table → List ℕ → CopySpan → Fuel → Done Spanned
copy_table r d s cs span f =
    unless (sound_two d s (length cs)) (span_done (refuse 19 0) f cs)
    (unless (element_matches d.ty s.ty.element) (span_done (refuse 14 0) f cs)
    (unless (both (inside span.to span.len d.size) (inside span.from span.len s.size)) (span_done (refuse 12 0) f cs)
    (pick (short f (cells_price r span.len f)) (span_done (refuse 7 (cells_price r span.len f)) f cs)
    (span_done (accept 0) (paid f (cells_price r span.len f)) (over cs (d.start + span.to) (cut cs (s.start + span.from) span.len))))))
