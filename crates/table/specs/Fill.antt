-- Document 01, "First check wins", fill: 14, 11, 7; WebAssembly Core Specification 3.0, Execution, Instructions, table.fill, whose steps leave this span.
use Rattle.std.specs.Prelude.{ℕ, ◌+◌, List, length, replicate}
use Rattle.types.specs.Names.{pick, unless, inside, over, refuse, accept, short, paid, Done, span_done, element_matches}
use Rattle.types.specs.Names.{Fuel, Spanned, FillSpan, TypedRawRef}
use Rattle.table.specs.{Table.sound_table, Grow.cells_price, declared.table.Table.Table}

-- the cells of the span become the reference
unfoldable pub fill_table : ℕ → Table → List ℕ → FillSpan → TypedRawRef → Fuel → Done Spanned
fill_table r t cs span v f =
    unless (sound_table t (length cs)) (span_done (refuse 19 0) f cs)
    (unless (element_matches t.ty v.ty) (span_done (refuse 14 0) f cs)
    (unless (inside span.start span.len t.size) (span_done (refuse 11 0) f cs)
    (pick (short f (cells_price r span.len f)) (span_done (refuse 7 (cells_price r span.len f)) f cs)
    (span_done (accept 0) (paid f (cells_price r span.len f)) (over cs (t.start + span.start) (replicate span.len v.raw.bits))))))
