-- Document 01, "First check wins", init: 14, 13, length 0 accepted without fuel, 7; WebAssembly Core Specification 3.0, Execution, Instructions, table.init, whose steps leave this span.
use Rattle.std.specs.Prelude.{ℕ, ◌+◌, List, eqb, length}
use Rattle.types.specs.Names.{pick, unless, both, inside, cut, over, refuse, accept, short, paid, Done, span_done, element_matches}
use Rattle.types.specs.Names.{Fuel, Spanned, CopySpan}
use Rattle.table.specs.{Table.sound_table, Grow.cells_price, Element.sound_segment}
use Rattle.table.specs.declared.{table.Table.Table, element.ElementSegment.ElementSegment}

-- items of a segment go to cells of the table
unfoldable pub init_table : ℕ → Table → ElementSegment → List ℕ → List ℕ → CopySpan → Fuel → Done Spanned
init_table r t s cs items span f =
    unless (both (sound_table t (length cs)) (sound_segment s (length items))) (span_done (refuse 19 0) f cs)
    (unless (element_matches t.ty s.ty) (span_done (refuse 14 0) f cs)
    (unless (both (inside span.to span.len t.size) (inside span.from span.len s.size)) (span_done (refuse 13 0) f cs)
    (pick (eqb span.len 0) (span_done (accept 0) f cs)
    (pick (short f (cells_price r span.len f)) (span_done (refuse 7 (cells_price r span.len f)) f cs)
    (span_done (accept 0) (paid f (cells_price r span.len f)) (over cs (t.start + span.to) (cut items (s.start + span.from) span.len)))))))
