-- The stages of fill, copy and init as the code has them; crates/table/proofs/Readings.antt shows that together they are the definitions.
use Rattle.std.specs.Prelude.{ℕ, ◌+◌, ◌*◌, List, eqb, replicate, Ok, Err, Result}
use Rattle.types.specs.Pick.{pick, both}
use Rattle.types.specs.Done.{Done, span_of, span_done}
use Rattle.types.specs.Span.{inside, cut, over}
use Rattle.types.specs.Answer.{refuse, accept}
use Rattle.types.specs.Price.{price}
use Rattle.types.specs.Fuel.{consume_if}
use Rattle.types.specs.stages.Grant.{grant_span, spanned}
use Rattle.types.specs.declared.answer.Refusal.{Refusal}
use Rattle.types.specs.declared.fuel.Fuel.{Fuel}
use Rattle.types.specs.declared.grant.Spanned.{Spanned}
use Rattle.types.specs.declared.span.CopySpan.{CopySpan}
use Rattle.types.specs.declared.span.FillSpan.{FillSpan}
use Rattle.types.specs.TableType.{element_matches}
use Rattle.types.specs.declared.raw.TypedRawRef.{TypedRawRef}
use Rattle.table.specs.declared.table.Table.{Table}
use Rattle.table.specs.declared.element.ElementSegment.{ElementSegment}

-- answer and fuel by the fuel step
unfoldable pub paid_by : Result Fuel Refusal → Fuel → Spanned
paid_by (Err r) f = span_of (Err r) f
paid_by (Ok g) f = span_of (accept 0) g

-- bounds 11, then the fuel step, at length 0 too
unfoldable pub fill_kind : ℕ → Table → List ℕ → FillSpan → ℕ → Fuel → Done Spanned
fill_kind r t cs span bits f =
    spanned (grant_span f (inside span.start span.len t.size) 11 (price f.costs.copied (span.len * r)))
    f
    cs
    (over cs (t.start + span.start) (replicate span.len bits))

-- 14 for a reference of another kind
unfoldable pub fill_sound : ℕ → Table → List ℕ → FillSpan → TypedRawRef → Fuel → Done Spanned
fill_sound r t cs span v f =
    pick (element_matches t.ty v.ty) (fill_kind r t cs span v.raw.bits f) (span_done (refuse 14 0) f cs)

-- bounds 12 in both tables, then the fuel step; all cells are read as they were before
unfoldable pub copy_bounds : ℕ → Table → Table → List ℕ → CopySpan → Fuel → Done Spanned
copy_bounds r d s cs span f =
    spanned
    (grant_span f (both (inside span.to span.len d.size) (inside span.from span.len s.size)) 12 (price f.costs.copied (span.len * r)))
    f
    cs
    (over cs (d.start + span.to) (cut cs (s.start + span.from) span.len))

-- 14 where the kinds of the tables differ
unfoldable pub copy_kinds : ℕ → Table → Table → List ℕ → CopySpan → Fuel → Done Spanned
copy_kinds r d s cs span f =
    pick (element_matches d.ty s.ty.element) (copy_bounds r d s cs span f) (span_done (refuse 14 0) f cs)

-- the fuel step of a length above 0
unfoldable pub init_some : ℕ → Table → ElementSegment → List ℕ → List ℕ → CopySpan → Fuel → Done Spanned
init_some r t s cs items span f =
    spanned (consume_if f (price f.costs.copied (span.len * r)))
    f
    cs
    (over cs (t.start + span.to) (cut items (s.start + span.from) span.len))

-- bounds 13 in table and segment; length 0 is accepted
unfoldable pub init_bounds : ℕ → Table → ElementSegment → List ℕ → List ℕ → CopySpan → Fuel → Done Spanned
init_bounds r t s cs items span f =
    pick (both (inside span.to span.len t.size) (inside span.from span.len s.size))
    (pick (eqb span.len 0) (span_done (accept 0) f cs) (init_some r t s cs items span f))
    (span_done (refuse 13 0) f cs)

-- 14 where the segment's kind is not the table's
unfoldable pub init_kinds : ℕ → Table → ElementSegment → List ℕ → List ℕ → CopySpan → Fuel → Done Spanned
init_kinds r t s cs items span f =
    pick (element_matches t.ty s.ty) (init_bounds r t s cs items span f) (span_done (refuse 14 0) f cs)
