-- Document 01, operations 27 to 29: segments. R, the bytes that a reference counts, is the first argument of an init.
use Rattle.std.specs.Prelude.{ℕ, ◌-◌, List, leb, ltb, length, Result}
use Rattle.types.specs.Names.{unless, both, Done, done, refuse, accept, RefType, CopySpan}
use Rattle.table.specs.Names.{init_table, dropped, new_segment}
use Rattle.machine.specs.Machine.{capacity, table_at, segment_at, next_item}
use Rattle.machine.specs.{Outcome.keeps, Outcome.made, Outcome.refused, Outcome.one_segment_more, Tables.spanned_done}
use Rattle.machine.specs.declared.{records.Machine.Machine, records.Counts.Counts, outcome.Outcome.Outcome, outcome.Change.Change}
use Rattle.table.specs.declared.element.ElementSegment.{ElementSegment}
use Rattle.types.specs.declared.answer.Refusal.{Refusal}

-- 27: 16, then the init
unfoldable pub init_on : ℕ → Machine → List ℕ → List ℕ → ℕ → ℕ → CopySpan → Done Outcome
init_on r m cs items i segment span =
    unless (both (ltb i m.counts.tables) (ltb segment m.counts.segments)) (refused m 16 cs)
    (spanned_done m (init_table r (table_at m i) (segment_at m segment) cs items span m.fuel))

-- 28: 16, then the segment becomes empty and keeps number, kind and places
unfoldable pub drop_on : Machine → ℕ → Outcome
drop_on m i =
    unless (ltb i m.counts.segments) (keeps m (refuse 16 0))
    (record { answer = accept 0; change = Change.Segment i (dropped (segment_at m i)); counts = m.counts; fuel = m.fuel; limiter = m.limiter })

-- 29: a creation answers the new number
unfoldable pub made_segment : Machine → Result ElementSegment Refusal → Outcome
made_segment m s = made (λ (k : Counts). k.segments) one_segment_more Change.Segment m s m.limiter

-- the same, with the items after it
abbrev pub segment_made : Machine → Done (Result ElementSegment Refusal) → Done Outcome
segment_made m s = done (made_segment m s.out) s.cells

-- 17, then the one operation that writes items
unfoldable pub new_segment_on : Machine → List ℕ → RefType → List ℕ → Done Outcome
new_segment_on m items element given =
    unless (both (ltb m.counts.segments capacity) (leb (length given) (length items - next_item m))) (refused m 17 items)
    (segment_made m (new_segment element (next_item m) items given))
