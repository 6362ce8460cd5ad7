use Rattle.types.proofs.Prelude.{◌-◌, ◌≤◌, length, take, ◌≡◌}
use Rattle.types.specs.Span.{over}
use Rattle.table.proofs.cells.put.Given as goal

abbrev pub invariant-loop-i : goal.invariant-loop-i
invariant-loop-i l = (l.part ≡ over l.initial.part 0 (take l.i l.source)) × (l.i ≤ length l.initial.part) × (length l.part ≡ length l.initial.part)

abbrev pub decreases-loop-i : goal.decreases-loop-i
decreases-loop-i l = length l.initial.part - l.i
