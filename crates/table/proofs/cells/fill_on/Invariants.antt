use Rattle.types.proofs.Prelude.{◌-◌, ◌≤◌, replicate, ◌≡◌}
use Rattle.types.specs.Span.{over}
use Rattle.table.proofs.cells.fill_on.Given as goal

abbrev pub invariant-loop-k : goal.invariant-loop-k
invariant-loop-k l = (l.cells ≡ over l.fn.cells l.to (replicate l.k l.v)) × (128 ≤ l.k) × (l.k ≤ l.n)

abbrev pub decreases-loop-k : goal.decreases-loop-k
decreases-loop-k l = l.n - l.k
