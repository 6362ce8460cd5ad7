use Rattle.std.proofs.Common.{length, ◌≤◌}
use Rattle.session.proofs.host.Host.answer.Given as goal

abbrev pub invariant-loop-self : goal.invariant-loop-self
invariant-loop-self g l = length l.rest ≤ length l.input

abbrev pub decreases-loop-self : goal.decreases-loop-self
decreases-loop-self g l = length l.rest
