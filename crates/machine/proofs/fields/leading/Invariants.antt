use Rattle.types.proofs.Prelude.{◌≡◌, drop}
use Rattle.machine.specs.Operation.{leading}
use Rattle.machine.proofs.fields.leading.Given as goal

abbrev pub invariant-loop-digit : goal.invariant-loop-digit
invariant-loop-digit l = leading l.left (drop l.digit-index l.digits) ≡ leading l.count l.digits
