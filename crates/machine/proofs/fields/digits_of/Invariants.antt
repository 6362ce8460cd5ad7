use Rattle.types.proofs.Prelude.{◌≡◌, ◌++◌, ◌-◌, length, drop}
use Rattle.machine.specs.Operation.{digits_of}
use Rattle.machine.proofs.fields.digits_of.Given as goal

abbrev pub invariant-loop-i : goal.invariant-loop-i
invariant-loop-i l = (length l.row ≡ 16) × (digits_of (16 - l.i) l.rest ++ drop (16 - l.i) l.row ≡ digits_of 16 l.field)
