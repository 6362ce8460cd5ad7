use Rattle.machine.specs.Words.{answer_at, script_at}
use Rattle.machine.proofs.Places.{Tested}
use Rattle.machine.proofs.form.script_in_form.Given as goal

abbrev pub invariant-loop-i : goal.invariant-loop-i
invariant-loop-i l = Tested answer_at 1 l.words script_at 16 l.i l.fine
