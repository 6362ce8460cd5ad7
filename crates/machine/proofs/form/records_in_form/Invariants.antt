use Rattle.machine.proofs.Places.{Tested}
use Rattle.machine.proofs.form.records_in_form.Given as goal

abbrev pub invariant-loop-i : goal.invariant-loop-i
invariant-loop-i g l =
    let R = g.R.Record in Tested R.in_form R.WIDTH l.words R.PLACE 8 l.i l.fine
