use Rattle.types.proofs.Prelude.{◌∙◌, sym}
use Rattle.machine.proofs.Places.{records_at}
use Rattle.machine.proofs.row.record_at.Goals as goal

pub returns : goal.returns
returns g c =
    let R = g.R.Record in
    let a = c.args in
    rw (c.PLACE.ensures, c.WIDTH.ensures) at c.read.ensures
    ∙ sym (rw (g.met.R.Record.stands (a.words.now)) (records_at R.read R.WIDTH (a.words.now) R.none R.PLACE 8 a.i c.requires.1))
