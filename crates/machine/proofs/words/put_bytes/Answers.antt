use Rattle.types.proofs.Prelude.{length-set, arith}
use Rattle.machine.proofs.Rows.{put_turn}
use Rattle.machine.proofs.words.put_bytes.Goals as goal

pub loop-i-preserved : goal.loop-i-preserved
loop-i-preserved c =
    let l = c.loop-i in
    let a = c.args in
    (rw c.from.ensures (put_turn _ l.words a.row.now a.at l.i c.requires (omega arith) l.invariant.0), simp length-set l.invariant.1)
