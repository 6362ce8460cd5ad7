use Rattle.types.proofs.Prelude.{length-set, arith}
use Rattle.types.proofs.Moves.{put_all, put_turn}
use Rattle.table.proofs.cells.put.Goals as goal

pub loop-i-preserved : goal.loop-i-preserved
loop-i-preserved c =
    let l = c.loop-i in
    let a = c.args in
    (put_turn _ l.part a.source.now l.i (omega arith) (omega arith) l.invariant.0, omega arith, simp length-set l.invariant.2)

pub returns : goal.returns
returns c =
    let l = c.loop-i in
    let a = c.args in
    put_all _ l.part a.source.now l.i (omega arith) (omega arith) l.invariant.0
