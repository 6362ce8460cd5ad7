use Rattle.types.proofs.Prelude.{refl, arith}
use Rattle.types.proofs.Moves.{put_fill}
use Rattle.table.proofs.Puts.{copy_on_lem}
use Rattle.table.proofs.cells.fill_on.Goals as goal

pub loop-k-init : goal.loop-k-init
loop-k-init c = (put_fill c.args.to 128 c.args.v _ _ (omega arith) (c.fill.ensures.after (λ y e. e)), omega arith, omega arith)

pub loop-k-preserved : goal.loop-k-preserved
loop-k-preserved c =
    let a = c.args in
    let l = c.loop-k in
    (copy_on_lem a.cells.now l.cells _ a.to l.k c.min-m.result _ a.v refl (omega arith) (omega arith) l.invariant.0 c.move_some.ensures, omega arith, omega arith)
