use Rattle.types.proofs.Prelude.{◌∙◌, ◌+◌, length-set, ◌-◌, ◌%◌, ◌≡◌, arith}
use Rattle.machine.proofs.Digits.{digit_more}
use Rattle.machine.proofs.fields.digits_of.Goals as goal

pub loop-i-preserved : goal.loop-i-preserved
loop-i-preserved c =
    let l = c.loop-i in
    let e : 15 - l.i ≡ 16 - l.i - 1 = omega arith in
    let f : 16 - (l.i + 1) ≡ 16 - l.i - 1 = omega arith in (
      length-set l.row (15 - l.i) (l.rest % 16) ∙ l.invariant.0,
      rw (e, f) (digit_more c.args.field (16 - l.i) l.rest l.row (omega arith) (omega (arith, l.invariant.0)) l.invariant.1),
    )
