use Rattle.types.proofs.Prelude.{◌≡◌, get_or, refl, rules, arith}
use Rattle.types.specs.Pick.{pick}
use Rattle.lines.proofs.DigitLaws.{digit_is}
use Rattle.lines.specs.{stages.Digits.digit_table, Hex.digit_of}
use Rattle.lines.proofs.field.digit.Goals as goal

pub returns : goal.returns
unfolding digit_table pick
returns c =
    let h : get_or digit_table c.args.b 0 ≡ digit_of c.args.b = digit_is digit_table _ refl (omega arith) in
    rw (← h) (search rules)
