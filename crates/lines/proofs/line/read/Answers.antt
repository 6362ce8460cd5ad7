use Rattle.types.proofs.Prelude.{◌≡◌, ◌∙◌, sym, ℕ}
use Rattle.std.specs.Prelude.{Some, None, Option}
use Rattle.lines.proofs.FieldLaws.{line_short, line_bad, line_is}
use Rattle.lines.proofs.line.read.Goals as goal

pub returns-then-s-lt2 : goal.returns-then-s-lt2
returns-then-s-lt2 c = line_short _ c.if-s-lt2.true

pub returns-in_err-hex : goal.returns-in_err-hex
returns-in_err-hex c =
    let was : ◌≡◌ {A = Option ℕ} c.hex.result None = c.in_err-hex.was in
    c.from_residual.ensures ∙ line_bad c.args.s.now c.if-s-lt2.false (sym was ∙ c.hex.ensures)

pub returns : goal.returns
returns c =
    let was : ◌≡◌ {A = Option ℕ} c.hex.result (Some c.in_ok-hex.field-0) = c.in_ok-hex.was in
    line_is c.args.s.now c.if-s-lt2.false _ (sym was ∙ c.hex.ensures) c.read_fields.ensures
