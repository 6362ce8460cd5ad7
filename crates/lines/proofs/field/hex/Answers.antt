use Rattle.std.specs.Prelude.{Some, None, Option}
use Rattle.types.proofs.Prelude.{◌≡◌, ◌∙◌, sym, ℕ, arith}
use Rattle.lines.proofs.HexLaws.{digit_some, hex_on, hex_bad, hex_end, grows, room}
use Rattle.lines.proofs.field.hex.Goals as goal

pub returns-in_err-digit : goal.returns-in_err-digit
returns-in_err-digit c =
    let was : ◌≡◌ {A = Option ℕ} c.digit.result None = c.in_err-digit.was in
    c.from_residual.ensures ∙ hex_bad _ _ _ c.loop-b.invariant.1 c.loop-b-test.true (sym was ∙ c.digit.ensures)

pub overflow_mul-v : goal.overflow_mul-v
overflow_mul-v c =
    let h = room _ _ _ 0 c.loop-b-test.true c.requires c.loop-b.invariant.0 (omega arith) in
    omega arith

pub overflow_add-v : goal.overflow_add-v
overflow_add-v c =
    let was : ◌≡◌ {A = Option ℕ} c.digit.result (Some c.in_ok-digit.field-0) = c.in_ok-digit.was in
    let g = digit_some _ (sym was ∙ c.digit.ensures) in
    let h = room _ _ _ c.in_ok-digit.field-0 c.loop-b-test.true c.requires c.loop-b.invariant.0 (omega (arith, g.0)) in
    omega arith

pub loop-b-preserved : goal.loop-b-preserved
loop-b-preserved c =
    let was : ◌≡◌ {A = Option ℕ} c.digit.result (Some c.in_ok-digit.field-0) = c.in_ok-digit.was in
    let d = sym was ∙ c.digit.ensures in
    let g = digit_some _ d in (
      grows _ _ _ c.loop-b.invariant.0 (omega (arith, g.0)),
      rw c.from.ensures (hex_on _ _ _ c.loop-b.invariant.1 c.loop-b-test.true d),
    )

pub returns : goal.returns
returns c = hex_end _ _ _ c.loop-b.invariant.1 (omega arith)
