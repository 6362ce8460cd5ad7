-- Laws of a number in two halves of 64 bits. Assumes nothing.
use Rattle.types.proofs.Prelude.{◌≡◌, ap, ◌∙◌, ℕ, ◌+◌, ◌*◌, ◌^◌, ◌≤◌, arith}
use native.Mathlib.Nat.{zero-add}
use Rattle.types.specs.{declared.wide.Wide.Wide, Wide.whole, Wide.halves}

pub whole_halves : (n : ℕ) → whole (halves n) ≡ n
unfolding whole halves
whole_halves n = omega arith

pub whole_low : (w : Wide) → w.high ≤ 0 → whole w ≡ w.low
unfolding whole
whole_low w h =
    let e : w.high ≡ 0 = omega arith in
    ap (λ (n : ℕ). n * 2 ^ 64 + w.low) e ∙ zero-add w.low

-- what a bound's functions need
pub ruleset halved = (whole_halves, whole_low)
