-- Laws of numbers in digits: what a loop over digits keeps. Assumes nothing.
use Rattle.std.specs.Prelude.{Some, None, Option}
use Rattle.types.proofs.Prelude.{◌≡◌, refl, sym, ap, ◌∙◌, List, ◌∷◌, ℕ, suc, ◌+◌, ◌-◌, ◌*◌, ◌<◌, ◌≤◌, ◌^◌, arith, add-one, ltb, length, drop, get_or, drop-cons}
use Rattle.types.proofs.Prelude.{lt-ltb, le-ltb, ltb-true, ltb-false, either, pick_true, pick_false}
use native.Mathlib.Nat.{pow-suc, pow-le-pow_right}
use Rattle.types.specs.Pick.{pick}
use Rattle.lines.specs.{Hex.digit_of, Hex.hex_from, stages.Codes.in_range}

-- the digit that a byte is, if it is one
abbrev digit_at : ℕ → Option ℕ
digit_at b = in_range (ltb (digit_of b) 16) (digit_of b)

pub digit_some : (b : ℕ) {d : ℕ} → Some d ≡ digit_at b → (d < 16) × (d ≡ digit_of b)
unfolding pick
digit_some b {d} e =
    either (ltb (digit_of b) 16)
    (λ t. let g : Some d ≡ Some (digit_of b) = rw t at e in let h : d ≡ digit_of b = cc in (omega (arith, ltb-true (digit_of b) 16 t), h))
    (λ t. let g : Some d ≡ None = rw t at e in let h : ◌≡◌ {A = ℕ} 0 1 = cc in absurd (omega arith))

digit_below : (b : ℕ) {d : ℕ} → d < 16 → d ≡ digit_of b → digit_of b < 16
digit_below b h e = omega arith

digit_none : (b : ℕ) → None ≡ digit_at b → 16 ≤ digit_of b
unfolding pick
digit_none b e =
    either (ltb (digit_of b) 16)
    (λ t. let g : None ≡ Some (digit_of b) = rw t at e in let h : ◌≡◌ {A = ℕ} 0 1 = cc in absurd (omega arith))
    (λ t. ltb-false (digit_of b) 16 t)

module _ (s : List ℕ) (i v : ℕ) {f : Option ℕ} (q : hex_from (length s - i) v (drop i s) ≡ f) where
  -- the next digit
  unroll : i < length s →
      hex_from (length s - i) v (drop i s) ≡ pick (ltb (digit_of (get_or s i 0)) 16) (hex_from (length s - (i + 1)) (v * 16 + digit_of (get_or s i 0)) (drop (i + 1) s)) None
  unfolding hex_from
  unroll k =
      let a : length s - i ≡ suc (length s - (i + 1)) = omega arith in
      let b : drop i s ≡ get_or s i 0 ∷ drop (i + 1) s = rw add-one (drop-cons s i 0 k) in
      rw (a, b) refl

  -- the loop over digits: a digit more, no digit, and the end
  pub hex_on : {d : ℕ} → i < length s → Some d ≡ digit_at (get_or s i 0) → hex_from (length s - (i + 1)) (v * 16 + d) (drop (i + 1) s) ≡ f
  hex_on {d} k e =
      let g = digit_some _ e in
      rw g.1 (sym (pick_true _ _ _ (lt-ltb _ _ (digit_below _ g.0 g.1))) ∙ sym (unroll k) ∙ q)

  pub hex_bad : i < length s → None ≡ digit_at (get_or s i 0) → None ≡ f
  hex_bad k e = sym (pick_false _ _ _ (le-ltb _ _ (digit_none _ e))) ∙ sym (unroll k) ∙ q

  pub hex_end : length s ≤ i → Some v ≡ f
  unfolding hex_from
  hex_end h =
      let z : length s - i ≡ 0 = omega arith in
      sym (ap (λ (k : ℕ). hex_from k v (drop i s)) z) ∙ q

-- i digits more are below 16^(i+1), and 16 of them fit
pub grows : (i v d : ℕ) → v < 16 ^ i → d ≤ 15 → v * 16 + d < 16 ^ (i + 1)
grows i v d h g = omega (arith, ap (λ (k : ℕ). 16 ^ k) (add-one i) ∙ pow-suc 16 i)

pub room : (i n v d : ℕ) → i < n → n ≤ 16 → v < 16 ^ i → d ≤ 15 → v * 16 + d < 2 ^ 64
room i n v d a b h g =
    let k : i + 1 ≤ 16 = omega arith in
    let p : 0 < 16 = omega arith in
    let m : 16 ^ (i + 1) ≤ 16 ^ 16 = pow-le-pow_right p k in
    omega (arith, grows i v d h g)
