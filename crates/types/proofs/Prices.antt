-- Laws of the price, over the byte length and so over the cell size. Assumes nothing.
use Rattle.types.proofs.Prelude.{◌≡◌, ap, sym, ◌∙◌, ℕ, suc, ◌+◌, ◌-◌, ◌*◌, ◌/◌, ◌^◌, ◌<◌, ◌≤◌, arith, eq-eqb, ne_eqb, eqb, pick_true, pick_false}
use native.Mathlib.Nat.{div-mul-le_self, mul-le-mul_right, mul_comm, lt-div-mul-add, mul-le-mul}
use Rattle.types.specs.{Pick.pick, Price.capped, Price.price}

pub capped_small : (n : ℕ) → n < 2 ^ 64 → capped n ≡ n
unfolding capped
capped_small n h = omega arith

pub capped_large : (n : ℕ) → 2 ^ 64 ≤ n → capped n ≡ 2 ^ 64 - 1
unfolding capped
capped_large n h = omega arith

pub capped_fits : (n : ℕ) → capped n < 2 ^ 64
unfolding capped
capped_fits n = omega arith

pub capped_twice : (n : ℕ) → capped (capped n) ≡ capped n
capped_twice n = capped_small (capped n) (capped_fits n)

-- a factor beyond the quotient makes a product beyond the dividend, and one within it does not
pub too_large : (a b m : ℕ) → (b ≡ 0 → ⊥) → m / b < a → m < a * b
too_large a b m h g =
    let p : 0 < b = omega arith in
    let k : suc (m / b) * b ≤ a * b = mul-le-mul_right b g in
    omega (arith, lt-div-mul-add {a = m} {b = b} p)

pub within_quotient : (a b m : ℕ) → a ≤ m / b → a * b ≤ m
within_quotient a b m h = omega (arith, mul-le-mul_right b h, div-mul-le_self m b)

pub product_fits : (a b : ℕ) → a ≤ (2 ^ 64 - 1) / b → a * b < 2 ^ 64
product_fits a b h = omega (arith, within_quotient a b (2 ^ 64 - 1) h)

-- B = 0: every length costs the most
pub price_none : (b n : ℕ) → b ≡ 0 → 2 ^ 64 - 1 ≡ price b n
unfolding price
price_none b n e = sym (pick_true _ _ _ (eq-eqb b 0 e))

pub price_some : (b n : ℕ) → (b ≡ 0 → ⊥) → price b n ≡ capped n / b
unfolding price
price_some b n h = pick_false _ _ _ (ne_eqb b 0 h)

pub price_word : (b n : ℕ) → (b ≡ 0 → ⊥) → n < 2 ^ 64 → n / b ≡ price b n
price_word b n h g = ap (λ (m : ℕ). m / b) (sym (capped_small n g)) ∙ sym (price_some b n h)

pub price_capped : (b n : ℕ) → price b (capped n) ≡ price b n
unfolding price
price_capped b n = ap (λ (m : ℕ). pick (eqb b 0) (2 ^ 64 - 1) (m / b)) (capped_twice n)

-- what is paid covers the bytes but for less than a unit: the bound of demand 3, for one operation
pub price_covers : (b n : ℕ) → 0 < b → n < 2 ^ 64 → n ≤ b * price b n + (b - 1)
price_covers b n h g =
    let e : price b n ≡ n / b = sym (price_word b n (λ z. absurd (omega (arith, z))) g) in
    let m : b * price b n ≡ n / b * b = ap (λ (x : ℕ). b * x) e ∙ mul_comm b (n / b) in
    omega (arith, lt-div-mul-add {a = n} {b = b} h)

-- cells of up to 16 bytes, up to 2^32 of them: the byte length is never capped
pub bytes_whole : (n r : ℕ) → n ≤ 2 ^ 32 → r ≤ 16 → n * r < 2 ^ 64
bytes_whole n r h g = omega (arith, mul-le-mul h g)

-- what a price's function needs
pub ruleset priced = (price_none, price_word, price_capped)
