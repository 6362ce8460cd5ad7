-- Laws of numbers and their bytes, over the number of bytes. Assumes nothing.
use Rattle.types.proofs.Prelude.{◌≡◌, refl, ap, sym, ◌∙◌, List, [], ◌∷◌, ◌++◌, ℕ, zero, suc, ◌+◌, ◌-◌, ◌*◌, ◌/◌, ◌%◌, ◌^◌, ◌≤◌, ◌<◌}
use Rattle.types.proofs.Prelude.{arith, length, length-append, length-drop, length-replicate, length-take, take, drop, get_or, replicate, take_all}
use Rattle.std.proofs.lemmas.List.{get_or-drop, drop-replicate}
use Rattle.std.specs.Int.{w64, byte_at, byte_worth, bytes_low_first, sum_through, to_le_bytes, from_le_bytes}
use native.Mathlib.Nat.{div-div-eq-div-mul, mul_assoc, mul_comm, pow-suc}
use lib.{Pow.pow-add, Pow.pow_pos, Seq.take-suc}
use Rattle.types.specs.Span.{cut}
use Rattle.types.proofs.Moves.{length_cut}
use Rattle.memory.specs.{LittleEndian.le_bytes, LittleEndian.le_value, stages.Facts.Reach, stages.Facts.Read}

pub length_bytes : (n v : ℕ) → length (le_bytes n v) ≡ n
unfolding le_bytes
length_bytes zero v = refl
length_bytes (suc n) v = ap suc (length_bytes n (v / 256))

-- a store: the first bytes of a number of 8, from byte i on
byte_is : (i v : ℕ) → byte_at i v ≡ v / 256 ^ i % 256
byte_is zero v = ap (λ (k : ℕ). k % 256) (omega arith)
byte_is (suc i) v = refl

low_bytes : (n i k v : ℕ) → n ≤ k → take n (bytes_low_first i k v) ≡ le_bytes n (v / 256 ^ i)
unfolding le_bytes
low_bytes zero i k v h = refl
low_bytes (suc n) i zero v h = absurd (omega arith)
low_bytes (suc n) i (suc k) v h =
    ap (λ (b : ℕ). b ∷ take n (bytes_low_first (suc i) k v)) (byte_is i v)
    ∙ ap (λ (bs : List ℕ). v / 256 ^ i % 256 ∷ bs)
    (low_bytes n (suc i) k v (omega arith) ∙ ap (λ (p : ℕ). le_bytes n (v / p)) (pow-suc 256 i) ∙ ap (le_bytes n) (sym (div-div-eq-div-mul v (256 ^ i) 256)))

pub first_bytes : (n v : ℕ) → n ≤ 8 → take n (to_le_bytes w64 v) ≡ le_bytes n v
first_bytes n v h =
    let e : v / 1 ≡ v = omega arith in
    low_bytes n 0 8 v h ∙ ap (le_bytes n) e

-- a load: bytes behind others are worth as many powers of 256
value_append : (bs cs : List ℕ) → le_value (bs ++ cs) ≡ le_value bs + le_value cs * 256 ^ length bs
unfolding le_value
value_append [] cs = omega arith
value_append (b ∷ bs) cs =
    let h = value_append bs cs in
    let e : le_value cs * 256 ^ suc (length bs) ≡ 256 * (le_value cs * 256 ^ length bs) =
    ap (λ (p : ℕ). le_value cs * p) (pow-suc 256 (length bs)) ∙ sym (mul_assoc (le_value cs) (256 ^ length bs) 256)
    ∙ mul_comm (le_value cs * 256 ^ length bs) 256 in
    omega (arith, h, e)

value_none : (n : ℕ) → le_value (replicate n 0) ≡ 0
unfolding le_value
value_none zero = refl
value_none (suc n) = omega (arith, value_none n)

sum_is : (k : ℕ) (bs : List ℕ) → k < length bs → sum_through (λ i. byte_worth i (get_or bs i 0)) k ≡ le_value (take (suc k) bs)
unfolding le_value
sum_is zero [] h = absurd (omega arith)
sum_is zero (b ∷ bs) h = omega arith
sum_is (suc k) bs h =
    let b = get_or bs (suc k) 0 in
    let e : length (take (suc k) bs) ≡ suc k = simp length-take (omega arith) in
    ap (λ (s : ℕ). s + b * 256 ^ suc k) (sum_is k bs (omega arith))
    ∙ sym (ap le_value (take-suc bs (suc k) 0 h) ∙ value_append (take (suc k) bs) (b ∷ [])
    ∙ ap (λ (n : ℕ). le_value (take (suc k) bs) + le_value (b ∷ []) * 256 ^ n) e
    ∙ ap (λ (x : ℕ). le_value (take (suc k) bs) + x * 256 ^ suc k) (omega arith))

pub eight_is : (bs : List ℕ) → length bs ≡ 8 → from_le_bytes w64 bs ≡ le_value bs
eight_is bs h = sum_is 7 bs (omega arith) ∙ ap le_value (take_all 8 bs (omega arith))

pow_step : (n : ℕ) → 2 ^ (8 * suc n) ≡ 2 ^ (8 * n) * 256
pow_step n =
    let e : 8 * suc n ≡ 8 * n + 8 = omega arith in
    ap (λ (k : ℕ). 2 ^ k) e ∙ pow-add 2 (8 * n) 8

-- n bytes are a number below 2^(8n)
value_small : (n : ℕ) (bs : List ℕ) → ((i : ℕ) → get_or bs i 0 < 256) → le_value (take n bs) < 2 ^ (8 * n)
unfolding le_value
value_small zero bs h = omega arith
value_small (suc n) [] h = pow_pos (8 * suc n)
value_small (suc n) (b ∷ bs) h = omega (arith, pow_step n, h 0, value_small n bs (λ i. h (suc i)))

-- the bytes of a span, with zeros behind them
pub read_is : (bs row : List ℕ) (at n r : ℕ) → Reach at n (length bs) → ((i : ℕ) → get_or bs i 0 < 256) → row ≡ cut bs at n ++ drop n (replicate 8 0)
    → r ≡ from_le_bytes w64 row → Read bs at n r
unfolding cut
read_is bs row at n r f h e q =
    let l : length (cut bs at n) ≡ n = length_cut bs at n f.inside in
    let k : length row ≡ 8 = ap length e ∙ simp (length-append, l, length-drop, length-replicate) (omega (arith, f.few)) in
    let z : le_value (drop n (replicate 8 0)) ≡ 0 = ap le_value (drop-replicate n 8 0) ∙ value_none (8 - n) in
    let v : r ≡ le_value (cut bs at n) = q ∙ eight_is row k ∙ ap le_value e ∙ value_append (cut bs at n) (drop n (replicate 8 0)) ∙ rw z (omega arith) in
    record {
      value = v;
      small = rw v (value_small n (drop at bs) (λ i. rw (get_or-drop at bs i 0) (h (at + i))));
    }
