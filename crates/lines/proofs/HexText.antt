-- A number and its digits: each way, and only one text of so many digits. Assumes nothing.
use Rattle.std.specs.Prelude.{Some}
use Rattle.types.proofs.Prelude.{◌≡◌, refl, sym, ap, ◌∙◌, true, false, List, [], ◌∷◌, ◌++◌, append_assoc, append-nil, ℕ, zero, suc, ◌+◌, ◌-◌, ◌*◌, ◌/◌, ◌%◌}
use Rattle.types.proofs.Prelude.{◌^◌, ◌<◌, ◌≤◌, arith, ltb, leb, take, ltb-true, ltb-false, leb-true, lt-ltb, le-ltb, pick_true, pick_false, either}
use mathlib.Core.Logic.{◌⊎◌, inl, inr, ⊎_elim}
use native.Mathlib.Nat.{pow-suc, mul_assoc}
use Rattle.types.specs.Pick.{pick}
use Rattle.lines.specs.{Hex.digit_of, Hex.char_of, Hex.hex_from, Hex.hex_text}
use Rattle.lines.proofs.Entries.{right, comes_back}

-- a digit's byte, and a byte's digit
pub digit_char : (d : ℕ) → d < 16 → digit_of (char_of d) ≡ d
unfolding digit_of char_of pick right
digit_char d h = comes_back (λ (d : ℕ). digit_of (char_of d)) 16 tt d h

-- where a byte is a digit, which of the two it is
pub kind : (b : ℕ) → digit_of b < 16 → ((48 ≤ b) × (b ≤ 57) × (digit_of b ≡ b - 48)) ⊎ ((97 ≤ b) × (b ≤ 102) × (digit_of b ≡ b - 87))
unfolding digit_of
kind b h =
    either (ltb b 48)
    (λ a. let z : digit_of b ≡ 16 = pick_true _ _ _ a in absurd (omega arith))
    (λ a. either (leb b 57) (λ c. inl (ltb-false b 48 a, leb-true b 57 c, pick_false _ _ _ a ∙ pick_true _ _ _ c))
    (λ c. either (ltb b 97)
    (λ d. let z : digit_of b ≡ 16 = pick_false _ _ _ a ∙ pick_false _ _ _ c ∙ pick_true _ _ _ d in absurd (omega arith))
    (λ d. either (leb b 102) (λ e. inr (ltb-false b 97 d, leb-true b 102 e, pick_false _ _ _ a ∙ pick_false _ _ _ c ∙ pick_false _ _ _ d ∙ pick_true _ _ _ e))
    (λ e. let z : digit_of b ≡ 16 = pick_false _ _ _ a ∙ pick_false _ _ _ c ∙ pick_false _ _ _ d ∙ pick_false _ _ _ e in absurd (omega arith)))))

pub char_digit : (b : ℕ) → digit_of b < 16 → char_of (digit_of b) ≡ b
unfolding char_of
char_digit b h =
    ⊎_elim
    (λ w.
    let t : ltb (b - 48) 10 ≡ true = lt-ltb (b - 48) 10 (omega arith) in
    let z : 48 + (b - 48) ≡ b = omega arith in
    rw w.2 (pick_true _ _ _ t ∙ z))
    (λ w.
    let t : ltb (b - 87) 10 ≡ false = le-ltb (b - 87) 10 (omega arith) in
    let z : 87 + (b - 87) ≡ b = omega arith in
    rw w.2 (pick_false _ _ _ t ∙ z))
    (kind b h)

-- a number's digits, read
one : (x d m : ℕ) (rest : List ℕ) → d < 16 → hex_from (suc m) x (char_of d ∷ rest) ≡ hex_from m (x * 16 + d) rest
unfolding hex_from
one x d m rest h = rw (digit_char d h) (pick_true _ _ _ (lt-ltb d 16 h))

pub hex_write : (k n m a v : ℕ) (rest : List ℕ) → n ≡ k + m → v < 16 ^ k → hex_from n a (hex_text k v ++ rest) ≡ hex_from m (a * 16 ^ k + v) rest
unfolding hex_text
hex_write zero n m a v rest e h =
    let j : n ≡ m = omega arith in
    let u : a * 1 + v ≡ a = omega arith in
    rw (j, u) refl
hex_write (suc k) n m a v rest e h =
    let p : 16 ^ suc k ≡ 16 ^ k * 16 = pow-suc 16 k in
    let d = v % 16 in
    let i = hex_write k n (suc m) a (v / 16) (char_of d ∷ rest) (omega arith) (omega arith) in
    let q : a * (16 ^ k * 16) ≡ (a * 16 ^ k) * 16 = sym (mul_assoc a (16 ^ k) 16) in
    let u : (a * 16 ^ k + v / 16) * 16 + d ≡ a * 16 ^ suc k + v = omega (arith, ap (λ (x : ℕ). a * x) p) in
    rw (append_assoc (hex_text k (v / 16)) (char_of d ∷ []) rest) (i ∙ one (a * 16 ^ k + v / 16) d m rest (omega arith) ∙ ap (λ (x : ℕ). hex_from m x rest) u)

pub hex_all : (k v : ℕ) (rest : List ℕ) → v < 16 ^ k → hex_from k 0 (hex_text k v ++ rest) ≡ Some v
unfolding hex_from
hex_all k v rest h =
    let z : 0 * 16 ^ k + v ≡ v = omega arith in
    hex_write k k 0 0 v rest (omega arith) h ∙ ap (λ (x : ℕ). Some x) z

last : (m a b : ℕ) → digit_of b < 16 → hex_text (suc m) (a * 16 + digit_of b) ≡ hex_text m a ++ (b ∷ [])
unfolding hex_text
last m a b h =
    let p : (a * 16 + digit_of b) / 16 ≡ a = omega arith in
    let q : (a * 16 + digit_of b) % 16 ≡ digit_of b = omega arith in
    rw (p, q, char_digit b h) refl

-- a text of digits is the text of its number
pub hex_read : (n m k a v : ℕ) (l : List ℕ) → k ≡ m + n → hex_from n a l ≡ Some v → hex_text k v ≡ hex_text m a ++ take n l
unfolding hex_from
hex_read zero m k a v l e q =
    let j : k ≡ m = omega arith in
    let w : v ≡ a = cc in
    rw (j, w) (sym (append-nil (hex_text m a)))
hex_read (suc n) m k a v [] e q = let z : ◌≡◌ {A = ℕ} 0 1 = cc in absurd (omega arith)
hex_read (suc n) m k a v (b ∷ l) e q =
    either (ltb (digit_of b) 16)
    (λ t.
    let i = hex_read n (suc m) k (a * 16 + digit_of b) v l (omega arith) (sym (pick_true _ _ _ t) ∙ q) in
    i ∙ ap (λ (z : List ℕ). z ++ take n l) (last m a b (ltb-true _ _ t)) ∙ append_assoc (hex_text m a) (b ∷ []) (take n l))
    (λ t. let y = sym (pick_false _ _ _ t) ∙ q in let z : ◌≡◌ {A = ℕ} 0 1 = cc in absurd (omega arith))

pub hex_whole : (n v : ℕ) (l : List ℕ) → hex_from n 0 l ≡ Some v → hex_text n v ≡ take n l
unfolding hex_text
hex_whole n v l q = hex_read n 0 n 0 v l (omega arith) q
