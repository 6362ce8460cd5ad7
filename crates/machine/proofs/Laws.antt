-- Laws of a test on an instance's number, and of a value with two parts. Assumes nothing.
use Rattle.types.proofs.Prelude.{ℕ, ◌≤◌, ◌<◌, ◌≡◌, sym, ap, ◌∙◌, ltb, lt-ltb, le-ltb, pick_true, pick_false}
use Rattle.types.specs.Pick.{pick}

-- a number that is not in use
pub unknown : {A : Type 0} {a x : A} (y : A) (i n : ℕ) → n ≤ i → a ≡ x → a ≡ pick (ltb i n) y x
unknown y i n h e = e ∙ sym (pick_false _ _ _ (le-ltb i n h))

-- a number in use
pub known : {A : Type 0} {a y : A} (x : A) (i n : ℕ) → i < n → a ≡ y → a ≡ pick (ltb i n) y x
known x i n h e = e ∙ sym (pick_true _ _ _ (lt-ltb i n h))

-- two parts of a value that are others
pub along : {A B C : Type 0} {a x : A} {b y : B} (f : A → B → C) → a ≡ x → b ≡ y → f a b ≡ f x y
along {A = A} {B = B} {x = x} {b = b} f p q = ap (λ (z : A). f z b) p ∙ ap (f x) q
