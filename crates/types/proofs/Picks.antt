-- Laws of `pick` and `both`, and the sets of laws that close the exits of a function that decides. Assumes nothing.
use mathlib.{Core.Bool.Bool, Core.Bool.true, Core.Bool.false, Core.Bool.false≢true, Core.Path.◌≡◌, Core.Path.refl, Core.Path.sym, Core.Path.ap, Core.Path.◌∙◌}
use borrow.Author.Tests.{lt-ltb, le-ltb, le-leb, lt-leb, eq-eqb, ne_eqb, not-true, not-false}
use Rattle.types.specs.Pick.{pick, both}

pub pick_true : {A : Type 0} (t : Bool) (a b : A) → t ≡ true → pick t a b ≡ a
unfolding pick
pick_true t a b e = ap (λ (u : Bool). pick u a b) e

pub pick_false : {A : Type 0} (t : Bool) (a b : A) → t ≡ false → pick t a b ≡ b
unfolding pick
pick_false t a b e = ap (λ (u : Bool). pick u a b) e

pub pick_same : {A : Type 0} (t : Bool) (a : A) → pick t a a ≡ a
unfolding pick
pick_same true a = refl
pick_same false a = refl

-- a function of a pick is a pick of its values
pub pick_ap : {A B : Type 0} (f : A → B) (t : Bool) (a b : A) → f (pick t a b) ≡ pick t (f a) (f b)
unfolding pick
pick_ap f true a b = refl
pick_ap f false a b = refl

pub both_true : (a b : Bool) → a ≡ true → b ≡ true → both a b ≡ true
unfolding both
both_true a b p q = ap (λ (x : Bool). both x b) p ∙ q

pub both_left : (a b : Bool) → a ≡ false → both a b ≡ false
unfolding both
both_left a b p = ap (λ (x : Bool). both x b) p

pub both_right : (a b : Bool) → b ≡ false → both a b ≡ false
unfolding both
both_right true b p = p
both_right false b p = refl

-- where the first test holds the second decides
pub both_then : (a b : Bool) → a ≡ true → both a b ≡ b
unfolding both
both_then a b p = ap (λ (x : Bool). both x b) p

-- where the second test holds the first decides
pub both_last : (a b : Bool) → b ≡ true → both a b ≡ a
unfolding both
both_last true b p = p
both_last false b p = refl

pub both_1 : (a b : Bool) → both a b ≡ true → a ≡ true
unfolding both
both_1 true b p = refl
both_1 false b p = p

pub both_2 : (a b : Bool) → both a b ≡ true → b ≡ true
unfolding both
both_2 true b p = p
both_2 false b p = absurd (false≢true p)

-- either way of a test, with its equation
pub either : (t : Bool) {C : Type 0} → (t ≡ true → C) → (t ≡ false → C) → C
either true f g = f refl
either false f g = g refl

-- what a call's result was tested to be, said of what its contract says it is
pub known_test : {r s v : Bool} → r ≡ s → r ≡ v → s ≡ v
known_test p q = sym p ∙ q

pub ruleset cases = (pick_true, pick_false, both_true, both_left, both_right, both_then, known_test, lt-ltb, le-ltb, le-leb, lt-leb, eq-eqb, ne_eqb, not-true, not-false)
