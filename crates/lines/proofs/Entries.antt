-- A rule of a table, proved at all of its entries by one test that antt computes, one entry after the other. Assumes nothing.
use Rattle.types.proofs.Prelude.{◌≡◌, Bool, true, false, List, [], ◌∷◌, ℕ, zero, suc, ◌<◌, eqb, length, get_or, replicate, length-replicate}
use native.Mathlib.Nat.{le_of_suc-le-suc, not-suc-le-zero}
use lib.Dec.{T, eqb→eq}

abbrev pub both : Bool → Bool → Bool
both true b = b
both false b = false

both_left : (a b : Bool) → T (both a b) → T a
both_left true b t = tt
both_left false b t = t

both_right : (a b : Bool) → T (both a b) → T b
both_right true b t = t
both_right false b t = absurd t

-- the test f passes at each entry of the list and its place
abbrev pub every : (ℕ → ℕ → Bool) → List ℕ → Bool
every f [] = true
every f (x ∷ xs) = both (f 0 x) (every (λ (k : ℕ). f (suc k)) xs)

pub at : (f : ℕ → ℕ → Bool) (xs : List ℕ) → T (every f xs) → (k : ℕ) → k < length xs → T (f k (get_or xs k 0))
at f [] t k h = absurd (not-suc-le-zero h)
at f (x ∷ xs) t zero h = both_left (f 0 x) (every (λ (k : ℕ). f (suc k)) xs) t
at f (x ∷ xs) t (suc k) h = at (λ (k : ℕ). f (suc k)) xs (both_right (f 0 x) (every (λ (k : ℕ). f (suc k)) xs) t) k (le_of_suc-le-suc h)

-- a function that gives back each of the first m numbers
unfoldable pub right : (ℕ → ℕ) → ℕ → ℕ → Bool
right f k x = eqb (f k) k

pub comes_back : (f : ℕ → ℕ) (m : ℕ) → T (every (right f) (replicate m 0)) → (k : ℕ) → k < m → f k ≡ k
unfolding right
comes_back f m t k h = eqb→eq _ _ (at (right f) (replicate m 0) t k (rw length-replicate h))
