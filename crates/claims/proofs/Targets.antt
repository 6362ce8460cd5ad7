-- The instance that an operation may change: targets of two kinds differ, and of one kind by their numbers. Assumes nothing.
use Rattle.types.proofs.Prelude.{sym, ap, subst, eqb-true, eqb-false, either}
use Rattle.std.specs.Prelude.{ℕ, ◌≡◌, false, eqb}
use Rattle.machine.specs.Frame.{Target, None, InMemory, InTable, InSegment, NewItems}

-- what kind of instance an operation's target is
unfoldable pub kind_of : Target → ℕ
kind_of None = 0
kind_of (InMemory i) = 1
kind_of (InTable i) = 2
kind_of (InSegment i) = 3
kind_of NewItems = 4

-- and its number
unfoldable pub number_in : Target → ℕ
number_in None = 0
number_in (InMemory i) = i
number_in (InTable i) = i
number_in (InSegment i) = i
number_in NewItems = 0

-- targets of two kinds differ
pub unlike : {t u : Target} → eqb (kind_of t) (kind_of u) ≡ false → t ≡ u → ⊥
unlike e z = eqb-false _ _ e (ap kind_of z)

-- one place, or any other
pub at_place : (k i : ℕ) (P : ℕ → Type 0) → (i ≡ k → P k) → ((i ≡ k → ⊥) → P i) → P i
at_place k i P p q = either (eqb i k) (λ t. let z = eqb-true i k t in subst P (sym z) (p z)) (λ t. q (eqb-false i k t))
