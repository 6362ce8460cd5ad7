-- A law of an operation that is done again and again in place. Assumes nothing.
use Rattle.types.proofs.Prelude.{ℕ, suc, refl, ◌+◌, ◌-◌, ◌<◌, ◌≡◌, ap, ◌∙◌, Bool, arith}
use Rattle.machine.specs.declared.operation.Operation.{Operation}
use Rattle.timing.specs.InPlace.{Rowing, again}

-- one round of those that are left, then the rest
pub round : (t : Bool) (n i : ℕ) (h k : Rowing) (op : Operation) → i < n → k ≡ again t 1 h op → again t (n - (i + 1)) k op ≡ again t (n - i) h op
unfolding again
round t n i h k op p q =
    let e : n - i ≡ suc (n - (i + 1)) = omega arith in
    ap (λ (x : Rowing). again t (n - (i + 1)) x op) q ∙ rw e refl
