-- Two results with their cells are the same where their parts are, and only there. Assumes nothing.
use Rattle.types.proofs.Prelude.{◌≡◌, ap, List, ℕ}
use Rattle.types.specs.Done.{Done, done}

module _ {A : Type 0} {r s : A} {cs ds : List ℕ} where
  pub done_as : r ≡ s → cs ≡ ds → done r cs ≡ done s ds
  done_as p q = (λ i. done (p i) (q i))

  pub done_parts : done r cs ≡ done s ds → (r ≡ s) × (cs ≡ ds)
  done_parts e = (ap (λ (o : Done A). o.out) e, ap (λ (o : Done A). o.cells) e)
