-- Laws of span operations: what the grant of a span shows of its bounds, and what its outcome is. Assumes nothing.
use Rattle.std.specs.Prelude.{Ok, Result}
use Rattle.types.proofs.Prelude.{◌≡◌, sym, ◌∙◌, Bool, true, ℕ, ◌+◌, ◌≤◌, arith, both_1, both_2, known_test}
use Rattle.types.proofs.{Spans.within_is, Grants.granted_span}
use Rattle.types.specs.{Pick.both, Span.inside, stages.Grant.grant_span, declared.answer.Refusal.Refusal}
use Rattle.types.specs.{declared.fuel.Fuel.Fuel}
use Rattle.table.specs.{stages.Facts.Within, stages.Facts.Places, stages.Facts.Goes, declared.table.Table.Table}
use Rattle.table.specs.declared.element.ElementSegment.{ElementSegment}

-- the bounds that a grant shows, in a table whose size lies in the buffer
module _ (t : Table) (len i n : ℕ) (w : Within t len) where
  pub end_within : inside i n t.size ≡ true → t.start + (i + n) ≤ len
  end_within e = omega (arith, within_is i n t.size e)

  pub goes_within : {r : Bool} {s : Result Fuel Refusal} (f : Fuel) (number price : ℕ)
      → r ≡ inside i n t.size → s ≡ grant_span f r number price → Goes s (t.start + (i + n)) len
  goes_within f number price p q g e = end_within (known_test p (granted_span f _ number price g (sym q ∙ e)))

pub goes_both : (d t : Table) (len i j n : ℕ) {r : Bool} {s : Result Fuel Refusal} (f : Fuel) (number price : ℕ)
    → Within d len → Within t len → r ≡ both (inside i n d.size) (inside j n t.size) → s ≡ grant_span f r number price
    → Goes s (d.start + (i + n)) len × Goes s (t.start + (j + n)) len
goes_both d t len i j n {r} {s} f number price v w p q = ((λ g e. end_within d len i n v (both_1 _ _ (shown g e))), (λ g e. end_within t len j n w (both_2 _ _ (shown g e))))
  where
    shown : (g : Fuel) → s ≡ Ok g → both (inside i n d.size) (inside j n t.size) ≡ true
    shown g e = known_test p (granted_span f _ number price g (sym q ∙ e))

-- both spans of an init that goes on
pub ends_within : (t : Table) (s : ElementSegment) (len count i j n : ℕ) {r : Bool}
    → Within t len → Places s count → r ≡ both (inside i n t.size) (inside j n s.size) → r ≡ true
    → (t.start + (i + n) ≤ len) × (s.start + (j + n) ≤ count)
ends_within t s len count i j n v w p q =
    let e : both (inside i n t.size) (inside j n s.size) ≡ true = known_test p q in
    (end_within t len i n v (both_1 _ _ e), omega (arith, within_is j n s.size (both_2 _ _ e)))
