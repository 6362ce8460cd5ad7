-- One law for each way out of a function that decides: its premises are what the code knows there. Assumes nothing.
use Rattle.types.proofs.Prelude.{◌≡◌, sym, ◌∙◌, Bool, true, false, ℕ, ◌≤◌, ◌<◌, leb, eqb, le-leb, lt-leb, eq-eqb, ne_eqb, pick_true}
use Rattle.types.proofs.{Prelude.pick_false, Prelude.known_test, Dones.done_as}
use Rattle.types.specs.Pick.{pick}

module _ {A : Type 0} {x : A} (a b : A) where
  -- a call's result was tested
  pub taken_by : {r t : Bool} → r ≡ t → r ≡ true → x ≡ a → x ≡ pick t a b
  taken_by p q e = e ∙ sym (pick_true _ _ _ (known_test p q))

  pub left_by : {r t : Bool} → r ≡ t → r ≡ false → x ≡ b → x ≡ pick t a b
  left_by p q e = e ∙ sym (pick_false _ _ _ (known_test p q))

  -- two numbers were compared
  pub taken_le : (n m : ℕ) → n ≤ m → x ≡ a → x ≡ pick (leb n m) a b
  taken_le n m h e = e ∙ sym (pick_true _ _ _ (le-leb _ _ h))

  pub left_le : (n m : ℕ) → m < n → x ≡ b → x ≡ pick (leb n m) a b
  left_le n m h e = e ∙ sym (pick_false _ _ _ (lt-leb _ _ h))

  pub taken_eq : (n m : ℕ) → n ≡ m → x ≡ a → x ≡ pick (eqb n m) a b
  taken_eq n m h e = e ∙ sym (pick_true _ _ _ (eq-eqb _ _ h))

  pub left_eq : (n m : ℕ) → (n ≡ m → ⊥) → x ≡ b → x ≡ pick (eqb n m) a b
  left_eq n m h e = e ∙ sym (pick_false _ _ _ (ne_eqb _ _ h))

pub ruleset exits = (taken_by, left_by, taken_le, left_le, taken_eq, left_eq, done_as)
