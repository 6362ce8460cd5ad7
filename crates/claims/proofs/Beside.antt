-- A list with one entry for each record in use, as records change and are added. Assumes nothing.
use Rattle.types.proofs.Prelude.{refl, sym, ap, subst, ◌∙◌, arith, length-set, length-append, leb-true, eqb-true, eqb-false, both_1, either}
use Rattle.std.specs.Prelude.{ℕ, ◌+◌, ◌<◌, ◌≡◌, Bool, true, List, [], ◌∷◌, ◌++◌, eqb, length, get_or, set}
use lib.{ListN.get_or-append, Seq.set-get_or, Seq.get_or-set_same, Seq.get_or-set_other, Seq.get_or-append_seam}
use Rattle.machine.specs.Sound.{sound_list}
use Rattle.machine.proofs.ListLaws.{placed}

module _ {A B : Type 0} (f : A → B) (d : A) (e : B) where
  -- each record's entry, and no more entries than records in use
  pub record Beside (n : ℕ) (rs : List A) (xs : List B) : Type 0 where
    pub each : (i : ℕ) → i < n → get_or xs i e ≡ f (get_or rs i d)
    pub many : length xs ≡ n

  -- no record is in use
  pub beside_none : (rs : List A) → Beside 0 rs []
  beside_none rs = record { each = λ i h. absurd (omega arith); many = refl }

  -- at the place of one record, and at any other
  at_place : (i j : ℕ) (P : ℕ → Type 0) → (j ≡ i → P i) → ((j ≡ i → ⊥) → P j) → P j
  at_place i j P p q = either (eqb j i) (λ t. let z = eqb-true j i t in subst P (sym z) (p z)) (λ t. q (eqb-false j i t))

  module _ (sound : A → Bool) (start end : A → ℕ) (n : ℕ) (rs : List A) (s : sound_list sound start end n rs ≡ true) (xs : List B) (w : Beside n rs xs) (r : A) where
    -- a record is replaced, and its entry
    pub beside_set : (i : ℕ) (y : B) → (i < n → y ≡ f r) → Beside n (set rs i r) (set xs i y)
    beside_set i y q =
        record {
          each = λ j g.
              at_place i j (λ (x : ℕ). get_or (set xs i y) x e ≡ f (get_or (set rs i r) x d))
              (λ z.
              get_or-set_same xs i y e (omega (arith, w.many)) ∙ q (omega arith)
              ∙ sym (ap f (get_or-set_same rs i r d (omega (arith, placed sound start end d n rs s)))))
              (λ z. get_or-set_other xs i j y e z ∙ w.each j g ∙ sym (ap f (get_or-set_other rs i j r d z)));
          many = length-set xs i y ∙ w.many;
        }

    -- by one with the same entry
    pub beside_same : (i : ℕ) → f r ≡ f (get_or rs i d) → Beside n (set rs i r) xs
    beside_same i q = subst (Beside n (set rs i r)) (set-get_or xs i e) (beside_set i (get_or xs i e) (λ h. w.each i h ∙ sym q))

    -- one more record, and its entry
    pub beside_add : (y : B) → n < 8 → y ≡ f r → Beside (n + 1) (set rs n r) (xs ++ (y ∷ []))
    unfolding sound_list
    beside_add y l q =
        record {
          each = λ j g.
              at_place n j (λ (x : ℕ). get_or (xs ++ (y ∷ [])) x e ≡ f (get_or (set rs n r) x d))
              (λ z.
              ap (λ (x : ℕ). get_or (xs ++ (y ∷ [])) x e) (sym w.many) ∙ get_or-append_seam xs y [] e ∙ q
              ∙ sym (ap f (get_or-set_same rs n r d (omega (arith, leb-true 8 (length rs) (both_1 _ _ s))))))
              (λ z.
              let h : j < n = omega arith in
              get_or-append xs (y ∷ []) e j (omega (arith, w.many)) ∙ w.each j h ∙ sym (ap f (get_or-set_other rs n j r d z)));
          many = length-append xs (y ∷ []) ∙ ap (λ (x : ℕ). x + 1) w.many;
        }
