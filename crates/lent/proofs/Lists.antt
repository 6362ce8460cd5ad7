-- Laws of lists of records whose first 8 places are read and one of which is stored to. Assumes nothing.
use Rattle.types.proofs.Prelude.{ℕ, zero, suc, ◌≤◌, ◌<◌, ◌≡◌, refl, sym, ap, ◌∙◌, Bool, false, List, [], ◌∷◌, ◌++◌, arith, leb, length, take, drop, set, length-take}
use Rattle.types.proofs.Prelude.{leb-true, le-leb, lt-leb, both_left, both_then, either}
use Rattle.std.proofs.lemmas.List.{take-append-drop, take-take}
use Rattle.types.specs.Pick.{both}
use Rattle.machine.specs.Sound.{follow, sound_list}

module _ {A : Type 0} where
  -- a record stored in front leaves all further places
  pub set_front : (n i : ℕ) (l : List A) (r : A) → i < n → set l i r ≡ set (take n l) i r ++ drop n l
  set_front zero i l r h = absurd (omega arith)
  set_front (suc n) i [] r h = refl
  set_front (suc n) zero (x ∷ l) r h = ap (λ (k : List A). r ∷ k) (sym (take-append-drop n l))
  set_front (suc n) (suc i) (x ∷ l) r h = ap (λ (k : List A). x ∷ k) (set_front n i l r (omega arith))

  -- a list is sound where its first 8 places are
  module _ (sound : A → Bool) (start end : A → ℕ) (l : List A) (n : ℕ) where
    pub front_sound : 8 ≤ length l → sound_list sound start end n (take 8 l) ≡ sound_list sound start end n l
    unfolding sound_list
    front_sound h =
        let k = length-take 8 l in
        both_then _ _ (le-leb 8 (length (take 8 l)) (omega (arith, h, k)))
        ∙ either (leb n 8)
        (λ t. ap (λ (z : List A). both (leb n 8) (follow sound start end 0 z)) (take-take n 8 l (leb-true n 8 t)))
        (λ t. both_left _ _ t ∙ sym (both_left _ _ t))
        ∙ sym (both_then _ _ (le-leb 8 (length l) h))

    -- and a shorter one is not
    pub short_unsound : length l < 8 → sound_list sound start end n l ≡ false
    unfolding sound_list
    short_unsound h = both_left _ _ (lt-leb 8 (length l) h)
