-- Laws of record lists whose rooms follow each other, over any kind of record. Assumes nothing.
use Rattle.types.proofs.Prelude.{ℕ, zero, suc, ◌+◌, ◌≤◌, ◌<◌, ◌≡◌, refl, sym, ap, ◌∙◌, Bool, true, false, List, [], ◌∷◌, arith, eqb, length, take, drop, get_or}
use Rattle.types.proofs.Prelude.{le-leb, lt-leb, eq-eqb, ne_eqb, both_left, both_right, both_then}
use lib.ListN.{get_or-eq_default}
use Rattle.types.specs.Pick.{both}
use Rattle.machine.specs.Sound.{follow, sound_list}

-- past its places a list has nothing
pub past : {A : Type 0} (l : List A) (d : A) (i : ℕ) → length l ≡ 8 → 8 ≤ i → get_or l i d ≡ d
past l d i e h = get_or-eq_default l d (omega arith)

-- what is left of a list from a place in use on
next_in_use : {A : Type 0} (d : A) (n i : ℕ) (xs : List A) → i < n → n ≤ length xs → drop i (take n xs) ≡ get_or xs i d ∷ drop (suc i) (take n xs)
next_in_use d n i [] h k = absurd (omega arith)
next_in_use d zero i (x ∷ xs) h k = absurd (omega arith)
next_in_use d (suc n) zero (x ∷ xs) h k = refl
next_in_use d (suc n) (suc i) (x ∷ xs) h k = next_in_use d n i xs (omega arith) (omega arith)

none_in_use : {A : Type 0} (n i : ℕ) (xs : List A) → n ≤ i → drop i (take n xs) ≡ []
none_in_use zero zero xs h = refl
none_in_use zero (suc i) xs h = refl
none_in_use (suc n) zero xs h = absurd (omega arith)
none_in_use (suc n) (suc i) [] h = refl
none_in_use (suc n) (suc i) (x ∷ xs) h = none_in_use n i xs (omega arith)

module _ {A : Type 0} (sound : A → Bool) (start end : A → ℕ) (d : A) (n : ℕ) (xs : List A) where
  -- what a walk along the list knows: the records before a place follow each other up to `from`
  abbrev pub Left : ℕ → ℕ → Type 0
  Left from i = follow sound start end 0 (take n xs) ≡ follow sound start end from (drop i (take n xs))

  module _ (long : length xs ≡ 8) where
    decides : n ≤ 8 → sound_list sound start end n xs ≡ follow sound start end 0 (take n xs)
    unfolding sound_list
    decides h = both_then _ _ (le-leb 8 (length xs) (omega arith)) ∙ both_then _ _ (le-leb n 8 h)

    module _ (from i : ℕ) (few : n ≤ 8) (left : Left from i) where
      here : i < n → sound_list sound start end n xs ≡ both (eqb (start (get_or xs i d)) from) (both (sound (get_or xs i d)) (follow sound start end (end (get_or xs i d)) (drop (suc i) (take n xs))))
      unfolding follow
      here h = decides few ∙ left ∙ ap (follow sound start end from) (next_in_use d n i xs h (omega arith))

      pub starts_elsewhere : i < n → (start (get_or xs i d) ≡ from → ⊥) → false ≡ sound_list sound start end n xs
      starts_elsewhere h e = sym (here h ∙ both_left _ _ (ne_eqb _ _ e))

      pub unsound : i < n → sound (get_or xs i d) ≡ false → false ≡ sound_list sound start end n xs
      unsound h e = sym (here h ∙ both_right _ _ (both_left _ _ e))

      pub goes_on : i < n → start (get_or xs i d) ≡ from → sound (get_or xs i d) ≡ true → Left (end (get_or xs i d)) (i + 1)
      goes_on h e s =
          let k : suc i ≡ i + 1 = omega arith in
          sym (decides few) ∙ here h ∙ both_then _ _ (eq-eqb _ _ e) ∙ both_then _ _ s
          ∙ ap (λ (j : ℕ). follow sound start end (end (get_or xs i d)) (drop j (take n xs))) k

      pub ends : n ≤ i → true ≡ sound_list sound start end n xs
      unfolding follow
      ends h = sym (decides few ∙ left ∙ ap (follow sound start end from) (none_in_use n i xs h))

  pub too_many : 8 < n → false ≡ sound_list sound start end n xs
  unfolding sound_list
  too_many h = sym (both_right _ _ (both_left _ _ (lt-leb n 8 h)))
