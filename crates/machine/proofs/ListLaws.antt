-- Laws of sound lists of records, over any kind of record: each record is sound; a record replaced, a record added; rooms lie apart. Assumes nothing.
use Rattle.types.proofs.Prelude.{ℕ, zero, suc, ◌+◌, ◌-◌, ◌≤◌, ◌<◌, ◌≡◌, refl, sym, ap, subst, ◌∙◌, Bool, true, false, List, [], ◌∷◌, arith, add-one, eqb}
use Rattle.types.proofs.Prelude.{length, take, get_or, set, length-set, le-leb, leb-true, eq-eqb, eqb-true, eqb-false, ne_eqb, pick_true, pick_false, both_true}
use Rattle.types.proofs.Prelude.{both_1, both_2, either}
use Rattle.types.specs.Pick.{pick}
use Rattle.machine.specs.Sound.{follow, sound_list}

module _ {A : Type 0} (sound : A → Bool) (start end : A → ℕ) where
  -- records that follow each other are sound
  follow_each : (from n i : ℕ) (xs : List A) (d : A) → i < n → n ≤ length xs → follow sound start end from (take n xs) ≡ true → sound (get_or xs i d) ≡ true
  unfolding follow
  follow_each from n i [] d h k e = absurd (omega arith)
  follow_each from zero i (x ∷ xs) d h k e = absurd (omega arith)
  follow_each from (suc n) zero (x ∷ xs) d h k e = both_1 _ _ (both_2 _ _ e)
  follow_each from (suc n) (suc i) (x ∷ xs) d h k e = follow_each (end x) n i xs d (omega arith) (omega arith) (both_2 _ _ (both_2 _ _ e))

  -- another record in the place of one, from the same start to the same end
  follow_set : (from n i : ℕ) (xs : List A) (d r : A) → sound r ≡ true → start r ≡ start (get_or xs i d) → end r ≡ end (get_or xs i d)
      → i < n → n ≤ length xs → follow sound start end from (take n xs) ≡ true → follow sound start end from (take n (set xs i r)) ≡ true
  unfolding follow
  follow_set from n i [] d r s p q h k e = absurd (omega arith)
  follow_set from zero i (x ∷ xs) d r s p q h k e = absurd (omega arith)
  follow_set from (suc n) zero (x ∷ xs) d r s p q h k e =
      both_true _ _ (ap (λ (a : ℕ). eqb a from) p ∙ both_1 _ _ e)
      (both_true _ _ s (ap (λ (a : ℕ). follow sound start end a (take n xs)) q ∙ both_2 _ _ (both_2 _ _ e)))
  follow_set from (suc n) (suc i) (x ∷ xs) d r s p q h k e =
      both_true _ _ (both_1 _ _ e)
      (both_true _ _ (both_1 _ _ (both_2 _ _ e))
      (follow_set (end x) n i xs d r s p q (omega arith) (omega arith) (both_2 _ _ (both_2 _ _ e))))

  -- one more record, which starts where the last one ends
  follow_add : (from n : ℕ) (xs : List A) (d r : A) → sound r ≡ true → (n ≡ 0 → start r ≡ from) → ((k : ℕ) → n ≡ suc k → start r ≡ end (get_or xs k d))
      → n < length xs → follow sound start end from (take n xs) ≡ true → follow sound start end from (take (suc n) (set xs n r)) ≡ true
  unfolding follow
  follow_add from n [] d r s p q h e = absurd (omega arith)
  follow_add from zero (x ∷ xs) d r s p q h e = both_true _ _ (eq-eqb _ _ (p refl)) (both_true _ _ s refl)
  follow_add from (suc n) (x ∷ xs) d r s p q h e =
      both_true _ _ (both_1 _ _ e)
      (both_true _ _ (both_1 _ _ (both_2 _ _ e))
      (follow_add (end x) n xs d r s (λ z. q 0 (ap suc z)) (λ k z. q (suc k) (ap suc z)) (omega arith) (both_2 _ _ (both_2 _ _ e))))

  -- records that follow each other start at or after the place where the first one does
  follow_from : (from n i : ℕ) (xs : List A) (d : A) → ((r : A) → start r ≤ end r) → i < n → n ≤ length xs → follow sound start end from (take n xs) ≡ true
      → from ≤ start (get_or xs i d)
  unfolding follow
  follow_from from n i [] d o h k e = absurd (omega arith)
  follow_from from zero i (x ∷ xs) d o h k e = absurd (omega arith)
  follow_from from (suc n) zero (x ∷ xs) d o h k e = let q : start x ≡ from = eqb-true _ _ (both_1 _ _ e) in omega arith
  follow_from from (suc n) (suc i) (x ∷ xs) d o h k e =
      let q : start x ≡ from = eqb-true _ _ (both_1 _ _ e) in
      omega (arith, o x, follow_from (end x) n i xs d o (omega arith) (omega arith) (both_2 _ _ (both_2 _ _ e)))

  -- a record ends before any later one starts
  follow_apart : (from n i j : ℕ) (xs : List A) (d : A) → ((r : A) → start r ≤ end r) → i < j → j < n → n ≤ length xs → follow sound start end from (take n xs) ≡ true
      → end (get_or xs i d) ≤ start (get_or xs j d)
  unfolding follow
  follow_apart from n i j [] d o g h k e = absurd (omega arith)
  follow_apart from zero i j (x ∷ xs) d o g h k e = absurd (omega arith)
  follow_apart from (suc n) i zero (x ∷ xs) d o g h k e = absurd (omega arith)
  follow_apart from (suc n) zero (suc j) (x ∷ xs) d o g h k e = follow_from (end x) n j xs d o (omega arith) (omega arith) (both_2 _ _ (both_2 _ _ e))
  follow_apart from (suc n) (suc i) (suc j) (x ∷ xs) d o g h k e = follow_apart (end x) n i j xs d o (omega arith) (omega arith) (omega arith) (both_2 _ _ (both_2 _ _ e))

  -- where the next record starts
  abbrev pub next : A → ℕ → List A → ℕ
  next d n xs = pick (eqb n 0) 0 (end (get_or xs (n - 1) d))

  list_sound : (n : ℕ) (xs : List A) → 8 ≤ length xs → n ≤ 8 → follow sound start end 0 (take n xs) ≡ true → sound_list sound start end n xs ≡ true
  unfolding sound_list
  list_sound n xs h k e = both_true _ _ (le-leb _ _ h) (both_true _ _ (le-leb _ _ k) e)

  -- no record is in use
  pub none_sound : (xs : List A) → 8 ≤ length xs → sound_list sound start end 0 xs ≡ true
  unfolding follow
  none_sound xs h = list_sound 0 xs h (omega arith) refl

  module _ (d : A) (n : ℕ) (xs : List A) (e : sound_list sound start end n xs ≡ true) where
    long : 8 ≤ length xs
    unfolding sound_list
    long = leb-true _ _ (both_1 _ _ e)

    -- at most 8 are in use
    pub few : n ≤ 8
    unfolding sound_list
    few = leb-true _ _ (both_1 _ _ (both_2 _ _ e))

    followed : follow sound start end 0 (take n xs) ≡ true
    unfolding sound_list
    followed = both_2 _ _ (both_2 _ _ e)

    -- every record in use has its place
    pub placed : n ≤ length xs
    placed = omega (arith, long, few)

    -- each record in use is sound
    pub each_sound : (i : ℕ) → i < n → sound (get_or xs i d) ≡ true
    each_sound i h = follow_each 0 n i xs d h placed followed

    -- a record in use is replaced by one from the same start to the same end
    pub set_sound_lem : (i : ℕ) (r : A) → i < n → sound r ≡ true → start r ≡ start (get_or xs i d) → end r ≡ end (get_or xs i d)
        → sound_list sound start end n (set xs i r) ≡ true
    set_sound_lem i r h s p q =
        list_sound n (set xs i r) (omega (arith, length-set xs i r, long)) few
        (follow_set 0 n i xs d r s p q h placed followed)

    -- one more record, which starts where the last one ends
    pub add_sound : (r : A) → n < 8 → sound r ≡ true → start r ≡ next d n xs → sound_list sound start end (n + 1) (set xs n r) ≡ true
    add_sound r h s p =
        list_sound (n + 1) (set xs n r) (omega (arith, length-set xs n r, long)) (omega arith)
        (rw add-one
        (follow_add 0 n xs d r s
        (λ z. p ∙ pick_true _ _ _ (eq-eqb n 0 z))
        (λ k z.
        let j : n - 1 ≡ k = omega arith in
        p ∙ pick_false _ _ _ (ne_eqb n 0 (λ y. omega arith)) ∙ ap (λ (a : ℕ). end (get_or xs a d)) j)
        (omega (arith, long)) followed))

    -- the next record starts inside what every sound record ends in
    pub next_inside : (len : ℕ) → ((r : A) → sound r ≡ true → end r ≤ len) → next d n xs ≤ len
    next_inside len f =
        either (eqb n 0)
        (λ t. subst (λ (a : ℕ). a ≤ len) (sym (pick_true _ _ _ t)) (omega arith))
        (λ t.
        let z : ¬ (n ≡ 0) = eqb-false n 0 t in
        subst (λ (a : ℕ). a ≤ len) (sym (pick_false _ _ _ t)) (f _ (each_sound (n - 1) (omega arith))))

    -- rooms lie apart, in the order of their numbers
    pub rooms_apart_lem : ((r : A) → start r ≤ end r) → (i j : ℕ) → i < j → j < n → end (get_or xs i d) ≤ start (get_or xs j d)
    rooms_apart_lem o i j h g = follow_apart 0 n i j xs d o h g placed followed

    -- every room ends before the next one
    pub ends_before_next : ((r : A) → start r ≤ end r) → (i : ℕ) → i < n → end (get_or xs i d) ≤ next d n xs
    ends_before_next o i h =
        let z : eqb n 0 ≡ false = ne_eqb n 0 (λ y. omega arith) in
        subst (λ (a : ℕ). end (get_or xs i d) ≤ a) (sym (pick_false _ _ _ z))
        (either (eqb i (n - 1))
        (λ t. subst (λ (a : ℕ). end (get_or xs i d) ≤ end (get_or xs a d)) (eqb-true i (n - 1) t) (omega arith))
        (λ t.
        let y : ¬ (i ≡ n - 1) = eqb-false i (n - 1) t in
        omega (arith, o (get_or xs (n - 1) d), rooms_apart_lem o i (n - 1) (omega arith) (omega arith))))
