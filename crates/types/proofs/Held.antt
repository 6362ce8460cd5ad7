-- Laws of limits that hold a size: the ways out of the one test. Assumes nothing.
use Rattle.types.proofs.Prelude.{ℕ, ◌≤◌, ◌<◌, ◌≡◌, sym, ◌∙◌, Bool, true, false, arith, leb, le-leb, lt-leb, leb-true, pick_true, pick_false, both_true}
use Rattle.types.proofs.Prelude.{both_left, both_right, both_then, both_last}
use Rattle.types.specs.{Pick.both, Limits.admits_of, Limits.valid_maximum, Limits.valid_limits, stages.Held.held, declared.limits.Limits.Limits}

module _ (l : Limits) (k n : ℕ) where
  -- the size is below the minimum
  pub held_below : n < l.minimum → false ≡ held l k n
  held_below h = sym (both_right _ _ (both_left _ _ (lt-leb _ _ h)))

  -- the size is past k
  pub held_past : leb n k ≡ false → false ≡ held l k n
  held_past h = sym (both_right _ _ (both_right _ _ (both_left _ _ h)))

  -- the size is above the maximum
  pub held_above : l.bounded ≡ true → l.maximum < n → false ≡ held l k n
  unfolding admits_of
  held_above b h = sym (both_right _ _ (both_right _ _ (both_right _ _ (pick_true _ _ _ b ∙ lt-leb _ _ h))))

  module _ (least : l.minimum ≤ n) (most : leb n k ≡ true) where
    minimum_within : leb l.minimum k ≡ true
    minimum_within =
        let h : l.minimum ≤ k = omega (arith, least, leb-true n k most) in
        le-leb _ _ h

    -- there is no maximum
    pub held_free : l.bounded ≡ false → true ≡ held l k n
    unfolding admits_of valid_limits
    held_free b =
        sym (both_true _ _
        (both_true _ _ minimum_within (pick_false _ _ _ b))
        (both_true _ _ (le-leb _ _ least) (both_true _ _ most (pick_false _ _ _ b))))

    -- the size is within the maximum: whether that is within k decides
    pub held_by : {r : Bool} → l.bounded ≡ true → n ≤ l.maximum → r ≡ leb l.maximum k → r ≡ held l k n
    unfolding admits_of valid_limits valid_maximum
    held_by b h e =
        let ordered : l.minimum ≤ l.maximum = omega (arith, least, h) in
        let fits : both (leb l.minimum n) (both (leb n k) (admits_of l n)) ≡ true =
        both_true _ _ (le-leb _ _ least) (both_true _ _ most (pick_true _ _ _ b ∙ le-leb _ _ h)) in
        e ∙ sym (both_last _ _ fits ∙ both_then _ _ minimum_within ∙ pick_true _ _ _ b ∙ both_last _ _ (le-leb _ _ ordered))
