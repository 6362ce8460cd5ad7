-- How a growth ends, of a memory or of a table: before the limiter's question or at it, after it with notice, or grown. Assumes nothing.
use Rattle.types.proofs.Prelude.{refl, sym, ap, subst, ◌∙◌, false≢true, arith, lt-ltb, eqb-true, eqb-false, pick_true, pick_false, both_true, both_left}
use Rattle.types.proofs.Prelude.{both_right, both_then, either}
use Rattle.std.specs.Prelude.{ℕ, ◌≡◌, Bool, true, false, eqb, ltb, Ok, Err}
use Rattle.types.specs.Names.{unless, both, refusal, refuse, short, paid, noticed, Answer, Refusal, Fuel, Limiter}
use Rattle.types.specs.{Pick.pick, Answer.number_of, Limiter.says_of, Limiter.moved, Limiter.heard_of, Limiter.no_limiter}
use Rattle.machine.specs.Names.{Buffers, sound_over, well_formed, metered, Stepped, step, Machine, Operation}
use Rattle.machine.specs.{Sound.sound_machine, Sound.sound_memories, Sound.sound_tables, Sound.sound_segments, Outcome.keeps, Outcome.changed}
use Rattle.machine.specs.{Outcome.settled, Step.Performed, Step.on_none, Step.perform, Step.after}
use Rattle.claims.specs.{Answers.accepted, Metered.metering, Metered.price_of, Metered.affords, Metered.paid_refusal, Occasions.granted}
use Rattle.claims.specs.{Occasions.occasion, Occasions.question, Effects.effects, Effects.accepted_step, Script.heard}
use Rattle.claims.proofs.Heard.{onward, no_question, heard_no, heard_told, moved_once, moved_twice}
use Rattle.claims.proofs.Exit.{stays, Exit, accepts}
use Rattle.claims.proofs.Exiting.{branch, Named, named, named_7, heard_named, grants_no, grants_error, grants_yes, short_not, affords_all}
use Rattle.claims.proofs.Exiting.{step_is, number, quiet, stays_number, paid_is, unpaid, refused_with}

-- no limiter grants all, and hears of a refusal
none_says : says_of no_limiter ≡ 0
unfolding says_of no_limiter
none_says = refl

none_hears : (k a : ℕ) → number_of (noticed (moved no_limiter) k a) ≡ k
unfolding says_of moved no_limiter heard_of number_of pick
none_hears k a = refl

-- a soundness test does not see the limiter
limiter_sound : (m : Machine) (b : Buffers) (l : Limiter) → sound_over m b ≡ true → sound_over (metered m m.fuel l) b ≡ true
unfolding sound_machine sound_memories sound_tables sound_segments
limiter_sound m b l e = e

-- a value has the number 0
pub value_number : (a : Answer) → accepted a ≡ true → number_of a ≡ 0
unfolding accepted number_of
value_number (Ok v) e = refl
value_number (Err x) e = absurd (false≢true e)

-- the number of a refusal of which the limiter is told: its own, or 4
heard_number : (said : ℕ) (x : Refusal) (P : ℕ → Type 0) → P 4 → P x.number → P (heard_of said x).number
unfolding heard_of
heard_number said x P p q = branch (λ (y : Refusal). P y.number) _ _ _ (λ t. p) (λ t. q)

module _ (r : ℕ) (m : Machine) (b : Buffers) (op : Operation) where
  -- one of which the limiter was told paid where it is 8 without a limiter
  told_paid : (said k a : ℕ) → number r m b op ≡ (heard_of said (refusal k a)).number → ltb 0 (metering r m op).more ≡ true → granted m ≡ true → eqb k 4 ≡ false
      → quiet r m b op ≡ k → paid_refusal r m b op ≡ eqb k 8
  told_paid said k a s g y d q =
      heard_number said (refusal k a) (λ (j : ℕ). number r m b op ≡ j → paid_refusal r m b op ≡ eqb k 8)
      (λ s. paid_is r m b op 4 s ∙ both_then _ _ g ∙ pick_false _ _ _ refl ∙ both_then _ _ refl ∙ both_then _ _ y ∙ ap (λ (j : ℕ). eqb j 8) q)
      (λ s.
      paid_is r m b op k s ∙ both_then _ _ g
      ∙ either (eqb k 8)
      (λ p. pick_true _ _ _ p ∙ sym p)
      (λ p. pick_false _ _ _ p ∙ both_left _ _ d ∙ sym p))
      s

  module _ (used : Bool) (n : ℕ) (admits : Bool) where
    -- how a growth by n ends, of one that is in use or not; where the limiter was told, the number without a limiter shows whether it paid
    pub data Grew : Type 0 where
      before : (k : ℕ) (l : Limiter) → l ≡ onward r m b op → Named (refusal k 0) → eqb k 8 ≡ false → eqb k 4 ≡ false → occasion r m b op ≡ false
          → step r m b op ≡ stays m b (refusal k 0) m.fuel l → Grew
      erred : heard r m b op ≡ 1 → granted m ≡ false → occasion r m b op ≡ false
          → step r m b op ≡ stays m b (refusal 4 0) m.fuel (moved m.limiter) → Grew
      told : (k a : ℕ) → heard r m b op ≡ 2 → used ≡ true → ltb 0 n ≡ true → granted m ≡ true → occasion r m b op ≡ false → Named (refusal k a) → eqb k 4 ≡ false
          → eqb k 8 ≡ both admits (affords m (price_of r m op)) → quiet r m b op ≡ k
          → step r m b op
          ≡ stays m b (heard_of (says_of (moved m.limiter)) (refusal k a)) (pick (eqb k 8) (paid m.fuel (price_of r m op)) m.fuel) (moved (moved m.limiter))
          → Grew
      grown : occasion r m b op ≡ true → accepted (effects r m b op).out.answer ≡ true → step r m b op ≡ accepted_step r m b op → Grew

    -- each way is an exit
    pub grew_exit : (metering r m op).more ≡ n → Grew → Exit r m b op (occasion r m b op)
    grew_exit g (before k l t h p q o s) = refused_with h o s (sym (pick_false _ _ _ (unpaid r m b op k (stays_number r m b op s) p q))) (λ n. t)
    grew_exit g (erred h y o s) =
        refused_with (named 4 refl refl) o s
        (sym (pick_false _ _ _ (paid_is r m b op 4 (stays_number r m b op s) ∙ both_right _ _ (pick_false _ _ _ refl ∙ both_right _ _ (both_left _ _ y)))))
        (λ n. moved_once r m b op h)
    grew_exit g (told k a h u z y o x d p q s) =
        refused_with (heard_named _ _ x) o s
        (ap (λ (t : Bool). pick t (paid m.fuel (price_of r m op)) m.fuel) (sym (told_paid _ k a (stays_number r m b op s) (ap (ltb 0) g ∙ z) y d q)))
        (λ n. moved_twice r m b op h)
    grew_exit g (grown o v s) = accepts o v s

    -- the checks of one in use, at a price and with any limiter: where it is refused the record is kept, by 0 it stays, else all is done
    module _ {X : Type 0} (out : X → Performed) (kept : Refusal → Fuel → Limiter → X) (none all : Limiter → X) (kind may fits : Bool) where
      abbrev granting : ℕ → Limiter → X
      granting p l =
          unless admits (kept (heard_of (says_of (moved l)) (refusal 6 0)) m.fuel (moved (moved l)))
          (pick (short m.fuel p) (kept (heard_of (says_of (moved l)) (refusal 7 p)) m.fuel (moved (moved l)))
          (unless fits (kept (heard_of (says_of (moved l)) (refusal 8 0)) (paid m.fuel p) (moved (moved l))) (all l)))

      abbrev chain : ℕ → Limiter → X
      chain p l =
          unless kind (kept (refusal 14 0) m.fuel l)
          (pick (eqb n 0) (none l)
          (unless may (kept (refusal 6 0) m.fuel l)
          (pick (eqb (says_of l) 1) (kept (refusal 6 0) m.fuel (moved l))
          (pick (eqb (says_of l) 2) (kept (refusal 4 0) m.fuel (moved l)) (granting p l)))))

      -- what is to be shown of an operation that has these checks
      pub record Checks (p : ℕ) : Type 0 where
        pub sound : sound_over m b ≡ true
        pub formed : well_formed op ≡ true
        pub known : used ≡ true → (l : Limiter) → perform r (metered m m.fuel l) b op ≡ out (chain p l)
        pub unknown : used ≡ false → perform r m b op ≡ on_none (keeps m (refuse 16 0)) b
        pub stop : (l : Limiter) (x : Refusal) (f : Fuel) (l' : Limiter) → after (metered m m.fuel l) (out (kept x f l')) ≡ stays m b x f l'
        pub when : occasion r m b op
            ≡ both used (both kind (pick (eqb n 0) true (both may (both (granted m) (both admits (both (affords m (price_of r m op)) fits))))))
        pub asks : question r m b op ≡ both used (both kind (pick (eqb n 0) false may))
        pub value : accepted (effects r m b op).out.answer ≡ true
        pub by_none : used ≡ true → n ≡ 0 → question r m b op ≡ false → after m (out (none m.limiter)) ≡ accepted_step r m b op
        pub by_some : used ≡ true → ltb 0 n ≡ true → question r m b op ≡ true → after m (out (all m.limiter)) ≡ accepted_step r m b op

      module _ (c : Checks (price_of r m op)) (u : used ≡ true) where
        abbrev To : X → Type 0
        To x = step r m b op ≡ after m (out x) → Grew

        -- it comes to these checks, with any limiter
        comes_to : (l : Limiter) → step r (metered m m.fuel l) b op ≡ after (metered m m.fuel l) (out (chain (price_of r m op) l))
        comes_to l = step_is r (metered m m.fuel l) b op (limiter_sound m b l c.sound) c.formed ∙ ap (after (metered m m.fuel l)) (c.known u l)

        -- a refusal before the limiter grants it
        early : (k : ℕ) (l : Limiter) → l ≡ onward r m b op → Named (refusal k 0) → eqb k 8 ≡ false → eqb k 4 ≡ false → occasion r m b op ≡ false
            → To (kept (refusal k 0) m.fuel l)
        early k l t h p q o s = before k l t h p q o (s ∙ c.stop m.limiter _ _ _)

        -- before its question
        unasked : both kind (pick (eqb n 0) false may) ≡ false → m.limiter ≡ onward r m b op
        unasked q = no_question r m b op (c.asks ∙ both_right _ _ q)

        module _ (k : kind ≡ true) (z : eqb n 0 ≡ false) (y : may ≡ true) where
          -- by more than 0
          some : ltb 0 n ≡ true
          some =
              let d : n ≡ 0 → ⊥ = eqb-false n 0 z in
              lt-ltb 0 n (omega arith)

          -- it comes to the limiter's question
          asking : question r m b op ≡ true
          asking = c.asks ∙ both_true _ _ u (both_true _ _ k (pick_false _ _ _ z ∙ y))

          -- the occasion from the limiter's question on
          after_question : occasion r m b op ≡ both (granted m) (both admits (both (affords m (price_of r m op)) fits))
          after_question = c.when ∙ both_then _ _ u ∙ both_then _ _ k ∙ pick_false _ _ _ z ∙ both_then _ _ y

          -- a refusal of which the limiter is told, with the same checks where there is none
          notice : (j a : ℕ) (f : Fuel) → granted m ≡ true → both admits (both (affords m (price_of r m op)) fits) ≡ false → Named (refusal j a)
              → eqb j 4 ≡ false → eqb j 8 ≡ both admits (affords m (price_of r m op)) → f ≡ pick (eqb j 8) (paid m.fuel (price_of r m op)) m.fuel
              → ((l : Limiter) → granting (price_of r m op) l ≡ kept (heard_of (says_of (moved l)) (refusal j a)) f (moved (moved l)))
              → To (kept (heard_of (says_of (moved m.limiter)) (refusal j a)) f (moved (moved m.limiter)))
          unfolding number_of accepted
          notice j a f g o x d p e q s =
              let t = s ∙ c.stop m.limiter _ _ _ in
              let h = heard_told r m b op c.sound c.formed asking g (ap (λ (s : Stepped). accepted s.answer) t) in
              told j a h u some g (after_question ∙ both_right _ _ o) x d p
              (ap (λ (s : Stepped). number_of s.answer)
              (comes_to no_limiter
              ∙ ap (λ (x : X). after (metered m m.fuel no_limiter) (out x))
              (pick_true _ _ _ k ∙ pick_false _ _ _ z ∙ pick_true _ _ _ y ∙ pick_false _ _ _ (ap (λ (t : ℕ). eqb t 1) none_says)
              ∙ pick_false _ _ _ (ap (λ (t : ℕ). eqb t 2) none_says) ∙ q no_limiter)
              ∙ c.stop no_limiter _ _ _)
              ∙ none_hears j a)
              (t ∙ ap (λ (f : Fuel). stays m b (heard_of (says_of (moved m.limiter)) (refusal j a)) f (moved (moved m.limiter))) e)

          -- granted: 6, 7 and 8 with notice, else all is done
          granted_grew : granted m ≡ true → To (granting (price_of r m op) m.limiter)
          granted_grew g =
              branch To admits _ _
              (λ a.
              branch To (short m.fuel (price_of r m op)) _ _
              (λ p.
              let d = short_not m (price_of r m op) p in
              notice 7 (price_of r m op) m.fuel g (both_right _ _ (both_left _ _ d)) (named_7 _) refl (sym (both_right _ _ d)) (sym (pick_false _ _ _ refl))
              (λ l. pick_true _ _ _ a ∙ pick_true _ _ _ p))
              (λ p.
              let d = affords_all m (price_of r m op) p in
              branch To fits _ _
              (λ f s. grown (after_question ∙ both_true _ _ g (both_true _ _ a (both_true _ _ d f))) c.value (s ∙ c.by_some u some asking))
              (λ f.
              notice 8 0 (paid m.fuel (price_of r m op)) g (both_right _ _ (both_right _ _ f)) (named 8 refl refl) refl (sym (both_true _ _ a d))
              (sym (pick_true _ _ _ refl)) (λ l. pick_true _ _ _ a ∙ pick_false _ _ _ p ∙ pick_false _ _ _ f))))
              (λ a.
              notice 6 0 m.fuel g (both_left _ _ a) (named 6 refl refl) refl (sym (both_left _ _ a)) (sym (pick_false _ _ _ refl))
              (λ l. pick_false _ _ _ a))

          -- its no, and its own error, are all that it says
          denied : granted m ≡ false → heard r m b op ≡ 1
          denied g = heard_no r m b op c.sound c.formed asking g

          -- the limiter's question: 6 or 4 without notice
          asked_grew : To
              (pick (eqb (says_of m.limiter) 1) (kept (refusal 6 0) m.fuel (moved m.limiter))
              (pick (eqb (says_of m.limiter) 2) (kept (refusal 4 0) m.fuel (moved m.limiter)) (granting (price_of r m op) m.limiter)))
          asked_grew =
              branch To _ _ _
              (λ t.
              let d = grants_no _ t in
              early 6 _ (moved_once r m b op (denied d)) (named 6 refl refl) refl refl (after_question ∙ both_left _ _ d))
              (λ t.
              branch To _ _ _
              (λ e s.
              let d = grants_error _ e in
              erred (denied d) d (after_question ∙ both_left _ _ d) (s ∙ c.stop m.limiter _ _ _))
              (λ e. granted_grew (grants_yes _ t e)))

        -- the checks before it: 14, by 0, 6
        used_grew : Grew
        used_grew =
            branch To kind _ _
            (λ k.
            branch To (eqb n 0) _ _
            (λ z s.
            grown (c.when ∙ both_true _ _ u (both_true _ _ k (pick_true _ _ _ z))) c.value
            (s ∙ c.by_none u (eqb-true n 0 z) (c.asks ∙ both_right _ _ (both_right _ _ (pick_true _ _ _ z)))))
            (λ z.
            branch To may _ _ (asked_grew k z)
            (λ y.
            early 6 _ (unasked (both_right _ _ (pick_false _ _ _ z ∙ y))) (named 6 refl refl) refl refl
            (c.when ∙ both_right _ _ (both_right _ _ (pick_false _ _ _ z ∙ both_left _ _ y))))))
            (λ k. early 14 _ (unasked (both_left _ _ k)) (named 14 refl refl) refl refl (c.when ∙ both_right _ _ (both_left _ _ k)))
            (comes_to m.limiter)

      -- a growth with these checks ends in one of the ways
      pub grew : (p : ℕ) → (used ≡ true → p ≡ price_of r m op) → Checks p → Grew
      unfolding settled changed
      grew p q c =
          either used
          (λ u. used_grew (subst Checks (q u) c) u)
          (λ u.
          before 16 _ (no_question r m b op (c.asks ∙ both_left _ _ u)) (named 16 refl refl) refl refl (c.when ∙ both_left _ _ u)
          (step_is r m b op c.sound c.formed ∙ ap (after m) (c.unknown u)))
