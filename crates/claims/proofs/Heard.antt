-- How many questions and notices the limiter hears, by how an operation ends. Assumes nothing.
use Rattle.types.proofs.Prelude.{sym, ap, ◌∙◌, pick_true, pick_false, both_true, both_right}
use Rattle.std.specs.Prelude.{ℕ, ◌≡◌, true, false}
use Rattle.types.specs.{Names.moved, Names.Limiter}
use Rattle.machine.specs.Names.{Buffers, sound_over, well_formed, step, Machine, Operation}
use Rattle.claims.specs.{Answers.accepted, Occasions.granted, Occasions.question, Script.asks, Script.heard, Script.moved_by, Script.script_after}

module _ (r : ℕ) (m : Machine) (b : Buffers) (op : Operation) where
  -- the script moved on by what was heard
  abbrev pub onward : Limiter
  onward = moved_by (heard r m b op) m.limiter

  -- so is one that a refusal leaves
  abbrev pub Onward : Limiter → Type 0
  Onward l = accepted (step r m b op).answer ≡ false → l ≡ onward

  -- a refused operation leaves the old one, moved on
  pub refused_leaves : accepted (step r m b op).answer ≡ false → script_after r m b op ≡ onward
  unfolding script_after
  refused_leaves n = pick_false _ _ _ n

  -- none unasked: the script stays
  pub unasked : asks r m b op ≡ false → m.limiter ≡ onward
  unfolding heard moved_by
  unasked a = ap (λ (n : ℕ). moved_by n m.limiter) (sym (pick_false _ _ _ a))

  pub no_question : question r m b op ≡ false → m.limiter ≡ onward
  no_question q = unasked (both_right _ _ (both_right _ _ q))

  module _ (e : sound_over m b ≡ true) (w : well_formed op ≡ true) (q : question r m b op ≡ true) where
    -- it is asked
    asked : asks r m b op ≡ true
    asked = both_true _ _ w (both_true _ _ e q)

    -- no notice follows the limiter's own refusal
    pub heard_no : granted m ≡ false → heard r m b op ≡ 1
    unfolding heard
    heard_no g = pick_true _ _ _ asked ∙ pick_false _ _ _ g

    -- nor what is accepted
    pub heard_done : granted m ≡ true → accepted (step r m b op).answer ≡ true → heard r m b op ≡ 1
    unfolding heard
    heard_done g a = pick_true _ _ _ asked ∙ pick_true _ _ _ g ∙ pick_true _ _ _ a

    -- a refusal after the grant has its notice
    pub heard_told : granted m ≡ true → accepted (step r m b op).answer ≡ false → heard r m b op ≡ 2
    unfolding heard
    heard_told g a = pick_true _ _ _ asked ∙ pick_true _ _ _ g ∙ pick_false _ _ _ a

  -- the script by a number that was heard
  pub moved_once : heard r m b op ≡ 1 → moved m.limiter ≡ onward
  unfolding moved_by
  moved_once h = ap (λ (n : ℕ). moved_by n m.limiter) (sym h)

  pub moved_twice : heard r m b op ≡ 2 → moved (moved m.limiter) ≡ onward
  unfolding moved_by
  moved_twice h = ap (λ (n : ℕ). moved_by n m.limiter) (sym h)
