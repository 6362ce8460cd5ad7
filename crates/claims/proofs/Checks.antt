-- What an operation's checks come to: with one more before them, of a growth, and where the limiter is asked. Assumes nothing.
use Rattle.std.specs.Prelude.{ℕ, ◌≡◌, Bool, true, false, eqb}
use Rattle.types.specs.{Names.pick, Pick.both}
use mathlib.Core.{Path.refl, Path.sym, Path.ap, Path.◌∙◌, Bool.false≢true}
use Rattle.types.proofs.Picks.{pick_ap, pick_false, both_1, both_2}
use Rattle.claims.specs.Occasions.{Checks, Unasked, Asked, given, holds, comes}

-- one more before them
pub given_holds : (g t : Bool) (c : Checks) → holds g (given t c) ≡ both t (holds g c)
unfolding holds given both
given_holds g true (Unasked all) = refl
given_holds g false (Unasked all) = refl
given_holds g true (Asked first later) = refl
given_holds g false (Asked first later) = refl

pub given_1 : (g t : Bool) (c : Checks) → holds g (given t c) ≡ true → t ≡ true
given_1 g t c e = both_1 _ _ (sym (given_holds g t c) ∙ e)

pub given_2 : (g t : Bool) (c : Checks) → holds g (given t c) ≡ true → holds g c ≡ true
given_2 g t c e = both_2 _ _ (sym (given_holds g t c) ∙ e)

pub given_comes : (t : Bool) (c : Checks) → comes (given t c) ≡ both t (comes c)
unfolding comes given both
given_comes true (Unasked all) = refl
given_comes false (Unasked all) = refl
given_comes t (Asked first later) = refl

-- of a growth by n: none where n is 0
abbrev pub growing : ℕ → Bool → Bool → Checks
growing n may later = pick (eqb n 0) (Unasked true) (Asked may later)

pub growing_holds : (g : Bool) (n : ℕ) (may later : Bool) → holds g (growing n may later) ≡ pick (eqb n 0) true (both may (both g later))
unfolding holds
growing_holds g n may later = pick_ap (holds g) (eqb n 0) _ _

-- by more than 0
pub growing_some : (g : Bool) (n : ℕ) (may later : Bool) → eqb n 0 ≡ false → holds g (growing n may later) ≡ true → both may (both g later) ≡ true
growing_some g n may later z e = sym (pick_false _ _ _ z) ∙ sym (growing_holds g n may later) ∙ e

pub growing_comes : (n : ℕ) (may later : Bool) → comes (growing n may later) ≡ pick (eqb n 0) false may
unfolding comes
growing_comes n may later = pick_ap comes (eqb n 0) _ _

-- of one in use
pub used_holds : (g u : Bool) (n : ℕ) (may later : Bool) → holds g (given u (growing n may later)) ≡ both u (pick (eqb n 0) true (both may (both g later)))
used_holds g u n may later = given_holds g u _ ∙ ap (both u) (growing_holds g n may later)

pub used_comes : (u : Bool) (n : ℕ) (may later : Bool) → comes (given u (growing n may later)) ≡ both u (pick (eqb n 0) false may)
used_comes u n may later = given_comes u _ ∙ ap (both u) (growing_comes n may later)

-- where all hold and there is a question, the limiter grants
pub grant_of_lem : (g : Bool) (c : Checks) → holds g c ≡ true → comes c ≡ true → g ≡ true
unfolding holds comes
grant_of_lem g (Unasked all) h q = absurd (false≢true q)
grant_of_lem g (Asked first later) h q = both_1 _ _ (both_2 _ _ h)
