-- What a request leaves of the fuel record: what is left changes at most. Assumes nothing.
use Rattle.std.specs.Prelude.{Ok, Err, Result}
use Rattle.types.proofs.Prelude.{◌≡◌, refl, sym, subst, Bool, true, false, ℕ, ◌-◌, ltb}
use Rattle.types.specs.{Pick.pick, Answer.Answer, Answer.refusal, Fuel.left, Fuel.set_fuel, Fuel.consume, Fuel.consume_if, Fuel.consume_unchecked}
use Rattle.types.specs.{declared.answer.Refusal.Refusal, declared.fuel.Fuel.Fuel}
use Rattle.lent.specs.{Fuel.FuelDone, Fuel.set_by, Fuel.charged_by, Fuel.requested, Fuel.Requests, declared.fuel.FuelRequest.FuelRequest}
use Rattle.lent.specs.declared.fuel.FuelRequest.TheVariants.{Set, Get, Charge, ChargeIf, ChargeUnchecked}

-- the record f, but for the amount left
abbrev pub SameBut : Fuel → FuelDone → Type 0
SameBut f d = d.fuel ≡ left f d.fuel.remaining

set_same : (f : Fuel) (n : ℕ) (t : Bool) → SameBut f (set_by f (pick t (Ok (left f n)) (Err (refusal 15 0))))
unfolding set_by pick
set_same f n true = refl
set_same f n false = refl

unchecked_same : (f : Fuel) (p : ℕ) (t : Bool) → SameBut f (charged_by f (pick t (Err (refusal 7 p)) (Ok (left f (f.remaining - p)))))
unfolding charged_by pick
unchecked_same f p true = refl
unchecked_same f p false = refl

-- a charge by one of two steps
either_same : (f : Fuel) (a b : Result Fuel Refusal) (t : Bool) → SameBut f (charged_by f a) → SameBut f (charged_by f b) → SameBut f (charged_by f (pick t a b))
unfolding pick
either_same f a b true x y = x
either_same f a b false x y = y

refused_same : (f : Fuel) (r : Refusal) → SameBut f (charged_by f (Err r))
unfolding charged_by
refused_same f r = refl

free_same : (f : Fuel) → SameBut f (charged_by f (Ok f))
unfolding charged_by
free_same f = refl

charge_same : (f : Fuel) (p : ℕ) → SameBut f (charged_by f (consume_unchecked f p))
unfolding consume_unchecked
charge_same f p = unchecked_same f p (ltb f.remaining p)

-- costs and metering stay, whatever is asked
pub requested_same : (f : Fuel) (q : FuelRequest) → SameBut f (requested f q)
unfolding requested set_fuel consume consume_if
requested_same f (Set n) = set_same f n f.enabled
requested_same f Get = refl
requested_same f (Charge p) = either_same f (consume_unchecked f p) (Err (refusal 15 0)) f.enabled (charge_same f p) (refused_same f (refusal 15 0))
requested_same f (ChargeIf p) = either_same f (consume_unchecked f p) (Ok f) f.enabled (charge_same f p) (free_same f)
requested_same f (ChargeUnchecked p) = charge_same f p

-- so they stay in the lent record itself, which the code stores whole: after any request it is the record before, but for what is left
pub request_same : (f : Fuel) (q : FuelRequest) (a : Answer) (after : Fuel) → Requests f q a after → after ≡ left f after.remaining
request_same f q a after e = subst (SameBut f) (sym e) (requested_same f q)
