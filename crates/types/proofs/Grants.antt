-- What a grant shows: that the cells fit; and what a denial shows: a number that is not 0. Assumes nothing.
use Rattle.std.specs.Prelude.{Ok, Err, Result, ⊤}
use Rattle.types.proofs.Prelude.{◌≡◌, refl, ap, Bool, true, false, ℕ, ◌-◌, ◌<◌, arith, eqb, ltb, both_1, both_2}
use Rattle.types.specs.{Pick.pick, Pick.both, Answer.refusal, Fuel.left, Fuel.consume_if, Fuel.consume_unchecked}
use Rattle.types.specs.Limiter.{says_of, permit_of, ask, heard_of, notify}
use Rattle.types.specs.stages.Grant.{told, creation_room, creation_permit, grant_creation, growth_room, growth_paid, growth_fuel, growth_permit, grant_growth, grant_span}
use Rattle.types.specs.{declared.answer.Refusal.Refusal, declared.fuel.Fuel.Fuel}
use Rattle.types.specs.{declared.limiter.Limiter.Limiter}

-- a permit is a grant only where a test holds, and denies only with a number
abbrev pub Fair : Result ⊤ Refusal → Bool → Type 0
Fair p fits = (p ≡ (Ok tt) → fits ≡ true) × ((r : Refusal) → p ≡ Err r → 0 < r.number)

granted : {p : Result ⊤ Refusal} {fits : Bool} → p ≡ (Ok tt) → fits ≡ true → Fair p fits
granted e h = ((λ _. h), (λ r q. let z : ◌≡◌ {A = ℕ} 0 1 = cc in absurd (omega arith)))

denied : {p : Result ⊤ Refusal} (fits : Bool) (r : Refusal) → p ≡ Err r → 0 < r.number → Fair p fits
denied fits r e h = ((λ q. let z : ◌≡◌ {A = ℕ} 0 1 = cc in absurd (omega arith)), (λ s q. let k : s.number ≡ r.number = cc in omega arith))

-- a refusal of which the limiter is told has its own number or 4
heard_some : (said : ℕ) (r : Refusal) → 0 < r.number → 0 < (heard_of said r).number
unfolding heard_of pick
heard_some said r h = go (eqb said 2)
  where
    go : (t : Bool) → 0 < (pick t (refusal 4 0) r).number
    go true = omega arith
    go false = h

told_fair : (l : Limiter) (r : Refusal) (fits : Bool) → 0 < r.number → Fair (told l r).permit fits
unfolding told notify
told_fair l r fits h = denied fits (heard_of (says_of l) r) refl (heard_some (says_of l) r h)

-- the limiter's own denial
permit_some : (said deny : ℕ) (r : Refusal) → 0 < deny → permit_of said deny ≡ Err r → 0 < r.number
unfolding permit_of pick
permit_some said deny r h = go (eqb said 1) (eqb said 2)
  where
    go : (t u : Bool) → pick {A = Result ⊤ Refusal} t (Err (refusal deny 0)) (pick u (Err (refusal 4 0)) (Ok tt)) ≡ Err r → 0 < r.number
    go true u q = let k : r.number ≡ deny = cc in omega arith
    go false true q = let k : r.number ≡ 4 = cc in omega arith
    go false false q = let z : ◌≡◌ {A = ℕ} 0 1 = cc in absurd (omega arith)

ask_some : (l : Limiter) (deny : ℕ) (r : Refusal) → 0 < deny → (ask l deny).permit ≡ Err r → 0 < r.number
unfolding ask
ask_some l deny r h q = permit_some (says_of l) deny r h q

-- a creation
creation_room_lem : (l : Limiter) (fits : Bool) → Fair (creation_room l fits).permit fits
unfolding creation_room pick
creation_room_lem l true = granted refl refl
creation_room_lem l false = told_fair l (refusal 5 0) false (omega arith)

creation_permit_lem : (p : Result ⊤ Refusal) (l : Limiter) (fits : Bool) → ((r : Refusal) → p ≡ Err r → 0 < r.number) → Fair (creation_permit p l fits).permit fits
unfolding creation_permit
creation_permit_lem (Err r) l fits h = denied fits r refl (h r refl)
creation_permit_lem (Ok u) l fits h = creation_room_lem l fits

pub creation_fair : (l : Limiter) (fits : Bool) → Fair (grant_creation l fits).permit fits
unfolding grant_creation
creation_fair l fits = creation_permit_lem (ask l 3).permit (ask l 3).limiter fits (λ r. ask_some l 3 r (omega arith))

-- a creation that is granted has its room
pub granted_creation : (l : Limiter) (fits : Bool) → (grant_creation l fits).permit ≡ (Ok tt) → fits ≡ true
granted_creation l fits e = (creation_fair l fits).0 e

-- a growth
growth_room_lem : (l : Limiter) (f : Fuel) (fits : Bool) → Fair (growth_room l f fits).permit fits
unfolding growth_room pick
growth_room_lem l f true = granted refl refl
growth_room_lem l f false = told_fair l (refusal 8 0) false (omega arith)

growth_paid_lem : (s : Result Fuel Refusal) (l : Limiter) (f : Fuel) (fits : Bool) → ((r : Refusal) → s ≡ Err r → 0 < r.number) → Fair (growth_paid s l f fits).permit fits
unfolding growth_paid
growth_paid_lem (Err r) l f fits h = told_fair l r fits (h r refl)
growth_paid_lem (Ok g) l f fits h = growth_room_lem l g fits

-- the fuel step refuses with 7
pub fuel_refused : (f : Fuel) (p : ℕ) (r : Refusal) → consume_if f p ≡ Err r → r ≡ refusal 7 p
unfolding consume_if consume_unchecked pick
fuel_refused f p r = go f.enabled (ltb f.remaining p)
  where
    go : (t u : Bool) → pick t (pick u (Err (refusal 7 p)) (Ok (left f (f.remaining - p)))) (Ok f) ≡ Err r → r ≡ refusal 7 p
    go true true q = cc
    go true false q = let z : ◌≡◌ {A = ℕ} 0 1 = cc in absurd (omega arith)
    go false u q = let z : ◌≡◌ {A = ℕ} 0 1 = cc in absurd (omega arith)

growth_fuel_lem : (l : Limiter) (f : Fuel) (admits : Bool) (p : ℕ) (fits : Bool) → Fair (growth_fuel l f admits p fits).permit (both admits fits)
unfolding growth_fuel pick both
growth_fuel_lem l f true p fits =
    growth_paid_lem (consume_if f p) l f fits
    (λ r q. let k : r.number ≡ 7 = ap (λ (s : Refusal). s.number) (fuel_refused f p r q) in omega arith)
growth_fuel_lem l f false p fits = told_fair l (refusal 6 0) false (omega arith)

growth_permit_lem : (q : Result ⊤ Refusal) (l : Limiter) (f : Fuel) (admits : Bool) (p : ℕ) (fits : Bool) → ((r : Refusal) → q ≡ Err r → 0 < r.number)
    → Fair (growth_permit q l f admits p fits).permit (both admits fits)
unfolding growth_permit
growth_permit_lem (Err r) l f admits p fits h = denied (both admits fits) r refl (h r refl)
growth_permit_lem (Ok u) l f admits p fits h = growth_fuel_lem l f admits p fits

pub growth_fair : (l : Limiter) (f : Fuel) (admits : Bool) (p : ℕ) (fits : Bool) → Fair (grant_growth l f admits p fits).permit (both admits fits)
unfolding grant_growth
growth_fair l f admits p fits =
    growth_permit_lem (ask l 6).permit (ask l 6).limiter f admits p fits (λ r. ask_some l 6 r (omega arith))

-- a granted growth was admitted, and fits
pub granted_growth : (l : Limiter) (f : Fuel) (admits : Bool) (p : ℕ) (fits : Bool) → (grant_growth l f admits p fits).permit ≡ (Ok tt) → fits ≡ true
granted_growth l f admits p fits e = both_2 _ _ ((growth_fair l f admits p fits).0 e)

pub granted_admits : (l : Limiter) (f : Fuel) (admits : Bool) (p : ℕ) (fits : Bool) → (grant_growth l f admits p fits).permit ≡ (Ok tt) → admits ≡ true
granted_admits l f admits p fits e = both_1 _ _ ((growth_fair l f admits p fits).0 e)

-- a span operation that goes on is within its bounds
pub granted_span : (f : Fuel) (inBounds : Bool) (number price : ℕ) (g : Fuel) → grant_span f inBounds number price ≡ Ok g → inBounds ≡ true
unfolding grant_span pick
granted_span f true number price g e = refl
granted_span f false number price g e = let z : ◌≡◌ {A = ℕ} 0 1 = cc in absurd (omega arith)
