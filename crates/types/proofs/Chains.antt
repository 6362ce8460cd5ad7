-- The stages of grants are chains of checks in document 01's order. Assumes nothing.
use Rattle.std.specs.Prelude.{Ok, Err, Result, ⊤}
use Rattle.types.proofs.Prelude.{◌≡◌, refl, Bool, true, false, List, ℕ, ◌-◌, eqb, ltb}
use Rattle.types.specs.{Pick.pick, Pick.both, Pick.unless, Answer.refusal, Answer.refuse, Answer.accept}
use Rattle.types.specs.Fuel.{left, short, paid, consume_if, consume_unchecked}
use Rattle.types.specs.Limiter.{says_of, moved, permit_of, ask, heard_of, notify}
use Rattle.types.specs.stages.Grant.{told, creation_room, creation_permit, grant_creation, growth_room, growth_paid, growth_fuel, growth_permit, grant_growth, grant_span, spanned}
use Rattle.types.specs.{Done.span_done, declared.fuel.Fuel.Fuel}
use Rattle.types.specs.{declared.grant.Growth.Growth, declared.limiter.Asked.Asked, declared.limiter.Limiter.Limiter}
use Rattle.types.specs.declared.answer.Refusal.{Refusal}

-- a denial of which the limiter is told
abbrev pub heard : Limiter → ℕ → ℕ → Result ⊤ Refusal
heard l number amount = Err (heard_of (says_of l) (refusal number amount))

-- a growth: whatever is made of permit, fuel and limiter is made at each exit
module _ {A : Type 0} (k : Result ⊤ Refusal → Fuel → Limiter → A) where
  abbrev out : Growth → A
  out g = k g.permit g.fuel g.limiter

  room_chain : (l : Limiter) (f : Fuel) (fits : Bool) → out (growth_room l f fits) ≡ unless fits (k (heard l 8 0) f (moved l)) (k (Ok tt) f l)
  unfolding growth_room pick told notify
  room_chain l f true = refl
  room_chain l f false = refl

  paid_chain : (l : Limiter) (f : Fuel) (p : ℕ) (fits : Bool)
      → out (growth_paid (consume_if f p) l f fits)
      ≡ pick (short f p) (k (heard l 7 p) f (moved l)) (unless fits (k (heard l 8 0) (paid f p) (moved l)) (k (Ok tt) (paid f p) l))
  unfolding consume_if consume_unchecked growth_paid both pick told notify
  paid_chain l f p fits = go f.enabled (ltb f.remaining p)
    where
      go : (e t : Bool)
          → out (growth_paid (pick e (pick t (Err (refusal 7 p)) (Ok (left f (f.remaining - p)))) (Ok f)) l f fits)
          ≡ pick (both e t) (k (heard l 7 p) f (moved l))
          (unless fits (k (heard l 8 0) (pick e (left f (f.remaining - p)) f) (moved l)) (k (Ok tt) (pick e (left f (f.remaining - p)) f) l))
      go true true = refl
      go true false = room_chain l (left f (f.remaining - p)) fits
      go false t = room_chain l f fits

  fuel_chain : (l : Limiter) (f : Fuel) (admits : Bool) (p : ℕ) (fits : Bool)
      → out (growth_fuel l f admits p fits)
      ≡ unless admits (k (heard l 6 0) f (moved l))
      (pick (short f p) (k (heard l 7 p) f (moved l)) (unless fits (k (heard l 8 0) (paid f p) (moved l)) (k (Ok tt) (paid f p) l)))
  unfolding growth_fuel pick told notify
  fuel_chain l f true p fits = paid_chain l f p fits
  fuel_chain l f false p fits = refl

  pub growth_chain : (l : Limiter) (f : Fuel) (admits : Bool) (p : ℕ) (fits : Bool)
      → out (grant_growth l f admits p fits)
      ≡ pick (eqb (says_of l) 1) (k (Err (refusal 6 0)) f (moved l))
      (pick (eqb (says_of l) 2) (k (Err (refusal 4 0)) f (moved l))
      (unless admits (k (heard (moved l) 6 0) f (moved (moved l)))
      (pick (short f p) (k (heard (moved l) 7 p) f (moved (moved l)))
      (unless fits (k (heard (moved l) 8 0) (paid f p) (moved (moved l))) (k (Ok tt) (paid f p) (moved l))))))
  unfolding grant_growth ask permit_of growth_permit pick
  growth_chain l f admits p fits = go (eqb (says_of l) 1) (eqb (says_of l) 2)
    where
      go : (t u : Bool)
          → out (growth_permit (pick t (Err (refusal 6 0)) (pick u (Err (refusal 4 0)) (Ok tt))) (moved l) f admits p fits)
          ≡ pick t (k (Err (refusal 6 0)) f (moved l))
          (pick u (k (Err (refusal 4 0)) f (moved l))
          (unless admits (k (heard (moved l) 6 0) f (moved (moved l)))
          (pick (short f p) (k (heard (moved l) 7 p) f (moved (moved l)))
          (unless fits (k (heard (moved l) 8 0) (paid f p) (moved (moved l))) (k (Ok tt) (paid f p) (moved l))))))
      go true u = refl
      go false true = refl
      go false false = fuel_chain (moved l) f admits p fits

-- a creation, likewise of permit and limiter
module _ {A : Type 0} (k : Result ⊤ Refusal → Limiter → A) where
  abbrev made : Asked → A
  made a = k a.permit a.limiter

  creation_room_lem : (l : Limiter) (fits : Bool) → made (creation_room l fits) ≡ unless fits (k (heard l 5 0) (moved l)) (k (Ok tt) l)
  unfolding creation_room pick told notify
  creation_room_lem l true = refl
  creation_room_lem l false = refl

  pub creation_chain : (l : Limiter) (fits : Bool)
      → made (grant_creation l fits)
      ≡ pick (eqb (says_of l) 1) (k (Err (refusal 3 0)) (moved l))
      (pick (eqb (says_of l) 2) (k (Err (refusal 4 0)) (moved l))
      (unless fits (k (heard (moved l) 5 0) (moved (moved l))) (k (Ok tt) (moved l))))
  unfolding grant_creation ask permit_of creation_permit pick
  creation_chain l fits = go (eqb (says_of l) 1) (eqb (says_of l) 2)
    where
      go : (t u : Bool)
          → made (creation_permit (pick t (Err (refusal 3 0)) (pick u (Err (refusal 4 0)) (Ok tt))) (moved l) fits)
          ≡ pick t (k (Err (refusal 3 0)) (moved l))
          (pick u (k (Err (refusal 4 0)) (moved l))
          (unless fits (k (heard (moved l) 5 0) (moved (moved l))) (k (Ok tt) (moved l))))
      go true u = refl
      go false true = refl
      go false false = creation_room_lem (moved l) fits

-- the fuel step of a span operation
pub charge_chain : (f : Fuel) (p : ℕ) (cs new : List ℕ)
    → spanned (consume_if f p) f cs new ≡ pick (short f p) (span_done (refuse 7 p) f cs) (span_done (accept 0) (paid f p) new)
unfolding consume_if consume_unchecked spanned both pick
charge_chain f p cs new = go f.enabled (ltb f.remaining p)
  where
    go : (e t : Bool)
        → spanned (pick e (pick t (Err (refusal 7 p)) (Ok (left f (f.remaining - p)))) (Ok f)) f cs new
        ≡ pick (both e t) (span_done (refuse 7 p) f cs) (span_done (accept 0) (pick e (left f (f.remaining - p)) f) new)
    go true true = refl
    go true false = refl
    go false t = refl

-- bounds, then the fuel step
pub span_chain : (f : Fuel) (inBounds : Bool) (number p : ℕ) (cs new : List ℕ)
    → spanned (grant_span f inBounds number p) f cs new
    ≡ unless inBounds (span_done (refuse number 0) f cs) (pick (short f p) (span_done (refuse 7 p) f cs) (span_done (accept 0) (paid f p) new))
unfolding grant_span spanned pick
span_chain f true number p cs new = charge_chain f p cs new
span_chain f false number p cs new = refl
