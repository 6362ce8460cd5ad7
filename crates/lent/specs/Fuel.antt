-- Document 01, "Fuel": the fuel record is lent and charged where it stands.
use Rattle.std.specs.Prelude.{◌≡◌, Ok, Err, Result}
use Rattle.types.specs.Names.{accept, set_fuel, get_fuel, consume, consume_if, consume_unchecked, Answer, Fuel}
use Rattle.lent.specs.declared.fuel.FuelRequest.{FuelRequest}
use Rattle.types.specs.declared.answer.Refusal.{Refusal}

-- an answer, and the fuel record after it
pub record FuelDone : Type 0 where
  pub answer : Answer
  pub fuel : Fuel

-- an answer with its record
abbrev pub fuel_done : Answer → Fuel → FuelDone
fuel_done a f = record { answer = a; fuel = f }

-- a setting answers 0; a refusal leaves the record
unfoldable pub set_by : Fuel → Result Fuel Refusal → FuelDone
set_by f (Err r) = fuel_done (Err r) f
set_by f (Ok g) = fuel_done (accept 0) g

-- a charge answers the fuel left; a refusal leaves the record
unfoldable pub charged_by : Fuel → Result Fuel Refusal → FuelDone
charged_by f (Err r) = fuel_done (Err r) f
charged_by f (Ok g) = fuel_done (accept g.remaining) g

-- a request to the fuel record, each by its step
unfoldable pub requested : Fuel → FuelRequest → FuelDone
requested f (FuelRequest.Set n) = set_by f (set_fuel f n)
requested f FuelRequest.Get = fuel_done (get_fuel f) f
requested f (FuelRequest.Charge p) = charged_by f (consume f p)
requested f (FuelRequest.ChargeIf p) = charged_by f (consume_if f p)
requested f (FuelRequest.ChargeUnchecked p) = charged_by f (consume_unchecked f p)

-- all that a request promises: its answer and the lent record after it are the request's
abbrev pub Requests : Fuel → FuelRequest → Answer → Fuel → Type 0
Requests f q a after = fuel_done a after ≡ requested f q
