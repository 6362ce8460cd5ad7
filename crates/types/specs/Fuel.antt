-- Document 01, "Fuel" and "Numbers given back" (7, 15): the fuel record and its charges.
use Rattle.std.specs.Prelude.{ℕ, ◌-◌, Bool, ltb, Ok, Err, Result}
use Rattle.types.specs.{Pick.pick, Pick.both, Answer.refusal, Answer.refuse, Answer.accept}
use Rattle.types.specs.Answer.{Answer}
use Rattle.types.specs.declared.{fuel.FuelCosts.FuelCosts, fuel.Fuel.Fuel}
use Rattle.types.specs.declared.answer.Refusal.{Refusal}

-- the costs where none are given: 64 bytes copied a unit, 7 units a byte translated, 2 a byte validated
abbrev pub default_costs : FuelCosts
default_costs = record { copied = 64; translated = 7; validated = 2 }

-- a new record: nothing is left, and metering is on or off
abbrev pub new_fuel : Bool → FuelCosts → Fuel
new_fuel on costs = record { remaining = 0; enabled = on; costs = costs }

-- the same record with so much left
abbrev pub left : Fuel → ℕ → Fuel
left f n = record { remaining = n; enabled = f.enabled; costs = f.costs }

-- metering is on, and less is left than the price
abbrev pub short : Fuel → ℕ → Bool
short f p = both f.enabled (ltb f.remaining p)

-- the record after a price is paid; with metering off it is free
abbrev pub paid : Fuel → ℕ → Fuel
paid f p = pick f.enabled (left f (f.remaining - p)) f

-- n units are left from now on; 15 with metering off
unfoldable pub set_fuel : Fuel → ℕ → Result Fuel Refusal
set_fuel f n = pick f.enabled (Ok (left f n)) (Err (refusal 15 0))

-- how much is left; 15 with metering off
unfoldable pub get_fuel : Fuel → Answer
get_fuel f = pick f.enabled (accept f.remaining) (refuse 15 0)

-- a charge that exceeds what is left takes nothing, and the refusal has the whole price
unfoldable pub consume_unchecked : Fuel → ℕ → Result Fuel Refusal
consume_unchecked f p = pick (ltb f.remaining p) (Err (refusal 7 p)) (Ok (left f (f.remaining - p)))

-- a charge; 15 with metering off
unfoldable pub consume : Fuel → ℕ → Result Fuel Refusal
consume f p = pick f.enabled (consume_unchecked f p) (Err (refusal 15 0))

-- the fuel step of the metered operations: free with metering off
unfoldable pub consume_if : Fuel → ℕ → Result Fuel Refusal
consume_if f p = pick f.enabled (consume_unchecked f p) (Ok f)
