-- Document 01, operations 01 to 04: fuel and limiter.
use Rattle.std.specs.Prelude.{Ok, Err, Result}
use Rattle.types.specs.Names.{accept, set_fuel, get_fuel, consume, hand_over, Answer, Fuel, Limiter, HandedOver}
use Rattle.machine.specs.{Operation.script_of, Outcome.leaves}
use Rattle.machine.specs.declared.{records.Machine.Machine, outcome.Outcome.Outcome, fueling.Fueled.Fueled, operation.FuelOp.FuelOp}
use Rattle.types.specs.declared.answer.Refusal.{Refusal}

-- an answer, fuel and limiter after it
abbrev pub fueled : Answer → Fuel → Limiter → Fueled
fueled a f l = record { answer = a; fuel = f; limiter = l }

-- 01: a step that answers nothing
unfoldable pub set_by : Result Fuel Refusal → Fuel → Limiter → Fueled
set_by (Err r) f l = fueled (Err r) f l
set_by (Ok left) f l = fueled (accept 0) left l

-- 03: a charge answers the fuel left
unfoldable pub charged_by : Result Fuel Refusal → Fuel → Limiter → Fueled
charged_by (Err r) f l = fueled (Err r) f l
charged_by (Ok left) f l = fueled (accept left.remaining) left l

-- 04: the script replaces the old one
abbrev pub handed_by : HandedOver → Fuel → Fueled
handed_by h f = fueled h.answer f h.limiter

-- 01 to 04
unfoldable pub perform_fuel : Fuel → Limiter → FuelOp → Fueled
perform_fuel f l (FuelOp.SetFuel amount) = set_by (set_fuel f amount) f l
perform_fuel f l FuelOp.GetFuel = fueled (get_fuel f) f l
perform_fuel f l (FuelOp.Charge units) = charged_by (consume f units) f l
perform_fuel f l (FuelOp.SetLimiter script) = handed_by (hand_over l (script_of script)) f

-- on a machine's fuel and limiter
abbrev pub fueled_out : Machine → Fueled → Outcome
fueled_out m x = leaves m x.answer x.fuel x.limiter

-- 01 to 04 on a machine
unfoldable pub on_fuel : Machine → FuelOp → Outcome
on_fuel m o = fueled_out m (perform_fuel m.fuel m.limiter o)
