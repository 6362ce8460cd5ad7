-- Document 01, "First check wins": the stages that memories and tables share, from the limiter's question to the room, as the code has them.
-- The definition of each operation says the same in one chain of checks; crates/types/proofs/Chains.antt shows that they agree.
use Rattle.std.specs.Prelude.{ℕ, Bool, List, Ok, Err, Result, ⊤}
use Rattle.types.specs.Pick.{pick}
use Rattle.types.specs.Done.{Done, span_done}
use Rattle.types.specs.Answer.{refusal, accept}
use Rattle.types.specs.Fuel.{consume_if}
use Rattle.types.specs.Limiter.{ask, notify}
use Rattle.types.specs.declared.answer.Refusal.{Refusal}
use Rattle.types.specs.declared.fuel.Fuel.{Fuel}
use Rattle.types.specs.declared.limiter.Limiter.{Limiter}
use Rattle.types.specs.declared.limiter.Asked.{Asked}
use Rattle.types.specs.declared.grant.Growth.{Growth}
use Rattle.types.specs.declared.grant.Spanned.{Spanned}

-- a refusal of which the limiter is told
unfoldable pub told : Limiter → Refusal → Asked
told l r = record { permit = Err (notify l r).refusal; limiter = (notify l r).limiter }

-- room 5 with notice
unfoldable pub creation_room : Limiter → Bool → Asked
creation_room l fits = pick fits (record { permit = (Ok tt); limiter = l }) (told l (refusal 5 0))

-- once the limiter has answered
unfoldable pub creation_permit : Result ⊤ Refusal → Limiter → Bool → Asked
creation_permit (Err r) l fits = record { permit = Err r; limiter = l }
creation_permit (Ok u) l fits = creation_room l fits

-- a creation: limiter 3/4, room 5 with notice
unfoldable pub grant_creation : Limiter → Bool → Asked
grant_creation l fits = creation_permit (ask l 3).permit (ask l 3).limiter fits

-- what the limiter left, with the fuel beside it
abbrev pub growth_of : Asked → Fuel → Growth
growth_of a f = record { permit = a.permit; fuel = f; limiter = a.limiter }

-- 8 with notice: what was paid stays paid
unfoldable pub growth_room : Limiter → Fuel → Bool → Growth
growth_room l f fits =
    pick fits (record { permit = (Ok tt); fuel = f; limiter = l }) (growth_of (told l (refusal 8 0)) f)

-- 7 with notice
unfoldable pub growth_paid : Result Fuel Refusal → Limiter → Fuel → Bool → Growth
growth_paid (Err r) l f fits = growth_of (told l r) f
growth_paid (Ok g) l f fits = growth_room l g fits

-- 6 with notice above the maximum; a memory has tested its maximum before
unfoldable pub growth_fuel : Limiter → Fuel → Bool → ℕ → Bool → Growth
growth_fuel l f admits price fits =
    pick admits (growth_paid (consume_if f price) l f fits) (growth_of (told l (refusal 6 0)) f)

-- once the limiter has answered
unfoldable pub growth_permit : Result ⊤ Refusal → Limiter → Fuel → Bool → ℕ → Bool → Growth
growth_permit (Err r) l f admits price fits = record { permit = Err r; fuel = f; limiter = l }
growth_permit (Ok u) l f admits price fits = growth_fuel l f admits price fits

-- a growth: limiter 6/4 without notice, then the maximum, fuel 7 and room 8, each with notice
unfoldable pub grant_growth : Limiter → Fuel → Bool → ℕ → Bool → Growth
grant_growth l f admits price fits = growth_permit (ask l 6).permit (ask l 6).limiter f admits price fits

-- a span operation: the bounds come first, then the fuel step
unfoldable pub grant_span : Fuel → Bool → ℕ → ℕ → Result Fuel Refusal
grant_span f inBounds number price = pick inBounds (consume_if f price) (Err (refusal number 0))

-- after the fuel step: a refusal leaves fuel and cells, else the cells are the new ones
unfoldable pub spanned : Result Fuel Refusal → Fuel → List ℕ → List ℕ → Done Spanned
spanned (Err r) f cs new = span_done (Err r) f cs
spanned (Ok g) f cs new = span_done (accept 0) g new
