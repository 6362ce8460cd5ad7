-- How an operation ends: accepted where a test holds, or refused, with all that it leaves. Assumes nothing.
use Rattle.std.specs.Prelude.{ℕ, ◌≡◌, Bool, true, false, Err}
use Rattle.types.specs.{Names.pick, Names.paid, Names.Refusal, Names.Fuel, Names.Limiter}
use Rattle.machine.specs.Names.{Buffers, sound_over, metered, Stepped, step, Machine, Operation}
use Rattle.claims.specs.{Answers.accepted, Answers.listed, Metered.price_of, Metered.paid_refusal, Effects.effects, Effects.accepted_step}
use Rattle.claims.specs.{Script.heard, Script.moved_by}

-- what a refusal leaves: all but fuel and limiter
abbrev pub stays : Machine → Buffers → Refusal → Fuel → Limiter → Stepped
stays m b x f l = record { answer = Err x; machine = metered m f l; buffers = b }

-- a refusal with the fuel and the limiter after it
pub record Refusing (r : ℕ) (m : Machine) (b : Buffers) (op : Operation) (when : Bool) (x : Refusal) (f : Fuel) (l : Limiter) : Type 0 where
  pub none : when ≡ false
  pub same : step r m b op ≡ stays m b x f l
  pub known : listed x ≡ true
  pub sound : sound_over m b ≡ true → x.number ≡ 19 → ⊥
  pub fuel : f ≡ pick (paid_refusal r m b op) (paid m.fuel (price_of r m op)) m.fuel
  pub script : l ≡ moved_by (heard r m b op) m.limiter

-- accepted, with a value, or refused
pub data Exit (r : ℕ) (m : Machine) (b : Buffers) (op : Operation) (when : Bool) : Type 0 where
  accepts : when ≡ true → accepted (effects r m b op).out.answer ≡ true → step r m b op ≡ accepted_step r m b op → Exit r m b op when
  refuses : (x : Refusal) (f : Fuel) (l : Limiter) → Refusing r m b op when x f l → Exit r m b op when
