use Rattle.types.proofs.Prelude.{◌≡◌, ◌<◌, ◌-◌, ◌^◌, length, drop}
use Rattle.lines.specs.Hex.{hex_from}
use Rattle.lines.proofs.field.hex.Given as goal

abbrev pub invariant-loop-b : goal.invariant-loop-b
invariant-loop-b l = (l.v < 16 ^ l.b-index) × (hex_from (length l.s - l.b-index) l.v (drop l.b-index l.s) ≡ hex_from (length l.s) 0 l.s)
