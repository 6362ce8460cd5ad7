use Rattle.types.proofs.Prelude.{◌≡◌, ◌-◌, length}
use Rattle.lines.specs.Hex.{hex_text}
use Rattle.types.specs.Span.{over}
use Rattle.lines.proofs.field.put_hex.Given as goal

abbrev pub invariant-loop-i : goal.invariant-loop-i
invariant-loop-i l = (length l.out ≡ length l.initial.out) × (over l.out l.at (hex_text (l.n - l.i) l.w) ≡ over l.initial.out l.at (hex_text l.n l.v))
