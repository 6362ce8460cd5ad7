use Rattle.types.proofs.Prelude.{◌≡◌, ◌+◌, ◌*◌, length, take}
use Rattle.types.specs.Span.{over}
use Rattle.lines.specs.Line.{fields_text}
use Rattle.lines.proofs.line.put_fields.Given as goal

abbrev pub invariant-loop-v : goal.invariant-loop-v
invariant-loop-v l = (l.at ≡ 2 + 17 * l.v-index) × (length l.out ≡ length l.initial.out) × (l.out ≡ over l.initial.out 2 (fields_text (take l.v-index l.fields)))
