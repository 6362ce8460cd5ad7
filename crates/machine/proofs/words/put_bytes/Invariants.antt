use Rattle.types.proofs.Prelude.{length, take, ◌≡◌}
use Rattle.types.specs.Span.{over}
use Rattle.machine.proofs.words.put_bytes.Given as goal

abbrev pub invariant-loop-i : goal.invariant-loop-i
invariant-loop-i l = (l.words ≡ over l.initial.words l.at (take l.i l.row)) × (length l.words ≡ length l.initial.words)
