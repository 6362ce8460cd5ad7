use Rattle.types.proofs.Prelude.{length, take, ◌≡◌}
use Rattle.machine.specs.Words.{rows_of}
use Rattle.types.specs.Span.{over}
use Rattle.machine.proofs.words.put_records.Given as goal

abbrev pub invariant-loop-i : goal.invariant-loop-i
invariant-loop-i g l = (l.words ≡ over l.initial.words g.R.Record.PLACE (rows_of g.R.Record.written (take l.i l.records))) × (length l.words ≡ length l.initial.words)
