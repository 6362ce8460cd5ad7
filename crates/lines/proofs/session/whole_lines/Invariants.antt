use Rattle.types.proofs.Prelude.{◌≡◌, ◌≤◌, ◌-◌, ◌/◌, length, drop}
use Rattle.machine.specs.{Words.machine_from, Machine.buffers, Words.row_length}
use Rattle.types.specs.Raw.{raw_bytes}
use Rattle.lines.specs.{AnswerLine.answer_bytes, Pieces.whole_lines, stages.Runs.held_on, stages.Runs.Ready, stages.Runs.end_of}
use Rattle.lines.proofs.session.whole_lines.Given as goal

abbrev pub invariant-loop-out : goal.invariant-loop-out
invariant-loop-out l = record {
  used : l.used ≤ length l.input;
  wrote : l.wrote ≤ length l.out;
  ready : Ready l.words (buffers l.bytes l.cells l.items);
  behind : drop row_length l.words ≡ drop row_length l.initial.words;
  runs : end_of l.initial.words l.used l.wrote l.out (whole_lines ((length l.out - l.wrote) / answer_bytes) raw_bytes (held_on (machine_from l.words) l.first l.bytes l.cells l.items) (drop l.used l.input))
      ≡ end_of l.initial.words l.from l.put l.initial.out (whole_lines ((length l.initial.out - l.put) / answer_bytes) raw_bytes (held_on (machine_from l.initial.words) l.begun l.initial.bytes l.initial.cells l.initial.items) (drop l.from l.input));
}

abbrev pub decreases-loop-out : goal.decreases-loop-out
decreases-loop-out l = length l.out - l.wrote
