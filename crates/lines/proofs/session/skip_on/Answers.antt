use Rattle.types.proofs.Prelude.{refl, ap, ◌∙◌, true, length, List, ℕ}
use Rattle.machine.specs.{Words.machine_from, Machine.buffers}
use Rattle.std.specs.Prelude.{Err}
use Rattle.types.specs.{Raw.raw_bytes, Span.over, declared.answer.Refusal.Refusal}
use Rattle.lines.specs.{stages.Runs.held_on, AnswerLine.answer_line}
use Rattle.lines.proofs.{Runs.skip_short, Runs.skip_none, Runs.skip_closed, Carried.ready_row, Carried.row_line}
use Rattle.lines.proofs.session.skip_on.Goals as goal

pub returns-then-out-lt-ANSWER : goal.returns-then-out-lt-ANSWER
returns-then-out-lt-ANSWER c =
    let a = c.args in
    let b = buffers (a.bytes.now) (a.cells.now) (a.items.now) in
    ap (λ (v : List ℕ). record { progress = record { session = record { first = a.session.first; skip = true }; used = 0; wrote = 0 }; words = v; buffers = b; out = a.out.now }) (ready_row (a.words.now) (a.words.now) b c.requires refl)
    ∙ skip_short (a.words.now) raw_bytes (held_on (machine_from (a.words.now)) a.session.first (a.bytes.now) (a.cells.now) (a.items.now)) (a.input.now) (a.out.now) c.if-out-lt-ANSWER.true

pub returns-in_default : goal.returns-in_default
returns-in_default c =
    let a = c.args in
    let b = buffers (a.bytes.now) (a.cells.now) (a.items.now) in
    ap (λ (v : List ℕ). record { progress = record { session = record { first = a.session.first; skip = true }; used = length (a.input.now); wrote = 0 }; words = v; buffers = b; out = a.out.now }) (ready_row (a.words.now) (a.words.now) b c.requires refl)
    ∙ skip_none (a.words.now) raw_bytes (held_on (machine_from (a.words.now)) a.session.first (a.bytes.now) (a.cells.now) (a.items.now)) (a.input.now) (a.out.now) c.if-out-lt-ANSWER.false c.in_default.ensures

pub returns : goal.returns
returns c =
    let a = c.args in
    let line = row_line (a.out.now) _ (a.words.now) 0 (buffers (a.bytes.now) (a.cells.now) (a.items.now)) _ c.requires c.fuel_of.ensures c.put_answer.ensures ∙ ap (λ (x : Refusal). over (a.out.now) 0 (answer_line (Err x) (machine_from (a.words.now)).fuel)) c.from.ensures in
    skip_closed (a.words.now) (held_on (machine_from (a.words.now)) a.session.first (a.bytes.now) (a.cells.now) (a.items.now)) _ (a.input.now) (a.out.now) _ _ c.if-out-lt-ANSWER.false c.in-Some.ensures line c.whole_lines-p.ensures c.close.ensures
