use Rattle.types.proofs.Prelude.{sym, ap, ◌∙◌}
use Rattle.std.specs.Prelude.{Err}
use Rattle.types.specs.declared.answer.Refusal.{Refusal}
use Rattle.machine.specs.{Machine.buffers, Row.in_row}
use Rattle.machine.proofs.Settling.{proceeds_malformed, proceeds_short, proceeds_outside, proceeds_goes}
use Rattle.machine.proofs.row.proceed.Goals.{then-words-lt-ROW-via-then-words-lt-ROW, then-words-lt-ROW-via-else-words-lt-ROW+then-not-ends_inside}
use Rattle.machine.proofs.row.proceed.Goals as goal

pub returns-then-not-is_well_formed : goal.returns-then-not-is_well_formed
returns-then-not-is_well_formed c =
    let a = c.args in
    let b = buffers (a.bytes.now) (a.cells.now) (a.items.now) in
    proceeds_malformed (a.words.now) b a.op (sym c.is_well_formed.ensures ∙ c.if-not-is_well_formed.true) (ap (λ (r : Refusal). in_row (Err r) (a.words.now) (a.bytes.now) (a.cells.now) (a.items.now)) c.from.ensures)

pub returns-then-words-lt-ROW : goal.returns-then-words-lt-ROW
returns-then-words-lt-ROW c =
    let a = c.args in
    let b = buffers (a.bytes.now) (a.cells.now) (a.items.now) in
    let well = sym c.is_well_formed.ensures ∙ c.if-not-is_well_formed.false in
    let kept = ap (λ (r : Refusal). in_row (Err r) (a.words.now) (a.bytes.now) (a.cells.now) (a.items.now)) c.from-then-words-lt-ROW.ensures in
    elim c.then-words-lt-ROW.branch [
      | then-words-lt-ROW-via-then-words-lt-ROW w ↦ proceeds_short (a.words.now) b a.op well w.if-words-lt-ROW.true kept
      | then-words-lt-ROW-via-else-words-lt-ROW+then-not-ends_inside w ↦ proceeds_outside (a.words.now) b a.op well w.if-words-lt-ROW.false (sym w.ends_inside.ensures ∙ w.if-not-ends_inside.true) kept
    ]

pub returns : goal.returns
returns c =
    let a = c.args in
    let b = buffers (a.bytes.now) (a.cells.now) (a.items.now) in
    proceeds_goes (a.words.now) b a.op (sym c.is_well_formed.ensures ∙ c.if-not-is_well_formed.false) c.if-words-lt-ROW.false (sym c.ends_inside.ensures ∙ c.if-not-ends_inside.false) c.go.ensures
