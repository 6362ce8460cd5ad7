use Rattle.types.proofs.Prelude.{sym, ◌∙◌, both_1, both_2}
use Rattle.machine.specs.Machine.{buffers}
use Rattle.lines.proofs.{Runs.piece_stuck, Runs.piece_goes, Carried.form_ready}
use Rattle.lines.proofs.session.piece.Goals as goal

pub returns-then-not-is_ready : goal.returns-then-not-is_ready
returns-then-not-is_ready c =
    let a = c.args in
    rw c.from.ensures (piece_stuck a.session (a.words.now) (buffers (a.bytes.now) (a.cells.now) (a.items.now)) (a.input.now) (a.out.now) (sym c.is_ready.ensures ∙ c.if-not-is_ready.true))

pub skip_on-requires : goal.skip_on-requires
skip_on-requires c =
    let a = c.args in
    let t = sym c.is_ready.ensures ∙ c.if-not-is_ready.false in
    form_ready (a.words.now) (buffers (a.bytes.now) (a.cells.now) (a.items.now)) (both_1 _ _ t) (both_2 _ _ t)

pub returns-then-session : goal.returns-then-session
returns-then-session c =
    let a = c.args in
    piece_goes a.session (a.words.now) (buffers (a.bytes.now) (a.cells.now) (a.items.now)) (a.input.now) (a.out.now) _ (sym c.is_ready.ensures ∙ c.if-not-is_ready.false) (rw (← c.if-session.true) at c.skip_on.ensures)

pub go_on-requires : goal.go_on-requires
go_on-requires c =
    let a = c.args in
    let t = sym c.is_ready.ensures ∙ c.if-not-is_ready.false in
    form_ready (a.words.now) (buffers (a.bytes.now) (a.cells.now) (a.items.now)) (both_1 _ _ t) (both_2 _ _ t)

pub returns : goal.returns
returns c =
    let a = c.args in
    piece_goes a.session (a.words.now) (buffers (a.bytes.now) (a.cells.now) (a.items.now)) (a.input.now) (a.out.now) _ (sym c.is_ready.ensures ∙ c.if-not-is_ready.false) (rw (← c.if-session.false) at c.go_on.ensures)
