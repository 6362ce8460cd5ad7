use Rattle.types.proofs.Prelude.{sym, ◌∙◌, both_1, both_2}
use Rattle.machine.specs.{Machine.buffers, Words.machine_from}
use Rattle.machine.proofs.Formed.{form_long}
use Rattle.machine.proofs.Settling.{sound_inside}
use Rattle.machine.proofs.row.operate.Goals as goal

pub go-requires : goal.go-requires
go-requires c =
    let a = c.args in
    let b = buffers (a.bytes.now) (a.cells.now) (a.items.now) in
    let ready = sym c.is_ready.ensures ∙ c.if-not-is_ready.false in
    (form_long (a.words.now) (both_1 _ _ ready), sound_inside (machine_from (a.words.now)) b (both_2 _ _ ready))
