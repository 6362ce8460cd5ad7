use Rattle.types.proofs.Prelude.{sym, ◌∙◌}
use Rattle.machine.specs.{Words.machine_from, Machine.buffers}
use Rattle.machine.proofs.Settling.{sound_inside}
use Rattle.machine.proofs.operate.decide.Goals as goal

pub perform-requires : goal.perform-requires
perform-requires c =
    let a = c.args in
    let m = machine_from (a.words.now) in
    (c.requires, sound_inside m (buffers (a.bytes.now) (a.cells.now) (a.items.now)) (sym c.is_sound.ensures ∙ c.if-not-is_sound.false))
