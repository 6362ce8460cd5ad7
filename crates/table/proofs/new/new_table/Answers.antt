use Rattle.types.proofs.{Prelude.◌∙◌, Prelude.sym, Prelude.arith}
use Rattle.table.proofs.{Sounds.tested_buffer, Readings.plan_place}
use Rattle.table.proofs.new.new_table.Goals as goal

pub make-requires : goal.make-requires
make-requires c =
    let p = plan_place _ _ _ _ (sym c.planned.ensures ∙ c.in-Ok.is) in
    omega (arith, p, tested_buffer _ _ _ c.sound_buffer.ensures c.if-not-sound_buffer.false)
