use Rattle.types.proofs.{Prelude.◌∙◌, Prelude.sym, Prelude.known_test, Prelude.arith, Spans.within_is}
use Rattle.memory.proofs.Readings.{plan_place}
use Rattle.memory.proofs.new.new_memory.Goals as goal

pub make-requires : goal.make-requires
make-requires c =
    let p = plan_place _ _ _ (sym c.planned.ensures ∙ c.in-Ok.is) in
    omega (arith, p, within_is _ _ _ (known_test c.within.ensures c.if-not-within.false))
