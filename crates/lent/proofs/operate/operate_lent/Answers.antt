use Rattle.types.proofs.Prelude.{ap, ◌∙◌}
use Rattle.types.specs.{Raw.raw_bytes, Answer.Answer}
use Rattle.machine.specs.{Machine.buffers, Step.performed, Step.decide, declared.records.Machine.Machine}
use Rattle.lent.specs.Records.{lent, lent_stepped}
use Rattle.lent.proofs.RecordLaws.{lent_short, lent_steps}
use Rattle.lent.proofs.operate.operate_lent.Goals as goal

pub returns-in_default : goal.returns-in_default
returns-in_default c =
    let a = c.args in
    let l = lent a.memories.now a.tables.now a.segments.now a.standing.now a.fuel.now in
    let b = buffers a.bytes.now a.cells.now a.items.now in
    ap (λ (z : Answer). lent_stepped z l b) c.unfit.ensures ∙ lent_short raw_bytes l b a.op c.in_default.ensures

pub returns : goal.returns
returns c =
    let a = c.args in
    let d = c.decide-outcome in
    let b = buffers a.bytes.now a.cells.now a.items.now in
    lent_steps raw_bytes (lent a.memories.now a.tables.now a.segments.now a.standing.now a.fuel.now) b a.op
    (performed d.result d.new.bytes d.new.cells d.new.items) _ _ _ c.in-Some.ensures.0
    (d.ensures ∙ ap (λ (m : Machine). decide raw_bytes m b a.op) c.in-Some.ensures.1)
    (c.put_change.ensures a.standing.now a.fuel.now)
