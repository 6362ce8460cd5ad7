use Rattle.types.proofs.Prelude.{rules}
use Rattle.types.specs.Raw.{raw_bytes}
use Rattle.machine.specs.Machine.{buffers}
use Rattle.lent.specs.Records.{lent, lent_stepped}
use Rattle.lent.proofs.RecordLaws.{kept_step}
use Rattle.lent.proofs.operate.operate_kept.Goals as goal

pub returns : goal.returns
returns c =
    let a = c.args in
    let m = a.before in
    let o = c.operate_lent-answer in
    let n = o.new in
    kept_step raw_bytes m.memories m.tables m.segments (record { counts = m.counts; limiter = m.limiter }) m.fuel (buffers a.bytes.now a.cells.now a.items.now) a.op
    (search rules) (search rules) (search rules)
    (lent_stepped o.result (lent n.memories n.tables n.segments n.standing n.fuel) (buffers n.bytes n.cells n.items)) o.ensures
