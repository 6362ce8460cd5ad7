use Rattle.types.proofs.Prelude.{refl, arith, length-set}
use Rattle.lines.proofs.Writing.{fields_none, fields_put, fields_all}
use Rattle.lines.proofs.line.put_fields.Goals as goal

pub loop-v-init : goal.loop-v-init
loop-v-init c = (refl, refl, fields_none c.args.out.now c.args.fields.now)

pub loop-v-preserved : goal.loop-v-preserved
loop-v-preserved c =
    let l = c.loop-v in (
      omega arith,
      omega (arith, simp length-set at c.put_hex.auto.out),
      fields_put _ _ l.out _ _ _ _ c.loop-v-test.true l.invariant.0 c.requires.1 refl l.invariant.2 c.put_hex.ensures,
    )

pub returns : goal.returns
returns c = fields_all _ c.args.fields.now _ _ (omega arith) c.loop-v.invariant.2
