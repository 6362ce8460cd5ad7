use Rattle.yshankelt.proofs.Tells.{eight_fields}
use Rattle.yshankelt.proofs.whole.padded.Goals as goal

pub returns : goal.returns
returns c = cc (eight_fields c.args.fields.now c.requires)
