use Rattle.types.proofs.Prelude.{rules}
use Rattle.lines.proofs.Writing.{put_on, put_end}
use Rattle.lines.proofs.field.put_hex.Goals as goal

pub loop-i-preserved : goal.loop-i-preserved
loop-i-preserved c = (search rules, search put_on)

pub returns : goal.returns
returns c = search put_end
