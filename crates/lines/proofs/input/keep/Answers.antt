use Rattle.lines.proofs.Hosts.{keep_left}
use Rattle.lines.proofs.input.keep.Goals as goal

pub returns : goal.returns
returns c = keep_left _ _ _ _ _ c.min-end.ensures c.min-from.ensures c.copy_within.ensures.after
