use Rattle.lines.proofs.Runs.{go_closed}
use Rattle.lines.proofs.session.go_on.Goals as goal

pub returns : goal.returns
returns c = go_closed _ _ _ _ _ c.whole_lines-p.ensures c.close.ensures
