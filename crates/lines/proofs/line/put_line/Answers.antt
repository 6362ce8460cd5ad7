use Rattle.lines.proofs.Writing.{line_put, line_kept}
use Rattle.lines.proofs.line.put_line.Goals as goal

pub returns-then-out-size : goal.returns-then-out-size
returns-then-out-size c = line_kept _ _ _ c.if-out-size.true

pub returns : goal.returns
returns c = line_put _ _ _ _ _ c.if-out-size.false c.put_hex.ensures c.put_fields.ensures
