use Rattle.types.proofs.Spans.{past_end, shift_leb}
use Rattle.types.proofs.span.within.Goals as goal

pub returns-then-size-start : goal.returns-then-size-start
returns-then-size-start c = search past_end

pub returns : goal.returns
returns c = search shift_leb
