use Rattle.lines.proofs.Runs.{closed_in, closed_short, closed_long}
use Rattle.lines.proofs.session.close.Goals.{then-rest-le-LONGEST-via-then-rest-le-LONGEST, then-rest-le-LONGEST-via-else-rest-le-LONGEST+then-is_some}
use Rattle.lines.proofs.session.close.Goals as goal
use Rattle.types.proofs.Prelude.{sym, ◌∙◌}

pub returns-then-rest-le-LONGEST : goal.returns-then-rest-le-LONGEST
returns-then-rest-le-LONGEST c =
    elim c.then-rest-le-LONGEST.branch [
      | then-rest-le-LONGEST-via-then-rest-le-LONGEST w ↦ closed_short _ _ c.requires w.if-rest-le-LONGEST.true
      | then-rest-le-LONGEST-via-else-rest-le-LONGEST+then-is_some w ↦ closed_in _ _ c.requires _ (sym w.is_some.ensures ∙ w.if-is_some.true) w.line_end.ensures
    ]

pub returns : goal.returns
returns c = closed_long _ _ c.requires _ (sym c.is_some.ensures ∙ c.if-is_some.false) c.line_end.ensures c.if-rest-le-LONGEST.false
