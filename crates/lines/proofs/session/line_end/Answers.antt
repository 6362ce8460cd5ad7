use Rattle.types.proofs.Prelude.{eqb, rules}
use Rattle.std.proofs.Common.{tests}
use Rattle.std.proofs.lemmas.Iterator.{YieldsList-from_slice}
use Rattle.std.proofs.lemmas.Iterator.Search.{position_from_yields_List}
use Rattle.lines.specs.Line.{lf}
use Rattle.lines.proofs.LineEnds.{lf_found}
use Rattle.lines.proofs.session.line_end.Goals as goal

pub returns : goal.returns
returns c =
    let e = position_from_yields_List (λ b. eqb b lf) _ _ c.position.result c.position.ensures.ran (YieldsList-from_slice c.args.s.now cc) (λ x b q k. search (rules, tests)) in
    lf_found c.args.s.now e
