use Rattle.std.proofs.lemmas.Iterator.{cases_from_all, YieldsList-from_slice}
use borrow.Author.{Rules.rules, Tests.tests}
use Rattle.types.proofs.{Prelude.◌<◌, Prelude.◌≤◌, Scripts.answers_by}
use Rattle.types.proofs.limiter.well_formed.Goals as goal

pub returns-then-script-le-LONGEST_SCRIPT : goal.returns-then-script-le-LONGEST_SCRIPT
returns-then-script-le-LONGEST_SCRIPT c =
    let s = c.args.script.now in
    answers_by s _ (search rules)
    (cases_from_all _ _ _ (λ b. b ≤ 2) (λ b. 2 < b) c.all.ensures.ran (YieldsList-from_slice s cc)
    (λ x q k. search (rules, tests)) (λ x q k. search (rules, tests)))
