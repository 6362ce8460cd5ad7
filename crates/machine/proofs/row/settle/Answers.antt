use Rattle.types.proofs.Prelude.{ℕ, ap, ◌∙◌, List}
use mir.Syntax.{w8}
use borrow.Author.Rules.{elem_Fits}
use Rattle.types.specs.Span.{over}
use Rattle.machine.specs.{Words.standing_words, stages.Rows.settled_row}
use Rattle.machine.proofs.row.settle.Goals as goal

pub returns-in-Nothing : goal.returns-in-Nothing
unfolding settled_row
returns-in-Nothing c =
    let o = c.args.outcome in
    let good = c.well_formed.1.0.1.1 in
    let costs = good.1.1.1.0.1.1.1.1.0.1.1 in
    let script = good.1.1.1.1.0.1.1.0.1 in
    record {
      row = rw c.in-Nothing.is c.put_left.ensures;
      fits = record {
        script = script.0.1;
        copied = costs.0.1;
        translated = costs.1.0.1;
        validated = costs.1.1.0.1;
        answers = λ i. (elem_Fits w8 w8 o.limiter.script _ i script.1 tt).fits;
      };
    }

pub returns-in-Record : goal.returns-in-Record
unfolding settled_row
returns-in-Record c =
    let o = c.args.outcome in
    let good = c.well_formed.1.0.1.1 in
    let costs = good.1.1.1.0.1.1.1.1.0.1.1 in
    let script = good.1.1.1.1.0.1.1.0.1 in
    record {
      row = rw c.in-Record.is (c.put_standing.ensures ∙ ap (λ (z : List ℕ). over z 160 (standing_words o.counts o.fuel o.limiter)) c.put_change.ensures);
      fits = record {
        script = script.0.1;
        copied = costs.0.1;
        translated = costs.1.0.1;
        validated = costs.1.1.0.1;
        answers = λ i. (elem_Fits w8 w8 o.limiter.script _ i script.1 tt).fits;
      };
    }

pub returns-in-Script : goal.returns-in-Script
unfolding settled_row
returns-in-Script c =
    let o = c.args.outcome in
    let good = c.well_formed.1.0.1.1 in
    let costs = good.1.1.1.0.1.1.1.1.0.1.1 in
    let script = good.1.1.1.1.0.1.1.0.1 in
    record {
      row = rw c.in-Script.is c.put_state.ensures.0;
      fits = record {
        script = script.0.1;
        copied = costs.0.1;
        translated = costs.1.0.1;
        validated = costs.1.1.0.1;
        answers = λ i. (elem_Fits w8 w8 o.limiter.script _ i script.1 tt).fits;
      };
    }
