use Rattle.types.proofs.Prelude.{ℕ, ap, ◌∙◌, length-replicate}
use mir.Syntax.{w8}
use borrow.Author.Rules.{elem_Fits}
use Rattle.machine.specs.Words.{words_of, machine_from}
use Rattle.machine.proofs.{Rows.over_all, Back.words_alone}
use Rattle.machine.proofs.words.row_of.Goals as goal

pub returns : goal.returns
returns c =
    let k = c.args.machine in
    let good = c.well_formed.0.1.1 in
    let costs = good.1.1.1.1.0.1.1.1.1.0.1.1 in
    let script = good.1.1.1.1.1.0.1.1.0.1 in
    let put = c.put_machine.ensures in
    let row = put.0 ∙ over_all _ (words_of k) 186 (length-replicate {A = ℕ} 186 0) put.1 in (
      row,
      ap machine_from row
          ∙ words_alone k
          (record {
            memories = good.0.1.0.1;
            tables = good.1.0.1.0.1;
            segments = good.1.1.0.1.0.1;
            fits = record {
              script = script.0.1;
              copied = costs.0.1;
              translated = costs.1.0.1;
              validated = costs.1.1.0.1;
              answers = λ i. (elem_Fits w8 w8 k.limiter.script _ i script.1 tt).fits;
            };
          }),
    )
