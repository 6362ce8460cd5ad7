use Rattle.types.proofs.Prelude.{ℕ, ap, ◌∙◌, arith, length-drop, length-take}
use Rattle.types.specs.Raw.{raw_bytes}
use Rattle.lines.specs.declared.session.Progress.{Progress}
use Rattle.lines.proofs.Runs.{turned_line, line_on, run_stop, run_full}
use Rattle.lines.proofs.Carried.{reached_row, row_line}
use Rattle.lines.proofs.session.whole_lines.Goals as goal

pub returns-in_default : goal.returns-in_default
returns-in_default c =
    let l = c.loop-out in
    let i = l.invariant in
    record {
      is = reached_row (c.args.words.now) l.words l.bytes l.cells l.items l.out l.first l.used l.wrote i.ready i.behind c.stopped.ensures
          ∙ run_stop _ raw_bytes _ l.used l.wrote _ l.out i.used i.runs c.loop-out-test.true c.in_default.ensures;
      used = omega (arith, ap (λ (p : Progress). p.used) c.stopped.ensures, i.used);
    }

pub loop-out-preserved : goal.loop-out-preserved
loop-out-preserved c =
    let l = c.loop-out in
    let i = l.invariant in
    let y = c.turn-answer.ensures in
    let n = c.in-Some.ensures in
    record {
      used = omega (arith, n, length-take {A = ℕ}, length-drop {A = ℕ});
      wrote = omega (arith, c.put_answer.auto.out);
      ready = y.ready;
      behind = y.behind ∙ i.behind;
      runs = line_on _ raw_bytes _ l.used l.wrote c.args.input.now l.out i.used i.runs _ _ c.loop-out-test.true i.wrote n
          (turned_line _ _ c.read_line-said.ensures y.is)
          (row_line l.out _ _ l.wrote _ _ y.ready c.fuel_of.ensures c.put_answer.ensures);
    }

pub returns : goal.returns
returns c =
    let l = c.loop-out in
    let i = l.invariant in
    let stop = c.stopped-2.ensures in
    record {
      is = reached_row (c.args.words.now) l.words l.bytes l.cells l.items l.out l.first l.used l.wrote i.ready i.behind stop
          ∙ run_full _ raw_bytes _ l.used l.wrote _ l.out i.used i.runs c.loop-out-test.false;
      used = omega (arith, ap (λ (p : Progress). p.used) stop, i.used);
    }
