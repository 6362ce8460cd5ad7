use Rattle.types.proofs.Prelude.{arith}
use Rattle.table.proofs.Outcomes.{goes_both}
use Rattle.table.proofs.copy.copy_bounds.Goals as goal

pub overflow_add-there : goal.overflow_add-there
overflow_add-there c =
    let h = goes_both c.args.into c.args.source _ _ _ _ _ _ _ c.requires.0 c.requires.1 c.both_within-ok.ensures c.grant_span-step.ensures in
    omega (arith, h.0 _ c.in-Ok.is)

pub overflow_add-here : goal.overflow_add-here
overflow_add-here c =
    let h = goes_both c.args.into c.args.source _ _ _ _ _ _ _ c.requires.0 c.requires.1 c.both_within-ok.ensures c.grant_span-step.ensures in
    omega (arith, h.1 _ c.in-Ok.is)

pub move_cells-requires : goal.move_cells-requires
move_cells-requires c =
    let h = goes_both c.args.into c.args.source _ _ _ _ _ _ _ c.requires.0 c.requires.1 c.both_within-ok.ensures c.grant_span-step.ensures in
    record { there = omega (arith, h.0 _ c.in-Ok.is); here = omega (arith, h.1 _ c.in-Ok.is) }
