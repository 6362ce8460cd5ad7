use Rattle.types.proofs.Prelude.{arith}
use Rattle.table.proofs.Outcomes.{goes_within}
use Rattle.table.proofs.fill.fill_kind.Goals as goal

pub overflow_add-at : goal.overflow_add-at
overflow_add-at c =
    let h = goes_within c.args.table _ _ _ c.requires _ _ _ c.within-in_bounds.ensures c.grant_span-step.ensures _ c.in-Ok.is in
    omega arith

pub fill_cells-requires : goal.fill_cells-requires
fill_cells-requires c =
    let h = goes_within c.args.table _ _ _ c.requires _ _ _ c.within-in_bounds.ensures c.grant_span-step.ensures _ c.in-Ok.is in
    omega arith
