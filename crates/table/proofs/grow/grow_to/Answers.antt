use Rattle.types.proofs.Prelude.{arith}
use Rattle.table.proofs.Growths.{growth_room_lem}
use Rattle.table.proofs.grow.grow_to.Goals as goal

pub overflow_add-from : goal.overflow_add-from
overflow_add-from c =
    let r = growth_room_lem _ _ _ _ _ _ c.requires.0 c.requires.1 c.grant-growth.ensures c.in-Ok.is in
    omega (arith, r.more, r.room)

pub fill_cells-requires : goal.fill_cells-requires
fill_cells-requires c =
    let r = growth_room_lem _ _ _ _ _ _ c.requires.0 c.requires.1 c.grant-growth.ensures c.in-Ok.is in
    omega (arith, r.more, r.room)
