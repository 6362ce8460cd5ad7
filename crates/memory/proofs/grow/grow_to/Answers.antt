use Rattle.types.proofs.Prelude.{arith}
use Rattle.memory.proofs.{Growths.granted_room}
use Rattle.memory.proofs.grow.grow_to.Goals as goal

pub overflow_add-from : goal.overflow_add-from
overflow_add-from c =
    let r = granted_room _ _ _ _ _ _ c.grant-growth.ensures c.requires c.in-Ok.is in
    omega (arith, r.more, r.room)

pub zero-requires : goal.zero-requires
zero-requires c =
    let r = granted_room _ _ _ _ _ _ c.grant-growth.ensures c.requires c.in-Ok.is in
    omega (arith, r.more, r.room)
