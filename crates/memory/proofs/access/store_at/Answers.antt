use Rattle.types.proofs.Prelude.{arith}
use Rattle.memory.proofs.Accesses.{address_found}
use Rattle.memory.proofs.access.store_at.Goals as goal

pub overflow_add-base : goal.overflow_add-base
overflow_add-base c =
    let h = address_found _ _ _ _ _ _ _ c.locate.ensures c.requires _ c.in-Some.is in
    omega arith

pub store_width-requires : goal.store_width-requires
store_width-requires c = omega (arith, address_found _ _ _ _ _ _ _ c.locate.ensures c.requires _ c.in-Some.is, c.bytes.ensures)
