use Rattle.types.proofs.Prelude.{arith}
use Rattle.memory.proofs.Accesses.{address_found}
use Rattle.memory.proofs.access.load_at.Goals as goal

pub overflow_add-base : goal.overflow_add-base
overflow_add-base c =
    let h = address_found _ _ _ _ _ _ _ c.locate.ensures c.requires _ c.in-Some.is in
    omega arith

pub load_width-bits-requires : goal.load_width-bits-requires
load_width-bits-requires c = omega (arith, address_found _ _ _ _ _ _ _ c.locate.ensures c.requires _ c.in-Some.is, c.bytes.ensures)
