use Rattle.types.proofs.Prelude.{◌++◌, ap, arith, drop, replicate, List, ℕ}
use Rattle.memory.proofs.{Bytes.read_is, Copies.part_cut}
use Rattle.memory.proofs.access.load_n.Goals as goal

pub returns : goal.returns
returns c =
    read_is _ _ _ _ _ c.requires (λ i. omega (arith, c.type_inv.bytes i))
    (ap (λ (z : List ℕ). z ++ drop c.args.n (replicate 8 0)) (part_cut _ _ _ _ c.copy_from_slice.ensures.after)) c.from_le_bytes.ensures
