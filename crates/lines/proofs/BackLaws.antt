-- Laws of an operation's code and fields: their numbers and their length. Assumes nothing.
use Rattle.types.proofs.Prelude.{List, [], ◌∷◌, ℕ, ◌<◌, ◌≤◌, arith, length, length-take}
use Rattle.machine.specs.Names.{Items, Operation}
use Rattle.lines.specs.{Writing.numbers_of, Writing.write_line}
use Rattle.lines.proofs.{Writing.length_line}
use Rattle.machine.specs.declared.operation.FuelOp.TheVariants as fuel
use Rattle.machine.specs.declared.operation.MemoryOp.TheVariants as memory
use Rattle.machine.specs.declared.operation.TableOp.TheVariants as table
use Rattle.machine.specs.declared.operation.Operation.TheVariants as op

-- the items of a segment
abbrev pub four : Items → List ℕ
four i = i.first ∷ i.second ∷ i.third ∷ i.fourth ∷ []

-- two digits hold every code, and there are at most 8 fields
pub few : (o : Operation) → ((numbers_of o).code < 256) × (length (numbers_of o).fields ≤ 8)
unfolding numbers_of
few (op.Fuel (fuel.SetFuel amount)) = (omega arith, omega arith)
few (op.Fuel fuel.GetFuel) = (omega arith, omega arith)
few (op.Fuel (fuel.Charge units)) = (omega arith, omega arith)
few (op.Fuel (fuel.SetLimiter script)) = (omega arith, omega arith)
few (op.NewMemory room wanted) = (omega arith, omega arith)
few (op.Memory n (memory.Grow pages)) = (omega arith, omega arith)
few (op.Memory n memory.Size) = (omega arith, omega arith)
few (op.Memory n (memory.Load kind pointer offset)) = (omega arith, omega arith)
few (op.Memory n (memory.Store kind pointer offset bits)) = (omega arith, omega arith)
few (op.Memory n (memory.LinkCheck wanted)) = (omega arith, omega arith)
few (op.NewTable room wanted initial) = (omega arith, omega arith)
few (op.Table n (table.Grow cells value)) = (omega arith, omega arith)
few (op.Table n table.Size) = (omega arith, omega arith)
few (op.Table n (table.Get index)) = (omega arith, omega arith)
few (op.Table n (table.Set index value)) = (omega arith, omega arith)
few (op.Table n (table.Fill start value len)) = (omega arith, omega arith)
few (op.TableCopy into source span) = (omega arith, omega arith)
few (op.TableInit table segment span) = (omega arith, omega arith)
few (op.DropSegment segment) = (omega arith, omega arith)
few (op.NewSegment element items) = (omega arith, omega (arith, length-take items.count (four items)))

-- 138 bytes are enough
pub fits : (o : Operation) → length (write_line o) ≤ 138
unfolding write_line
fits o = omega (arith, (few o).1, length_line (numbers_of o).code (numbers_of o).fields)
