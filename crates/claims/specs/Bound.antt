-- Demand 3, and document 01, "Fuel": an accepted growth, fill, copy or init writes its whole byte length; a refused one nothing.
use Rattle.std.specs.Prelude.{ℕ, ◌+◌, ◌-◌, ◌*◌, true, false, List, [], ◌∷◌, eqb, replicate}
use Rattle.types.specs.Names.{pick, both, null_of, RefType}
use Rattle.machine.specs.Names.{Buffers, buffers, no_limits, step, Machine, Operation, FuelOp, MemoryOp, TableOp}
use Rattle.claims.specs.{Answers.accepted, Metered.metering, Metered.passes}

-- over a list of operations: the bytes written, F and K
pub record Totals : Type 0 where
  pub bytes : ℕ
  pub units : ℕ
  pub passed : ℕ

-- the bytes that one operation writes
unfoldable pub wrote : ℕ → Machine → Buffers → Operation → ℕ
wrote r m b op = pick (both (metering r m op).meets (accepted (step r m b op).answer)) (metering r m op).bytes 0

-- the units that it pays at the fuel step: what the fuel fell by
unfoldable pub pays : ℕ → Machine → Buffers → Operation → ℕ
pays r m b op = pick (passes r m b op) (m.fuel.remaining - (step r m b op).machine.fuel.remaining) 0

-- over a list of operations, one after another
unfoldable pub totals : ℕ → Machine → Buffers → List Operation → Totals
totals r m b [] = record { bytes = 0; units = 0; passed = 0 }
totals r m b (op ∷ ops) =
    let s = step r m b op in
    let rest = totals r s.machine s.buffers ops in
    record { bytes = wrote r m b op + rest.bytes; units = pays r m b op + rest.units; passed = pick (passes r m b op) 1 0 + rest.passed }

-- the most bytes that a reference may count: document 01 asks for R from 1 to 16
abbrev pub most_r : ℕ
most_r = 16

-- B·F + (B-1)·K
abbrev pub most_bytes : ℕ → ℕ → ℕ → ℕ
most_bytes b f k = b * f + (b - 1) * k

-- a pass of n bytes: a growth by n pages of one byte, or a fill of length 0
unfoldable pub pass : ℕ → Operation
pass n = pick (eqb n 0) (Operation.Table 0 (TableOp.Fill 0 (null_of RefType.Func) 0)) (Operation.Memory 0 (MemoryOp.Grow n))

-- a run that writes as many bytes as the bound allows: f units in the first pass, and each pass as long as its price allows
unfoldable pub fullest_run : ℕ → ℕ → ℕ → List Operation
fullest_run b f k =
    Operation.Fuel (FuelOp.SetFuel f)
    ∷ Operation.NewMemory (most_bytes b f k) (record { wide = true; limits = no_limits; exponent = 0 })
    ∷ Operation.NewTable 0 (record { element = RefType.Func; wide = false; limits = no_limits }) (null_of RefType.Func)
    ∷ pass (b * f + (b - 1))
    ∷ replicate (k - 1) (pass (b - 1))

-- the buffers that it is lent
abbrev pub zeros : ℕ → Buffers
zeros n = buffers (replicate n 0) [] []
