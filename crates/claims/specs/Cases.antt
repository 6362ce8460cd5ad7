-- Document 01, "Checked by proof", P1 to P11: the definitions, computed, as one list with one claim.
use Rattle.std.specs.Prelude.{ℕ, ◌+◌, ◌-◌, ◌^◌, Bool, true, false, List, [], ◌∷◌, ◌++◌, eqb, replicate, Ok, Err, Result}
use Rattle.types.specs.Names.{both, price, new_fuel, no_limiter, number_of, shown_of, build_memory, null_of, raw_bytes}
use Rattle.types.specs.Names.{Answer, IndexType, Limits, RefType}
use Rattle.memory.specs.Names.{LoadKind, StoreKind}
use Rattle.table.specs.Names.{grow_table, Table}
use Rattle.machine.specs.Names.{buffers, fresh_machine, run, Operation, FuelOp, MemoryOp, TableOp}
use Rattle.lines.specs.Session.{costs_of}
use Rattle.types.specs.declared.memory_ty.MemoryType.{MemoryType}
use Rattle.types.specs.declared.answer.Refusal.{Refusal}

-- every test of a list holds
unfoldable pub all_hold : List Bool → Bool
all_hold [] = true
all_hold (b ∷ bs) = both b (all_hold bs)

-- the number that building a type gives
unfoldable pub built_number : Result MemoryType Refusal → ℕ
built_number (Ok t) = 0
built_number (Err r) = r.number

-- limits with a minimum alone
abbrev pub at_least : ℕ → Limits
at_least n = record { minimum = n; bounded = false; maximum = 0 }

-- limits with a maximum alone
abbrev pub up_to : ℕ → Limits
up_to n = record { minimum = 0; bounded = true; maximum = n }

-- number, and value or amount, of each answer
unfoldable pub shown : List Answer → List ℕ
shown [] = []
shown (a ∷ more) = number_of a ∷ shown_of a ∷ shown more

-- what a fresh machine with B bytes a unit answers, over small buffers of zeros, where a reference counts R bytes
unfoldable pub answered_at : ℕ → ℕ → List Operation → List ℕ
answered_at r b ops =
    shown (run r (fresh_machine true (costs_of b)) (buffers (replicate 8 0) (replicate 16 0) (replicate 4 0)) ops).answers

-- two rows are the same, number for number
unfoldable pub same : List ℕ → List ℕ → Bool
same [] [] = true
same [] (y ∷ ys) = false
same (x ∷ xs) [] = false
same (x ∷ xs) (y ∷ ys) = both (eqb x y) (same xs ys)

-- a table of n cells in a room
abbrev pub new_table : ℕ → ℕ → Operation
new_table room n = Operation.NewTable room (record { element = RefType.Func; wide = false; limits = at_least n }) (null_of RefType.Func)

-- a table of two cells and a segment of two items
abbrev pub table_and_segment : List Operation
table_and_segment =
    new_table 2 2 ∷ Operation.NewSegment RefType.Func (record { count = 2; first = 7; second = 8; third = 0; fourth = 0 }) ∷ []

-- 5 units, a table without cells in a room of 16, its growth by n references, a fill of n, and the fuel left after each
abbrev pub grow_and_fill : ℕ → List Operation
grow_and_fill n =
    Operation.Fuel (FuelOp.SetFuel 5)
    ∷ new_table 16 0
    ∷ Operation.Table 0 (TableOp.Grow n (null_of RefType.Func))
    ∷ Operation.Fuel FuelOp.GetFuel
    ∷ Operation.Table 0 (TableOp.Fill 0 (null_of RefType.Func) n)
    ∷ Operation.Fuel FuelOp.GetFuel
    ∷ []

-- an init of length 0
abbrev pub init : ℕ → Operation
init to = Operation.TableInit 0 0 (record { to = to; from = 0; len = 0 })

-- a memory of one byte that holds ff
abbrev pub byte_ff : List Operation
byte_ff =
    Operation.NewMemory 1 (record { wide = false; limits = at_least 1; exponent = 0 })
    ∷ Operation.Memory 0 (MemoryOp.Store StoreKind.I32To8 0 0 255)
    ∷ []

-- a load from it
abbrev pub loads : LoadKind → ℕ → ℕ → Operation
loads kind pointer offset = Operation.Memory 0 (MemoryOp.Load kind pointer offset)

-- a buffer of 2^32 references
unfoldable pub full_buffer : List ℕ
full_buffer = replicate (2 ^ 32) 0

-- a 32-bit table of 2^32-2 cells without a maximum, whose room is all of it
abbrev pub nearly_full : Table
nearly_full =
    record { ty = record { element = RefType.Func; index = IndexType.I32; limits = at_least 0 }; start = 0; room = 2 ^ 32; size = 2 ^ 32 - 2 }

-- what its growth by n answers, with metering off and no limiter
unfoldable pub grown_by : ℕ → List ℕ
grown_by n =
    shown ((grow_table raw_bytes nearly_full full_buffer n (null_of RefType.Func) (new_fuel false (costs_of 64)) no_limiter).out.answer ∷ [])

-- the cases, each a test
unfoldable pub cases : List Bool
cases =
    -- P1: B 64: 63 bytes cost 0, 64 cost 1
    eqb (price 64 63) 0
    ∷ eqb (price 64 64) 1
    -- P2: B 64, R 8: 7 references cost 0, 8 cost 1
    ∷ same (answered_at 8 64 (grow_and_fill 7)) (0 ∷ 0 ∷ 0 ∷ 0 ∷ 0 ∷ 0 ∷ 0 ∷ 5 ∷ 0 ∷ 0 ∷ 0 ∷ 5 ∷ [])
    ∷ same (answered_at 8 64 (grow_and_fill 8)) (0 ∷ 0 ∷ 0 ∷ 0 ∷ 0 ∷ 0 ∷ 0 ∷ 4 ∷ 0 ∷ 0 ∷ 0 ∷ 3 ∷ [])
    -- P3: B 0: 0 bytes cost 2^64-1
    ∷ eqb (price 0 0) (2 ^ 64 - 1)
    -- P4: 32-bit, exponent 16: minimum 65,536 valid, 65,537 gives 1
    ∷ eqb (built_number (build_memory false (at_least 65536) 16)) 0
    ∷ eqb (built_number (build_memory false (at_least 65537) 16)) 1
    -- P5: 32-bit, exponent 0: maximum 2^32 valid, 2^32+1 gives 1
    ∷ eqb (built_number (build_memory false (up_to (2 ^ 32)) 0)) 0
    ∷ eqb (built_number (build_memory false (up_to (2 ^ 32 + 1)) 0)) 1
    -- P6: 64-bit, exponent 16, minimum 2^48: valid type, creation gives 2
    ∷ eqb (built_number (build_memory true (at_least (2 ^ 48)) 16)) 0
    ∷ same (answered_at raw_bytes 64 (Operation.NewMemory 0 (record { wide = true; limits = at_least (2 ^ 48); exponent = 16 }) ∷ [])) (2 ∷ 0 ∷ [])
    -- P7: init of length 0 at the size passes, one further 13
    ∷ same (answered_at raw_bytes 64 (table_and_segment ++ (init 2 ∷ init 3 ∷ []))) (0 ∷ 0 ∷ 0 ∷ 0 ∷ 0 ∷ 0 ∷ 13 ∷ 0 ∷ [])
    -- P8: B 0, fuel 5: copy of length 0 gives 7 with 2^64-1, init of length 0 passes
    ∷ same
    (answered_at raw_bytes 0
    (Operation.Fuel (FuelOp.SetFuel 5) ∷ (table_and_segment ++ (Operation.TableCopy 0 0 (record { to = 0; from = 0; len = 0 }) ∷ init 0 ∷ []))))
    (0 ∷ 0 ∷ 0 ∷ 0 ∷ 0 ∷ 0 ∷ 7 ∷ (2 ^ 64 - 1) ∷ 0 ∷ 0 ∷ [])
    -- P9: byte ff: i32 from 8s is -1, i64 from 8u is 255
    ∷ same (answered_at raw_bytes 64 (byte_ff ++ (loads LoadKind.I32From8S 0 0 ∷ loads LoadKind.I64From8U 0 0 ∷ [])))
    (0 ∷ 0 ∷ 0 ∷ 0 ∷ 0 ∷ (2 ^ 32 - 1) ∷ 0 ∷ 255 ∷ [])
    -- P10: pointer 2^64-1, offset 1: 9
    ∷ same (answered_at raw_bytes 64 (byte_ff ++ (loads LoadKind.I32From8U (2 ^ 64 - 1) 1 ∷ []))) (0 ∷ 0 ∷ 0 ∷ 0 ∷ 9 ∷ 0 ∷ [])
    -- P11: 32-bit table bound: 2^32-2 plus 1 passes, plus 2 gives 6
    ∷ same (grown_by 1) (0 ∷ (2 ^ 32 - 2) ∷ [])
    ∷ same (grown_by 2) (6 ∷ 0 ∷ [])
    ∷ []
