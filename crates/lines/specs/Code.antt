-- Document 01, "Operation lines": what a line says, by its code, its number of fields and their ranges. Codes are hexadecimal, as in the text.
use Rattle.std.specs.Prelude.{ℕ, ◌+◌, min, Bool, true, List, leb, ltb, eqb, Option, Some, None}
use Rattle.types.specs.Names.{word32, pick, both, WantedMemory, WantedTable, CopySpan}
use Rattle.machine.specs.Names.{Items, FuelOp, MemoryOp, TableOp, Operation}
use Rattle.lines.specs.Fields.{binary, yes, kind_of, reference_of, limit_ranges, limits_of, load_kind_of, store_kind_of}
use Rattle.lines.specs.{Line.line_of, Line.at, declared.line.Line.Line, declared.code.Read.Read}

-- what a line of so many fields says where it should have n and they are in range; else it is malformed
unfoldable pub taken : ℕ → ℕ → Bool → Read → Option Read
taken count n ok x = pick (both (eqb count n) ok) (Some x) None

-- an operation of fuel and limiter
abbrev pub on_fuel : FuelOp → Read
on_fuel o = Read.Operation (Operation.Fuel o)

-- an operation of the memory whose number is the first field
abbrev pub on_memory : Line → MemoryOp → Read
on_memory w o = Read.Operation (Operation.Memory (at w 0) o)

-- an operation of the table whose number is the first field
abbrev pub on_table : Line → TableOp → Read
on_table w o = Read.Operation (Operation.Table (at w 0) o)

-- 10 and 30: a memory's type is behind the first field: 64-bit, has maximum, minimum, maximum, exponent (at most 255); their ranges
abbrev pub memory_in : Line → Bool
memory_in w = both (binary (at w 1)) (both (leb (at w 5) 255) (limit_ranges (at w 2) (at w 4)))

-- 10 and 30: that type
abbrev pub memory_of : Line → WantedMemory
memory_of w = record { wide = yes (at w 1); limits = limits_of (at w 2) (at w 3) (at w 4); exponent = min (at w 5) 255 }

-- 20: a table's type is behind the first field: kind, 64-bit, has maximum, minimum, maximum; their ranges, and that of the initial reference's kind
abbrev pub table_in : Line → Bool
table_in w = both (binary (at w 6)) (both (binary (at w 1)) (both (binary (at w 2)) (limit_ranges (at w 3) (at w 5))))

-- 20: that type
abbrev pub table_of : Line → WantedTable
table_of w = record { element = kind_of (at w 1); wide = yes (at w 2); limits = limits_of (at w 3) (at w 4) (at w 5) }

-- 29: a count, then items
abbrev pub items_from : Line → Items
items_from w = record { count = at w 1; first = at w 2; second = at w 3; third = at w 4; fourth = at w 5 }

-- a span: to, from, length
abbrev pub span_of : ℕ → ℕ → ℕ → CopySpan
span_of to from len = record { to = to; from = from; len = len }

-- what a line of code k and n fields says; 00 has B below 2^32, 29 at most 4 items
unfoldable pub by_code : ℕ → ℕ → Line → Option Read
by_code k n w =
    pick (eqb k 0x00) (taken n 2 (both (ltb (at w 1) word32) (binary (at w 0))) (Read.Making (yes (at w 0)) (at w 1)))
    (pick (eqb k 0x01) (taken n 1 true (on_fuel (FuelOp.SetFuel (at w 0))))
    (pick (eqb k 0x02) (taken n 0 true (on_fuel FuelOp.GetFuel))
    (pick (eqb k 0x03) (taken n 1 true (on_fuel (FuelOp.Charge (at w 0))))
    (pick (eqb k 0x04) (taken n 2 true (on_fuel (FuelOp.SetLimiter (record { count = at w 0; digits = at w 1 }))))
    (pick (eqb k 0x10) (taken n 6 (memory_in w) (Read.Operation (Operation.NewMemory (at w 0) (memory_of w))))
    (pick (eqb k 0x11) (taken n 2 true (on_memory w (MemoryOp.Grow (at w 1))))
    (pick (eqb k 0x12) (taken n 1 true (on_memory w MemoryOp.Size))
    (pick (eqb k 0x13) (taken n 4 (leb (at w 1) 13) (on_memory w (MemoryOp.Load (load_kind_of (at w 1)) (at w 2) (at w 3))))
    (pick (eqb k 0x14) (taken n 5 (leb (at w 1) 8) (on_memory w (MemoryOp.Store (store_kind_of (at w 1)) (at w 2) (at w 3) (at w 4))))
    (pick (eqb k 0x20) (taken n 8 (table_in w) (Read.Operation (Operation.NewTable (at w 0) (table_of w) (reference_of (at w 6) (at w 7)))))
    (pick (eqb k 0x21) (taken n 4 (binary (at w 2)) (on_table w (TableOp.Grow (at w 1) (reference_of (at w 2) (at w 3)))))
    (pick (eqb k 0x22) (taken n 1 true (on_table w TableOp.Size))
    (pick (eqb k 0x23) (taken n 2 true (on_table w (TableOp.Get (at w 1))))
    (pick (eqb k 0x24) (taken n 4 (binary (at w 2)) (on_table w (TableOp.Set (at w 1) (reference_of (at w 2) (at w 3)))))
    (pick (eqb k 0x25) (taken n 5 (binary (at w 2)) (on_table w (TableOp.Fill (at w 1) (reference_of (at w 2) (at w 3)) (at w 4))))
    (pick (eqb k 0x26) (taken n 5 true (Read.Operation (Operation.TableCopy (at w 0) (at w 2) (span_of (at w 1) (at w 3) (at w 4)))))
    (pick (eqb k 0x27) (taken n 5 true (Read.Operation (Operation.TableInit (at w 0) (at w 1) (span_of (at w 2) (at w 3) (at w 4)))))
    (pick (eqb k 0x28) (taken n 1 true (Read.Operation (Operation.DropSegment (at w 0))))
    (pick (eqb k 0x29) (taken n (2 + at w 1) (both (leb (at w 1) 4) (binary (at w 0))) (Read.Operation (Operation.NewSegment (kind_of (at w 0)) (items_from w))))
    (pick (eqb k 0x30) (taken n 6 (memory_in w) (on_memory w (MemoryOp.LinkCheck (memory_of w))))
    None))))))))))))))))))))

-- what a line's numbers say; where there is no line, nothing
unfoldable pub operation_of : Option Line → Option Read
operation_of (Some w) = by_code w.code w.count w
operation_of None = None

-- what a line of text says
unfoldable pub read_line : List ℕ → Option Read
read_line l = operation_of (line_of l)
