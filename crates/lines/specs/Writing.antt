-- Document 01, "Operation lines", the way back: an operation's code and fields, and its line of text.
use Rattle.std.specs.Prelude.{ℕ, Bool, List, [], ◌∷◌}
use Rattle.machine.specs.Names.{items_of, FuelOp, MemoryOp, TableOp, Operation}
use Rattle.lines.specs.Line.{line_text}
use Rattle.lines.specs.Fields.{flag, kind_number, load_number, store_number, reference_fields, memory_fields, table_fields}

-- a code and fields
pub record Numbers : Type 0 where
  pub code : ℕ
  pub fields : List ℕ

-- both together
abbrev pub numbers : ℕ → List ℕ → Numbers
numbers code fields = record { code = code; fields = fields }

-- those of an operation
unfoldable pub numbers_of : Operation → Numbers
numbers_of (Operation.Fuel (FuelOp.SetFuel amount)) = numbers 0x01 (amount ∷ [])
numbers_of (Operation.Fuel FuelOp.GetFuel) = numbers 0x02 []
numbers_of (Operation.Fuel (FuelOp.Charge units)) = numbers 0x03 (units ∷ [])
numbers_of (Operation.Fuel (FuelOp.SetLimiter script)) = numbers 0x04 (script.count ∷ script.digits ∷ [])
numbers_of (Operation.NewMemory room wanted) = numbers 0x10 (room ∷ memory_fields wanted)
numbers_of (Operation.Memory n (MemoryOp.Grow pages)) = numbers 0x11 (n ∷ pages ∷ [])
numbers_of (Operation.Memory n MemoryOp.Size) = numbers 0x12 (n ∷ [])
numbers_of (Operation.Memory n (MemoryOp.Load kind pointer offset)) = numbers 0x13 (n ∷ load_number kind ∷ pointer ∷ offset ∷ [])
numbers_of (Operation.Memory n (MemoryOp.Store kind pointer offset bits)) = numbers 0x14 (n ∷ store_number kind ∷ pointer ∷ offset ∷ bits ∷ [])
numbers_of (Operation.Memory n (MemoryOp.LinkCheck wanted)) = numbers 0x30 (n ∷ memory_fields wanted)
numbers_of (Operation.NewTable room wanted initial) = numbers 0x20 (room ∷ table_fields wanted initial)
numbers_of (Operation.Table n (TableOp.Grow cells value)) = numbers 0x21 (n ∷ cells ∷ reference_fields value)
numbers_of (Operation.Table n TableOp.Size) = numbers 0x22 (n ∷ [])
numbers_of (Operation.Table n (TableOp.Get index)) = numbers 0x23 (n ∷ index ∷ [])
numbers_of (Operation.Table n (TableOp.Set index value)) = numbers 0x24 (n ∷ index ∷ reference_fields value)
numbers_of (Operation.Table n (TableOp.Fill start value len)) = numbers 0x25 (n ∷ start ∷ kind_number value.ty ∷ value.raw.bits ∷ len ∷ [])
numbers_of (Operation.TableCopy into source span) = numbers 0x26 (into ∷ span.to ∷ source ∷ span.from ∷ span.len ∷ [])
numbers_of (Operation.TableInit table segment span) = numbers 0x27 (table ∷ segment ∷ span.to ∷ span.from ∷ span.len ∷ [])
numbers_of (Operation.DropSegment segment) = numbers 0x28 (segment ∷ [])
numbers_of (Operation.NewSegment element items) = numbers 0x29 (kind_number element ∷ items.count ∷ items_of items)

-- an operation as a line of text
unfoldable pub write_line : Operation → List ℕ
write_line op = line_text (numbers_of op).code (numbers_of op).fields

-- the making of a machine as a line of text
unfoldable pub write_making : Bool → ℕ → List ℕ
write_making metering copied = line_text 0x00 (flag metering ∷ copied ∷ [])
