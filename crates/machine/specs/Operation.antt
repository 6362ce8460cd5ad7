-- Document 01, "Operation lines": what an operation can still say wrongly where every field has its type (18).
use Rattle.std.specs.Prelude.{ℕ, zero, suc, ◌-◌, ◌/◌, ◌%◌, Bool, true, false, List, [], ◌∷◌, ◌++◌, eqb, leb, ltb, take}
use Rattle.types.specs.Names.{word32, pick, both, longest_script, CopySpan}
use Rattle.memory.specs.Names.{StoreKind}
use Rattle.machine.specs.declared.operation.{Script.Script, Items.Items, FuelOp.FuelOp, MemoryOp.MemoryOp, Operation.Operation}

-- the n hexadecimal digits of a number, the highest first
unfoldable pub digits_of : ℕ → ℕ → List ℕ
digits_of zero d = []
digits_of (suc n) d = digits_of n (d / 16) ++ (d % 16 ∷ [])

-- the largest digit where so many answers are left: an answer is 0, 1 or 2
unfoldable pub most_of : ℕ → ℕ
most_of left = pick (eqb left 0) 0 2

-- the first n digits are answers, the rest 0
unfoldable pub leading : ℕ → List ℕ → Bool
leading n [] = true
leading n (d ∷ ds) = both (leb d (most_of n)) (leading (n - 1) ds)

-- a script has at most 16 answers as leading digits, the rest 0
unfoldable pub script_fields : Script → Bool
script_fields s = both (leb s.count longest_script) (leading s.count (digits_of 16 s.digits))

-- the answers of a script: the leftmost digit is the first
abbrev pub script_of : Script → List ℕ
script_of s = take s.count (digits_of 16 s.digits)

-- an item past the count is 0
unfoldable pub item_field : ℕ → ℕ → ℕ → Bool
item_field count place item = pick (leb count place) (eqb item 0) true

-- a segment has at most 4 items, the places past them 0
unfoldable pub item_fields : Items → Bool
item_fields i =
    both (leb i.count 4)
    (both (item_field i.count 0 i.first)
    (both (item_field i.count 1 i.second)
    (both (item_field i.count 2 i.third) (item_field i.count 3 i.fourth))))

-- a segment's items
abbrev pub items_of : Items → List ℕ
items_of i = take i.count (i.first ∷ i.second ∷ i.third ∷ i.fourth ∷ [])

-- store kinds whose value has 32 bits
unfoldable pub narrow_store : StoreKind → Bool
narrow_store StoreKind.I32 = true
narrow_store StoreKind.I64 = false
narrow_store StoreKind.F32 = true
narrow_store StoreKind.F64 = false
narrow_store StoreKind.I32To8 = true
narrow_store StoreKind.I32To16 = true
narrow_store StoreKind.I64To8 = false
narrow_store StoreKind.I64To16 = false
narrow_store StoreKind.I64To32 = false

-- a 32-bit store's value stays below 2^32
unfoldable pub store_fields : StoreKind → ℕ → Bool
store_fields kind bits = pick (narrow_store kind) (ltb bits word32) true

-- an init's from and length stay below 2^32
unfoldable pub init_fields : CopySpan → Bool
init_fields s = both (ltb s.from word32) (ltb s.len word32)

-- of fuel and limiter
unfoldable pub fuel_well_formed : FuelOp → Bool
fuel_well_formed (FuelOp.SetFuel amount) = true
fuel_well_formed FuelOp.GetFuel = true
fuel_well_formed (FuelOp.Charge units) = true
fuel_well_formed (FuelOp.SetLimiter script) = script_fields script

-- of one memory
unfoldable pub memory_well_formed : MemoryOp → Bool
memory_well_formed (MemoryOp.Grow pages) = true
memory_well_formed MemoryOp.Size = true
memory_well_formed (MemoryOp.Load kind pointer offset) = true
memory_well_formed (MemoryOp.Store kind pointer offset bits) = store_fields kind bits
memory_well_formed (MemoryOp.LinkCheck wanted) = true

-- the operation says nothing wrong
unfoldable pub well_formed : Operation → Bool
well_formed (Operation.Fuel o) = fuel_well_formed o
well_formed (Operation.NewMemory room wanted) = true
well_formed (Operation.Memory number o) = memory_well_formed o
well_formed (Operation.NewTable room wanted initial) = true
well_formed (Operation.Table number o) = true
well_formed (Operation.TableCopy into source span) = true
well_formed (Operation.TableInit table segment span) = init_fields span
well_formed (Operation.DropSegment segment) = true
well_formed (Operation.NewSegment element items) = item_fields items
