-- Document 01, "First check wins", "Access" and "Types", read from the other side: when each operation is accepted.
use Rattle.std.specs.Prelude.{ℕ, ◌+◌, ◌-◌, Bool, true, false, eqb, leb, ltb, length}
use Rattle.types.specs.Names.{word64, pick, both, inside, says_of, well_formed as well_formed_script, max_size, admits_of, valid_exponent, valid_memory}
use Rattle.types.specs.Names.{valid_table, element_matches, WantedMemory, CopySpan}
use Rattle.memory.specs.Names.{width_bytes, load_width, store_width, pages_of, wanted as type_of, least_bytes as least_of, may_have, grown_size, Memory}
use Rattle.table.specs.Names.{wanted as table_type_of, Table}
use Rattle.machine.specs.Names.{capacity, Buffers, memory_at, table_at, segment_at, next_byte, next_cell, next_item, sound_over, script_of, items_of, well_formed}
use Rattle.machine.specs.Names.{Machine, Operation, FuelOp, MemoryOp, TableOp}
use Rattle.claims.specs.Metered.{price_of, affords, grants}

-- an operation's checks: all of them, or those before the limiter's question and those after its grant
pub data Checks : Type 0 where
  Unasked : Bool → Checks
  Asked : Bool → Bool → Checks

-- with one more before them
unfoldable pub given : Bool → Checks → Checks
given t (Unasked all) = Unasked (both t all)
given t (Asked first later) = Asked (both t first) later

-- all of them hold, the limiter's grant too where it is asked
unfoldable pub holds : Bool → Checks → Bool
holds grant (Unasked all) = all
holds grant (Asked first later) = both first (both grant later)

-- they come to the limiter's question: there is one, and all before it hold
unfoldable pub comes : Checks → Bool
comes (Unasked all) = false
comes (Asked first later) = first

-- the limiter grants what it is asked
abbrev pub granted : Machine → Bool
granted m = grants (says_of m.limiter)

-- a memory type that is asked for is valid
unfoldable pub valid_wanted : WantedMemory → Bool
valid_wanted w = both (valid_exponent w.exponent) (valid_memory (type_of w))

-- n bytes at pointer plus offset lie in a memory
unfoldable pub reaches : Memory → ℕ → ℕ → ℕ → Bool
reaches x pointer offset n = both (ltb (pointer + offset) word64) (inside (pointer + offset) n x.size)

-- 01 to 04: metering is on, and a charge is there; a script is well formed
unfoldable pub fuel_occasion : Machine → FuelOp → Bool
fuel_occasion m (FuelOp.SetFuel amount) = m.fuel.enabled
fuel_occasion m FuelOp.GetFuel = m.fuel.enabled
fuel_occasion m (FuelOp.Charge units) = both m.fuel.enabled (leb units m.fuel.remaining)
fuel_occasion m (FuelOp.SetLimiter script) = well_formed_script (script_of script)

-- 11 to 14 and 30, of a memory in use, where the price is there or not. 11: by 0 always; else the bounds allow the pages, granted, paid and in the room
unfoldable pub memory_checks : Memory → Bool → MemoryOp → Checks
memory_checks x pays (MemoryOp.Grow pages) =
    pick (eqb pages 0) (Unasked true) (Asked (may_have x.ty (pages_of x + pages)) (both pays (leb (grown_size x pages) x.room)))
memory_checks x pays MemoryOp.Size = Unasked true
memory_checks x pays (MemoryOp.Load kind pointer offset) = Unasked (reaches x pointer offset (width_bytes (load_width kind)))
memory_checks x pays (MemoryOp.Store kind pointer offset bits) = Unasked (reaches x pointer offset (width_bytes (store_width kind)))
memory_checks x pays (MemoryOp.LinkCheck wanted) = Unasked (valid_wanted wanted)

-- 21 to 25, of a table in use: a reference is of its kind. 21: by 0 or below the index type's largest size, granted, within the maximum, paid and in the room
unfoldable pub table_checks : Table → Bool → TableOp → Checks
table_checks x pays (TableOp.Grow cells value) =
    given (element_matches x.ty value.ty)
    (pick (eqb cells 0) (Unasked true)
    (Asked (ltb (x.size + cells) (max_size x.ty.index))
    (both (admits_of x.ty.limits (x.size + cells)) (both pays (leb (x.size + cells) x.room)))))
table_checks x pays TableOp.Size = Unasked true
table_checks x pays (TableOp.Get index) = Unasked (ltb index x.size)
table_checks x pays (TableOp.Set index value) = Unasked (both (element_matches x.ty value.ty) (ltb index x.size))
table_checks x pays (TableOp.Fill start value len) = Unasked (both (element_matches x.ty value.ty) (both (inside start len x.size) pays))

-- 26 and 27: both in use, of one kind, inside both, and paid
abbrev pub moves : Bool → Bool → CopySpan → ℕ → ℕ → Bool → Bool
moves used kind s into source pays =
    both used (both kind (both (both (inside s.to s.len into) (inside s.from s.len source)) pays))

-- of any operation, on a sound machine, with nothing said wrongly. 10 and 20: a number and the room are free, the type is valid, 10's minimum is below 2^64
-- bytes, 20's initial reference of its kind, granted, and it fits the room. 27 pays nothing where its length is 0
unfoldable pub checks_of : Machine → Buffers → Bool → Operation → Checks
checks_of m b pays (Operation.Fuel o) = Unasked (fuel_occasion m o)
checks_of m b pays (Operation.NewMemory room wanted) =
    Asked
    (both (both (ltb m.counts.memories capacity) (leb room (length b.bytes - next_byte m))) (both (valid_wanted wanted) (ltb (least_of wanted) word64)))
    (leb (least_of wanted) room)
checks_of m b pays (Operation.Memory number o) = given (ltb number m.counts.memories) (memory_checks (memory_at m number) pays o)
checks_of m b pays (Operation.NewTable room wanted initial) =
    Asked
    (both (both (ltb m.counts.tables capacity) (leb room (length b.cells - next_cell m)))
    (both (valid_table (table_type_of wanted)) (element_matches (table_type_of wanted) initial.ty)))
    (leb wanted.limits.minimum room)
checks_of m b pays (Operation.Table number o) = given (ltb number m.counts.tables) (table_checks (table_at m number) pays o)
checks_of m b pays (Operation.TableCopy into source span) =
    let x = table_at m into in
    let y = table_at m source in
    Unasked
    (moves (both (ltb into m.counts.tables) (ltb source m.counts.tables)) (element_matches x.ty y.ty.element) span x.size y.size pays)
checks_of m b pays (Operation.TableInit table segment span) =
    let x = table_at m table in
    let y = segment_at m segment in
    Unasked
    (moves (both (ltb table m.counts.tables) (ltb segment m.counts.segments)) (element_matches x.ty y.ty) span x.size y.size
    (pick (eqb span.len 0) true pays))
checks_of m b pays (Operation.DropSegment segment) = Unasked (ltb segment m.counts.segments)
checks_of m b pays (Operation.NewSegment element items) =
    Unasked (both (ltb m.counts.segments capacity) (leb (length (items_of items)) (length b.items - next_item m)))

-- where the price is there if what is left pays it
abbrev pub checks : ℕ → Machine → Buffers → Operation → Checks
checks r m b op = checks_of m b (affords m (price_of r m op)) op

-- all of them hold
abbrev pub occasion : ℕ → Machine → Buffers → Operation → Bool
occasion r m b op = holds (granted m) (checks r m b op)

-- they come to the limiter's question
abbrev pub question : ℕ → Machine → Buffers → Operation → Bool
question r m b op = comes (checks r m b op)

-- nothing said wrongly, records and buffers sound, and the operation's own occasion
abbrev pub accepted_when : ℕ → Machine → Buffers → Operation → Bool
accepted_when r m b op = both (well_formed op) (both (sound_over m b) (occasion r m b op))
