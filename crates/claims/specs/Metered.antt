-- Document 01, "Fuel" and "First check wins": which operations meet the fuel step, the bytes and the price of each, and which pass it.
-- "Numbers given back", and demand 1: what a refusal leaves, and the fuel that it takes.
use Rattle.std.specs.Prelude.{ℕ, ◌*◌, ◌≡◌, Bool, true, false, eqb, leb, ltb}
use Rattle.types.specs.Names.{pick, both, price, paid, number_of, no_limiter, says_of, page_bytes}
use Rattle.machine.specs.Names.{Buffers, memory_at, metered, Stepped, step, Machine, Operation, MemoryOp, TableOp}
use Rattle.claims.specs.Answers.{accepted}

-- what an operation has to do with the fuel step: the pages or cells that it grows by, whether it meets the step, and its byte length
pub record Metering : Type 0 where
  pub more : ℕ
  pub meets : Bool
  pub bytes : ℕ

-- nothing
abbrev pub free : Metering
free = record { more = 0; meets = false; bytes = 0 }

-- a growth by n of so many bytes each: but for one by 0 it meets the step
abbrev pub growth : ℕ → ℕ → Metering
growth n each = record { more = n; meets = ltb 0 n; bytes = n * each }

-- of one memory, by the bytes of its page
unfoldable pub memory_metering : ℕ → MemoryOp → Metering
memory_metering page (MemoryOp.Grow pages) = growth pages page
memory_metering page MemoryOp.Size = free
memory_metering page (MemoryOp.Load kind pointer offset) = free
memory_metering page (MemoryOp.Store kind pointer offset bits) = free
memory_metering page (MemoryOp.LinkCheck wanted) = free

-- of one table: a reference counts R bytes
unfoldable pub table_metering : ℕ → TableOp → Metering
table_metering r (TableOp.Grow cells value) = growth cells r
table_metering r TableOp.Size = free
table_metering r (TableOp.Get index) = free
table_metering r (TableOp.Set index value) = free
table_metering r (TableOp.Fill start value len) = record { more = 0; meets = true; bytes = len * r }

-- of any operation, by the bytes of a page of each memory; of the inits one of length 0 does not meet the step
unfoldable pub metering_of : ℕ → (ℕ → ℕ) → Operation → Metering
metering_of r page (Operation.Fuel o) = free
metering_of r page (Operation.NewMemory room wanted) = free
metering_of r page (Operation.Memory number o) = memory_metering (page number) o
metering_of r page (Operation.NewTable room wanted initial) = free
metering_of r page (Operation.Table number o) = table_metering r o
metering_of r page (Operation.TableCopy into source span) = record { more = 0; meets = true; bytes = span.len * r }
metering_of r page (Operation.TableInit table segment span) = record { more = 0; meets = ltb 0 span.len; bytes = span.len * r }
metering_of r page (Operation.DropSegment segment) = free
metering_of r page (Operation.NewSegment element items) = free

-- of any operation on a machine
abbrev pub metering : ℕ → Machine → Operation → Metering
metering r m op = metering_of r (λ i. page_bytes (memory_at m i).ty.page) op

-- the price of its byte length
abbrev pub price_of : ℕ → Machine → Operation → ℕ
price_of r m op = price m.fuel.costs.copied (metering r m op).bytes

-- what is left pays a price; with metering off every price is paid
unfoldable pub affords : Machine → ℕ → Bool
affords m p = pick m.fuel.enabled (leb p m.fuel.remaining) true

-- the limiter's answer to a question: neither no nor its own error
unfoldable pub grants : ℕ → Bool
grants said = pick (eqb said 1) false (pick (eqb said 2) false true)

-- a growth that paid and is refused: at 8, or at 4 in the notice after 8, that is, the limiter granted it, and without a limiter the answer is 8
unfoldable pub paid_refusal : ℕ → Machine → Buffers → Operation → Bool
paid_refusal r m b op =
    let number = number_of (step r m b op).answer in
    let quiet = number_of (step r (metered m m.fuel no_limiter) b op).answer in
    both (ltb 0 (metering r m op).more) (pick (eqb number 8) true (both (eqb number 4) (both (grants (says_of m.limiter)) (eqb quiet 8))))

-- it passes the fuel step: accepted, or refused after it had paid
unfoldable pub passes : ℕ → Machine → Buffers → Operation → Bool
passes r m b op = both (metering r m op).meets (pick (accepted (step r m b op).answer) true (paid_refusal r m b op))

-- what a refusal leaves
pub record Leaves (r : ℕ) (m : Machine) (b : Buffers) (op : Operation) (s : Stepped) : Type 0 where
  -- every record with its size and room, every segment and every instance number is as before
  pub records : s.machine ≡ metered m s.machine.fuel s.machine.limiter
  -- and so is every cell
  pub cells : s.buffers ≡ b
  -- fuel falls only at 8, or at 4 in the notice after 8, and then by exactly the price
  pub fuel : s.machine.fuel ≡ pick (paid_refusal r m b op) (paid m.fuel (price_of r m op)) m.fuel
