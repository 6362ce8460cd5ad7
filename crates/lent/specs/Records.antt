-- Document 01, "The machine": records stand in lent lists, and the fuel record is lent and charged where it stands. One operation on all that is lent.
use Rattle.std.specs.Prelude.{ℕ, Bool, List, ◌≡◌, ◌++◌, leb, length, take, drop}
use Rattle.types.specs.Names.{unless, both, refuse, Answer, Fuel}
use Rattle.memory.specs.Names.{Memory}
use Rattle.table.specs.Names.{Table, ElementSegment}
use Rattle.machine.specs.Names.{capacity, Buffers, buffers, well_formed, step, Machine, Operation}
use Rattle.lent.specs.declared.operate.Standing.{Standing}

-- what is lent beside the buffers: three lists of records, the numbers in use with the limiter, and the fuel record
pub record Lent : Type 0 where
  pub memories : List Memory
  pub tables : List Table
  pub segments : List ElementSegment
  pub standing : Standing
  pub fuel : Fuel

-- these lists and records, lent
abbrev pub lent : List Memory → List Table → List ElementSegment → Standing → Fuel → Lent
lent ms ts gs s f = record { memories = ms; tables = ts; segments = gs; standing = s; fuel = f }

-- the machine of these records
abbrev pub gathered : List Memory → List Table → List ElementSegment → Standing → Fuel → Machine
gathered ms ts gs s f =
    record { memories = ms; tables = ts; segments = gs; counts = s.counts; fuel = f; limiter = s.limiter }

-- the machine of the first 8 places of each list
abbrev pub machine_of : Lent → Machine
machine_of l =
    gathered (take capacity l.memories) (take capacity l.tables) (take capacity l.segments) l.standing l.fuel

-- each list has 8 places at least
unfoldable pub long_enough : ℕ → ℕ → ℕ → Bool
long_enough memories tables segments = both (leb capacity memories) (both (leb capacity tables) (leb capacity segments))

-- the lent lists have their places
abbrev pub placed : Lent → Bool
placed l = long_enough (length l.memories) (length l.tables) (length l.segments)

-- records in the first 8 places, all further places as before
abbrev pub in_front : {A : Type 0} → List A → List A → List A
in_front records list = records ++ drop capacity list

-- what is lent, with the machine's records in the first 8 places
abbrev pub lent_back : Machine → Lent → Lent
lent_back m l =
    lent (in_front m.memories l.memories) (in_front m.tables l.tables) (in_front m.segments l.segments)
    (record { counts = m.counts; limiter = m.limiter }) m.fuel

-- an operation's answer, and what is lent and the buffers after it
pub record LentStepped : Type 0 where
  pub answer : Answer
  pub lent : Lent
  pub buffers : Buffers

-- an answer with what is lent and the buffers
abbrev pub lent_stepped : Answer → Lent → Buffers → LentStepped
lent_stepped a l b = record { answer = a; lent = l; buffers = b }

-- lists with fewer places are unsound (19); 18 comes first
unfoldable pub unfit : Operation → Answer
unfit op = unless (well_formed op) (refuse 18 0) (refuse 19 0)

-- where each list has its places: the machine's step
unfoldable pub step_placed : ℕ → Lent → Buffers → Operation → LentStepped
step_placed r l b op =
    let s = step r (machine_of l) b op in
    lent_stepped s.answer (lent_back s.machine l) s.buffers

-- one operation on all that is lent
unfoldable pub lent_step : ℕ → Lent → Buffers → Operation → LentStepped
lent_step r l b op = unless (placed l) (lent_stepped (unfit op) l b) (step_placed r l b op)

-- all that an operation on lent lists promises: its answer, and each list, record and buffer after it, are the step's
abbrev pub Operates : ℕ → Lent → Buffers → Operation → Answer → List Memory → List Table → List ElementSegment → Standing → Fuel → List ℕ → List ℕ → List ℕ → Type 0
Operates r l b op a ms ts gs s f bytes cells items =
    lent_stepped a (lent ms ts gs s f) (buffers bytes cells items) ≡ lent_step r l b op
