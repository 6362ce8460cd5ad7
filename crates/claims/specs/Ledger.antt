-- Demand 3's ledger: the amount last set and the charges since, from the operations, their answers and the limiter's alone.
use Rattle.std.specs.Prelude.{ℕ, ◌+◌, ◌-◌, ◌^◌, Bool, true, List, [], ◌∷◌, ◌++◌, eqb, leb, ltb, length, get_or, set}
use Rattle.types.specs.Names.{pick, both, price, number_of, admits_of, Answer, Limits}
use Rattle.machine.specs.Names.{Buffers, no_limits, step, Machine, Operation, FuelOp}
use Rattle.claims.specs.{Answers.accepted, Metered.Metering, Metered.table_metering, Metered.metering_of, Script.heard, Script.says_to}

-- what the accepted creations and growths say of a table: its limits as asked for, and its size
pub record Row : Type 0 where
  pub limits : Limits
  pub size : ℕ

-- the amount last set, the charges since, the bytes of a page of each memory made so far, and the tables
pub record Book : Type 0 where
  pub set : ℕ
  pub since : ℕ
  pub pages : List ℕ
  pub tables : List Row

-- nothing entered
abbrev pub blank : Book
blank = record { set = 0; since = 0; pages = []; tables = [] }

-- with more charges
abbrev pub charged : Book → ℕ → Book
charged k n = record { set = k.set; since = k.since + n; pages = k.pages; tables = k.tables }

-- with other tables
abbrev pub with_tables : Book → List Row → Book
with_tables k rows = record { set = k.set; since = k.since; pages = k.pages; tables = rows }

-- the row of a table
abbrev pub row_at : Book → ℕ → Row
row_at k i = get_or k.tables i (record { limits = no_limits; size = 0 })

-- a growth refused with 4 had paid where the limiter answered twice (it granted, and was told), the type admits the size and what is left paid the price
unfoldable pub erred : Book → List ℕ → Bool → ℕ → Bool
erred k said admits p = both (eqb (length said) 2) (both admits (leb p (k.set - k.since)))

-- what a growth took: its price where it is accepted, at 8, and at 4 in the notice after 8
unfoldable pub growth_charge : Book → Answer → List ℕ → Bool → ℕ → ℕ
growth_charge k a said admits p =
    pick (accepted a) p
    (pick (eqb (number_of a) 8) p (pick (both (eqb (number_of a) 4) (erred k said admits p)) p 0))

-- what the fuel step took of one that meets it: of a growth that, of any other its price where it is accepted
unfoldable pub took : ℕ → Book → Metering → Bool → Answer → List ℕ → ℕ
took b k x admits a said =
    let p = price b x.bytes in
    pick x.meets (pick (ltb 0 x.more) (growth_charge k a said admits p) (pick (accepted a) p 0)) 0

-- an operation's metering, by the pages that the book has
abbrev pub meters_by : ℕ → Book → Operation → Metering
meters_by r k op = metering_of r (λ i. get_or k.pages i 0) op

-- the book after what it took
abbrev pub takes : ℕ → Book → Metering → Bool → Answer → List ℕ → Book
takes b k x admits a said = charged k (took b k x admits a said)

-- an accepted 01 or 03
unfoldable pub fuel_entry : Book → FuelOp → Book
fuel_entry k (FuelOp.SetFuel amount) = record { set = amount; since = 0; pages = k.pages; tables = k.tables }
fuel_entry k FuelOp.GetFuel = k
fuel_entry k (FuelOp.Charge units) = charged k units
fuel_entry k (FuelOp.SetLimiter script) = k

-- an accepted operation on a table: it has so many cells more
abbrev pub grown : Book → Book → ℕ → ℕ → Book
grown k now i n = with_tables now (set k.tables i (record { limits = (row_at k i).limits; size = (row_at k i).size + n }))

-- the book after one operation, from its answer and the limiter's answers to its question and notice: a creation adds the bytes of a page, or a table
unfoldable pub entry : ℕ → ℕ → Book → Operation → Answer → List ℕ → Book
entry r b k (Operation.Fuel o) a said = pick (accepted a) (fuel_entry k o) k
entry r b k (Operation.NewMemory room wanted) a said =
    pick (accepted a) (record { set = k.set; since = k.since; pages = k.pages ++ (2 ^ wanted.exponent ∷ []); tables = k.tables }) k
entry r b k (Operation.Memory number o) a said = takes b k (meters_by r k (Operation.Memory number o)) true a said
entry r b k (Operation.NewTable room wanted initial) a said =
    pick (accepted a) (with_tables k (k.tables ++ (record { limits = wanted.limits; size = wanted.limits.minimum } ∷ []))) k
entry r b k (Operation.Table number o) a said =
    let n = (table_metering r o).more in
    let now = takes b k (meters_by r k (Operation.Table number o)) (admits_of (row_at k number).limits ((row_at k number).size + n)) a said in
    pick (accepted a) (grown k now number n) now
entry r b k (Operation.TableCopy into source span) a said = takes b k (meters_by r k (Operation.TableCopy into source span)) true a said
entry r b k (Operation.TableInit table segment span) a said = takes b k (meters_by r k (Operation.TableInit table segment span)) true a said
entry r b k (Operation.DropSegment segment) a said = k
entry r b k (Operation.NewSegment element items) a said = k

-- the limiter's answers in a run: of each operation those to its question and notice, none where it does not ask
unfoldable pub limiter_says : ℕ → Machine → Buffers → List Operation → List (List ℕ)
limiter_says r m b [] = []
limiter_says r m b (op ∷ ops) = says_to (heard r m b op) m.limiter ∷ limiter_says r (step r m b op).machine (step r m b op).buffers ops

-- the whole book: R, B, the operations, their answers and the limiter's, and nothing of the machine
unfoldable pub book : ℕ → ℕ → Book → List Operation → List Answer → List (List ℕ) → Book
book r b k [] answers said = k
book r b k (op ∷ ops) [] said = k
book r b k (op ∷ ops) (a ∷ answers) [] = k
book r b k (op ∷ ops) (a ∷ answers) (s ∷ said) = book r b (entry r b k op a s) ops answers said
