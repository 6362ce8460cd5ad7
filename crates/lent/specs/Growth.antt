-- Document 01, "Where each form goes": one record of a lent list is read and grown, and its new size stored; fuel and limiter are lent too.
use Rattle.std.specs.Prelude.{ℕ, Bool, List}
use Rattle.types.specs.Names.{unless, refuse, Answer, Fuel, Limiter}

-- what is lent to a growth, over the kind of record and of cell: the list of records, the buffer behind them, the fuel record and the limiter
pub record LendingOf (A C : Type 0) : Type 0 where
  pub records : List A
  pub cells : List C
  pub fuel : Fuel
  pub limiter : Limiter

-- over cells that are numbers
abbrev pub Lending : Type 0 → Type 0
Lending A = LendingOf A ℕ

-- a list, a buffer, a fuel record and a limiter, lent
abbrev pub lending : {A C : Type 0} → List A → List C → Fuel → Limiter → LendingOf A C
lending rs cs f l = record { records = rs; cells = cs; fuel = f; limiter = l }

-- an answer, and all that is lent after it
pub record GrewOf (A C : Type 0) : Type 0 where
  pub answer : Answer
  pub lent : LendingOf A C

-- over cells that are numbers
abbrev pub Grew : Type 0 → Type 0
Grew A = GrewOf A ℕ

-- an answer with what is lent
abbrev pub grew : {A C : Type 0} → Answer → LendingOf A C → GrewOf A C
grew a l = record { answer = a; lent = l }

-- first check wins: 19 where the list is unsound, 16 where the number is unknown, and then nothing changes
unfoldable pub grow_at : {A C : Type 0} → Bool → Bool → LendingOf A C → GrewOf A C → GrewOf A C
grow_at sound known l g = unless sound (grew (refuse 19 0) l) (unless known (grew (refuse 16 0) l) g)
