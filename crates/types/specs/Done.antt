-- What every operation that is lent a buffer leaves behind: memories, tables and element segments alike.
use Rattle.std.specs.Prelude.{ℕ, List}
use Rattle.types.specs.Answer.{Answer}
use Rattle.types.specs.declared.{fuel.Fuel.Fuel, grant.Spanned.Spanned}

-- a function's result, and the cells of the buffer that it is lent after it
pub record Done (A : Type 0) : Type 0 where
  pub out : A
  pub cells : List ℕ

-- a result with its cells
abbrev pub done : {A : Type 0} → A → List ℕ → Done A
done r cs = record { out = r; cells = cs }

-- the result of a fill, copy or init: an answer, and the fuel after it
abbrev pub span_of : Answer → Fuel → Spanned
span_of a f = record { answer = a; fuel = f }

-- such a result with its cells
abbrev pub span_done : Answer → Fuel → List ℕ → Done Spanned
span_done a f cs = done (span_of a f) cs
