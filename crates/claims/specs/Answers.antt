-- Document 01, "Numbers given back": an answer is either a value or a refusal with its number; amounts other than for 7 are 0.
use Rattle.std.specs.Prelude.{ℕ, Bool, true, false, List, [], ◌∷◌, eqb, leb, Ok, Err}
use Rattle.types.specs.Names.{pick, both, number_of, Refusal, Answer}

-- an answer that is a value
unfoldable pub accepted : Answer → Bool
accepted (Ok v) = true
accepted (Err r) = false

-- the list's refusals are numbered 1 to 19, and only 7 has an amount
unfoldable pub listed : Refusal → Bool
listed r = both (both (leb 1 r.number) (leb r.number 19)) (pick (eqb r.number 7) true (eqb r.amount 0))

-- a value, or a refusal of the list
unfoldable pub value_or_listed : Answer → Bool
value_or_listed (Ok v) = true
value_or_listed (Err r) = listed r

-- no answer of a list has this number
unfoldable pub never : ℕ → List Answer → Bool
never number [] = true
never number (a ∷ more) = pick (eqb (number_of a) number) false (never number more)
