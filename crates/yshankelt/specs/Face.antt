-- Document 01, "Access" and "Numbers given back": what C gets of an answer. The number is the result; a refusal leaves the out parameter alone.
use Rattle.std.specs.Prelude.{ℕ, ◌≡◌, List, Ok, Err}
use Rattle.types.specs.Names.{bits_of, number_of, Done, Answer}

-- the value's bits, or what stood there
unfoldable pub delivered : Answer → ℕ → ℕ
delivered (Ok v) old = bits_of v
delivered (Err r) old = old

-- of a load: the number, and the out parameter after it
pub record Given (a : Answer) (old result new : ℕ) : Type 0 where
  pub number : result ≡ number_of a
  pub out : new ≡ delivered a old

-- of a store: the number, and the bytes after it
pub record Taken (s : Done Answer) (result : ℕ) (new : List ℕ) : Type 0 where
  pub number : result ≡ number_of s.out
  pub bytes : new ≡ s.cells
