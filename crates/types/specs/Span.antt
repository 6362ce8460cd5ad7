-- Spans of cells, over cells of any size: WebAssembly Core Specification 3.0, Execution, Instructions (the bounds of memory and table instructions).
use Rattle.std.specs.Prelude.{ℕ, ◌+◌, Bool, List, ◌++◌, leb, length, take, drop}

-- len cells from start on lie within size cells: the sum is exact
unfoldable pub inside : ℕ → ℕ → ℕ → Bool
inside start len size = leb (start + len) size

-- the n cells from a on
unfoldable pub cut : List ℕ → ℕ → ℕ → List ℕ
cut cells a n = take n (drop a cells)

-- the cells with those from a on replaced by vs
unfoldable pub over : List ℕ → ℕ → List ℕ → List ℕ
over cells a vs = take a cells ++ (vs ++ drop (a + length vs) cells)
