-- Document 01, "Operation lines": what a host does with its input. What a piece left comes to the start before more is read; a last line may lack LF.
use Rattle.std.specs.Prelude.{ℕ, ◌+◌, Bool, true, List, [], ◌∷◌, eqb, leb, length, take, drop, set, Option, Some, None}
use Rattle.types.specs.Names.{pick, unless, over, Done, done}
use Rattle.lines.specs.{Line.lf, Pieces.Host, Pieces.fed}

-- what is left of an input's first `end` bytes from `from` on, nothing where they end before that, comes to the start, the rest stays; how many bytes it has
unfoldable pub kept_of : List ℕ → ℕ → ℕ → Done ℕ
kept_of input from end = let l = drop from (take end input) in done (length l) (over input 0 l)

-- whether a last line lacks its LF: bytes are kept, or a line is being passed over
unfoldable pub unended : Bool → ℕ → Bool
unended skip kept = pick (eqb kept 0) skip true

-- it gets its LF behind the bytes kept, which are one more then; else, and where there is no room for it, nothing changes and no byte is to be answered
unfoldable pub ended_of : Bool → List ℕ → ℕ → Done (Option ℕ)
ended_of skip input kept = unless (unended skip kept) (done None input) (pick (leb (length input) kept) (done None input) (done (Some (kept + 1)) (set input kept lf)))

-- a host at the end of the input, with room for so many answers: a last line that lacks its LF gets it
unfoldable pub finished : ℕ → ℕ → Host → Host
finished r room h = pick (unended h.skip (length h.tail)) (fed r h (record { room = room; bytes = lf ∷ [] })) h
