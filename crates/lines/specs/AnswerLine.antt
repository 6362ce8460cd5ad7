-- Document 01, "Operation lines": an answer line has the number, the value or amount, and the fuel left, in hexadecimal.
use Rattle.std.specs.Prelude.{ℕ, Bool, true, false, List, [], ◌∷◌, ◌++◌, ltb, length}
use Rattle.types.specs.Names.{pick, over, Done, done, number_of, shown_of, Answer, Fuel}
use Rattle.lines.specs.{Hex.hex_text, Line.space, Line.lf}

-- the three columns of an answer line
unfoldable pub answer_text : ℕ → ℕ → ℕ → List ℕ
answer_text number shown fuel =
    hex_text 2 number ++ (space ∷ (hex_text 16 shown ++ (space ∷ (hex_text 16 fuel ++ (lf ∷ [])))))

-- the bytes of an answer line, LF among them
abbrev pub answer_bytes : ℕ
answer_bytes = 37

-- the fuel left, 0 if metering is off
unfoldable pub fuel_shown : Fuel → ℕ
fuel_shown f = pick f.enabled f.remaining 0

-- the line of an answer and the fuel after it
unfoldable pub answer_line : Answer → Fuel → List ℕ
answer_line a f = answer_text (number_of a) (shown_of a) (fuel_shown f)

-- an answer's line at the start of a buffer; nothing where the buffer has less room
unfoldable pub answered_of : List ℕ → Answer → Fuel → Done Bool
answered_of l a f = pick (ltb (length l) answer_bytes) (done false l) (done true (over l 0 (answer_line a f)))
