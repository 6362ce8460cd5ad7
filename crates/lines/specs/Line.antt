-- Document 01, "Operation lines": a two-digit code, then fields of 16 digits, each behind a single space.
use Rattle.std.specs.Prelude.{ℕ, zero, suc, List, [], ◌∷◌, ◌++◌, eqb, ltb, length, drop, get_or, replicate, Some, None, Option}
use Rattle.types.specs.Names.{pick, over, Done, done}
use Rattle.lines.specs.{Hex.hex_from, Hex.hex_text, declared.line.Line.Line}

-- it stands before each field
abbrev pub space : ℕ
space = 32

-- it ends a line
abbrev pub lf : ℕ
lf = 10

-- over so many characters a line is malformed, whatever it holds
abbrev pub longest : ℕ
longest = 160

-- the most fields that a line has
abbrev pub most_fields : ℕ
most_fields = 8

-- a field, and what follows it
unfoldable pub then_field : Option ℕ → Option (List ℕ) → Option (List ℕ)
then_field None g = None
then_field (Some v) None = None
then_field (Some v) (Some l) = Some (v ∷ l)

-- at most n fields, each behind a space, up to the end
unfoldable pub fields_of : ℕ → List ℕ → Option (List ℕ)
fields_of zero [] = Some []
fields_of zero (b ∷ l) = None
fields_of (suc n) [] = Some []
fields_of (suc n) (b ∷ l) = pick (eqb b space) (then_field (hex_from 16 0 l) (fields_of n (drop 16 l))) None

-- what a text that is no line is read as: nothing
abbrev pub no_line : Option Line
no_line = None

-- a code, and fields behind it, as numbers: the code, how many fields, and the fields with zeros behind them
unfoldable pub coded : Option ℕ → Option (List ℕ) → Option Line
coded None g = None
coded (Some code) None = None
coded (Some code) (Some l) = Some (record { code = code; count = length l; list = over (replicate most_fields 0) 0 l })

-- a text as a line's numbers
unfoldable pub line_of : List ℕ → Option Line
line_of l = coded (hex_from 2 0 l) (fields_of most_fields (drop 2 l))

-- a field, 0 behind the last
abbrev pub at : Line → ℕ → ℕ
at w i = get_or w.list i 0

-- the way back: fields as text
unfoldable pub fields_text : List ℕ → List ℕ
fields_text [] = []
fields_text (v ∷ l) = space ∷ (hex_text 16 v ++ fields_text l)

-- a code and fields as text
unfoldable pub line_text : ℕ → List ℕ → List ℕ
line_text code fields = hex_text 2 code ++ fields_text fields

-- a text at the start of a buffer and its length; nothing is written where the buffer has less room
unfoldable pub wrote_of : List ℕ → List ℕ → Done (Option ℕ)
wrote_of l text = pick (ltb (length l) (length text)) (done None l) (done (Some (length text)) (over l 0 text))
