-- Document 01, "Operation lines": lower-case hexadecimal, and a number of so many digits.
use Rattle.std.specs.Prelude.{ℕ, zero, suc, ◌+◌, ◌-◌, ◌*◌, ◌/◌, ◌%◌, List, [], ◌∷◌, ◌++◌, ltb, leb, Some, None, Option}
use Rattle.types.specs.Names.{pick}

-- the digit that a byte is: 0 to 9, a to f; 16 where it is none
unfoldable pub digit_of : ℕ → ℕ
digit_of b =
    pick (ltb b 48) 16 (pick (leb b 57) (b - 48) (pick (ltb b 97) 16 (pick (leb b 102) (b - 87) 16)))

-- the byte of a digit
unfoldable pub char_of : ℕ → ℕ
char_of d = pick (ltb d 10) (48 + d) (87 + d)

-- the number that begins with v and goes on by the next n bytes, which must be digits
unfoldable pub hex_from : ℕ → ℕ → List ℕ → Option ℕ
hex_from zero v l = Some v
hex_from (suc n) v [] = None
hex_from (suc n) v (b ∷ l) = pick (ltb (digit_of b) 16) (hex_from n (v * 16 + digit_of b) l) None

-- a number in n digits, the highest first
unfoldable pub hex_text : ℕ → ℕ → List ℕ
hex_text zero v = []
hex_text (suc n) v = hex_text n (v / 16) ++ (char_of (v % 16) ∷ [])
