-- The table of digits has each byte's digit. Assumes nothing.
use Rattle.types.proofs.Prelude.{◌≡◌, ap, ◌∙◌, List, Bool, ℕ, ◌<◌, eqb, get_or}
use lib.Dec.{eqb→eq}
use Rattle.types.specs.Pick.{pick}
use Rattle.lines.specs.{stages.Digits.digit_table, Hex.digit_of}
use Rattle.lines.proofs.Entries.{at}

right : ℕ → ℕ → Bool
right k x = eqb x (digit_of k)

in_table : (b : ℕ) → b < 256 → get_or digit_table b 0 ≡ digit_of b
unfolding right digit_table digit_of pick
in_table b h = eqb→eq (get_or digit_table b 0) (digit_of b) (at right digit_table tt b h)

pub digit_is : (t : List ℕ) (b : ℕ) → t ≡ digit_table → b < 256 → get_or t b 0 ≡ digit_of b
digit_is t b e h = ap (λ (z : List ℕ). get_or z b 0) e ∙ in_table b h
