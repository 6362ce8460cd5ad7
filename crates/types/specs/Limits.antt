-- WebAssembly Core Specification 3.0: Structure, Types, limits; Validation, Types, limits; Validation, Matching, limits.
use Rattle.std.specs.Prelude.{ℕ, Bool, true, leb}
use Rattle.types.specs.{Pick.pick, Pick.both, declared.limits.Limits.Limits}

-- a size at most the maximum, if there is one
unfoldable pub admits_of : Limits → ℕ → Bool
admits_of l n = pick l.bounded (leb n l.maximum) true

-- a maximum is at most k and not below the minimum
unfoldable pub valid_maximum : Limits → ℕ → Bool
valid_maximum l k = both (leb l.maximum k) (leb l.minimum l.maximum)

-- valid within a range k: the minimum is at most k, and so is the maximum, if there is one, and not below the minimum
unfoldable pub valid_limits : Limits → ℕ → Bool
valid_limits l k = both (leb l.minimum k) (pick l.bounded (valid_maximum l k) true)

-- a matches b: its minimum is at least b's, and b has no maximum or both have one with a's at most b's
unfoldable pub match_limits : Limits → Limits → Bool
match_limits a b =
    both (leb b.minimum a.minimum)
    (pick b.bounded (both a.bounded (leb a.maximum b.maximum)) true)

-- the same limits from another minimum on
abbrev pub from_minimum : Limits → ℕ → Limits
from_minimum l n = record { minimum = n; bounded = l.bounded; maximum = l.maximum }
