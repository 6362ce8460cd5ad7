-- For the code alone: whether limits are valid within k and hold a size, as one test.
use Rattle.std.specs.Prelude.{ℕ, Bool, leb}
use Rattle.types.specs.{Pick.both, Limits.admits_of, Limits.valid_limits, declared.limits.Limits.Limits}

-- the limits are valid, and the size is at least the minimum, at most k and the maximum
abbrev pub held : Limits → ℕ → ℕ → Bool
held l k n = both (valid_limits l k) (both (leb l.minimum n) (both (leb n k) (admits_of l n)))
