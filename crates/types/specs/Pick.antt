-- First check wins (document 01, "Numbers given back"): a test picks one of two values. Used by every definition below.
use Rattle.std.specs.Prelude.{Bool, true, false}

-- the first value where the test holds, else the second
unfoldable pub pick : {A : Type 0} → Bool → A → A → A
pick true a b = a
pick false a b = b

-- the first value unless the test holds
abbrev pub unless : {A : Type 0} → Bool → A → A → A
unless t a b = pick t b a

-- both tests hold
unfoldable pub both : Bool → Bool → Bool
both true b = b
both false b = false
