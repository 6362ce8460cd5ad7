-- A signed number's bits are its own, however it was passed. Assumes nothing.
use Rattle.std.proofs.lemmas.Int.{to_z-of_z}

-- what a number's bits need
pub ruleset signs = (to_z-of_z)
