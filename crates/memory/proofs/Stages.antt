-- What closes the exits of a function that decides over a lent buffer: its tests, what its callees answered, and an answer beside bytes that stay. Assumes nothing.
use Rattle.types.proofs.{Prelude.eq-eqb, Prelude.ne_eqb, Prelude.pick_true, Prelude.pick_false, Prelude.known_test, Dones.done_as}

pub ruleset stage = (pick_true, pick_false, known_test, eq-eqb, ne_eqb, done_as)
