use Rattle.types.proofs.{Prelude.ap, Prelude.sym, Floats.no_nan, Floats.the_nan}
use lib.Ieee.{binary64, to_bits}
use Rattle.types.proofs.answer.bits64.Goals as goal

pub float_to_bits-result : goal.float_to_bits-result
float_to_bits-result c = no_nan _ c.if-x.false

pub returns-then-x : goal.returns-then-x
unfolding to_bits
returns-then-x c = sym (ap (to_bits binary64) (the_nan _ c.if-x.true))
