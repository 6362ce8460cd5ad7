use lib.{Ieee.binary32, Ieee.Bits.nan_bits_above}
use mathlib.Core.Path.{sym}
use Rattle.types.proofs.answer.is_nan32.Goals as goal

pub returns : goal.returns
returns c = sym (nan_bits_above binary32 _)
