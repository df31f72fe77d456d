-- `num::not_a_number` meets its contract: the constant's bits are a NaN's.
use mathlib.Core.Path.{refl}
use lib.Ieee.{of_bits}
use Rattle.num.proofs.not_a_number.Goals as goal

pub returns : goal.returns
unfolding of_bits
returns c = refl
