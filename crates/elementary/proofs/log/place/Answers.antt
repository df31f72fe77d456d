-- `log::place` meets its contract, by its tests; a number that passes them has no sign's bit.
use native.Mathlib.Omega.{arith}
use denote.Floats.{passes}
use lib.IntN.{negsuc}
use lib.Ieee.{of_bits}
use Rattle.num.specs.Choose.{choose}
use Rattle.num.specs.Numbers.{below_number, not_below_bits}
use Rattle.elementary.specs.Log.{log_place}
use Rattle.elementary.proofs.log.place.Goals as goal

pub returns-then-x : goal.returns-then-x
unfolding log_place of_bits
returns-then-x c = search choose

pub float_to_bits-result : goal.float_to_bits-result
unfolding log_place of_bits
float_to_bits-result c = below_number _ _ c.if-x-infinity.true

pub overflow_add-result : goal.overflow_add-result
unfolding log_place of_bits
overflow_add-result c = omega (arith, not_below_bits _ 0 (negsuc 1021) (passes _ c.well_formed.0.1) c.if-x.false)

pub returns-then-x-infinity : goal.returns-then-x-infinity
unfolding log_place of_bits
returns-then-x-infinity c = rw (← c.infinity.ensures) (search choose)

pub returns : goal.returns
unfolding log_place of_bits
returns c = rw (← c.infinity.ensures) (search choose)
