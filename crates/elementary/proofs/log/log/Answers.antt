-- `log::log` meets its contract, by its tests and its callees' contracts.
use denote.Floats.{passes}
use lib.IntN.{negsuc}
use lib.Ieee.{of_bits}
use Rattle.num.specs.Choose.{choose}
use Rattle.num.specs.Numbers.{below_number, not_below_bits}
use Rattle.elementary.specs.Log.{log_of}
use Rattle.elementary.proofs.log.log.Goals as goal

pub returns-then-x : goal.returns-then-x
unfolding log_of of_bits
returns-then-x c = search choose

pub float_to_bits-x : goal.float_to_bits-x
unfolding log_of of_bits
float_to_bits-x c = below_number _ _ c.if-x-infinity.true

pub parts-r-requires : goal.parts-r-requires
unfolding log_of of_bits
parts-r-requires c = not_below_bits _ 0 (negsuc 1021) (passes _ c.well_formed.0.1) c.if-x.false

pub returns-then-x-infinity : goal.returns-then-x-infinity
unfolding log_of of_bits
returns-then-x-infinity c = rw (← c.infinity.ensures, ← c.parts-r.ensures) (search choose)

pub returns : goal.returns
unfolding log_of of_bits
returns c = rw (← c.infinity.ensures) (search choose)
