-- `lgamma::lgamma` meets its contract, by its tests and its callees' contracts.
use denote.Floats.{passes}
use lib.IntN.{negsuc}
use lib.Ieee.{of_bits}
use Rattle.num.specs.Numbers.{below_number, not_below_bits}
use Rattle.num.specs.Choose.{choose}
use Rattle.elementary.specs.Lgamma.{lgamma_of}
use Rattle.elementary.proofs.lgamma.lgamma.Goals as goal

pub returns-then-x : goal.returns-then-x
unfolding lgamma_of of_bits
returns-then-x c = search choose

pub returns-then-x-2 : goal.returns-then-x-2
unfolding lgamma_of of_bits
returns-then-x-2 c = search choose

pub float_to_bits-x : goal.float_to_bits-x
unfolding lgamma_of of_bits
float_to_bits-x c = below_number _ _ c.if-x-infinity.true

pub parts-l-requires : goal.parts-l-requires
unfolding lgamma_of of_bits
parts-l-requires c = not_below_bits _ 46 (negsuc 0) (passes _ c.well_formed.0.1) c.if-x-2.false

pub returns-then-x-infinity : goal.returns-then-x-infinity
unfolding lgamma_of of_bits
returns-then-x-infinity c = rw (← c.infinity.ensures, ← c.parts-l.ensures, ← c.by_stirling.ensures) (search choose)

pub returns : goal.returns
unfolding lgamma_of of_bits
returns c = rw (← c.infinity.ensures) (search choose)
