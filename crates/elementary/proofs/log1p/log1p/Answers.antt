-- `log1p::log1p` meets its contract, by its tests and its callees' contracts.
use lib.IntN.{negsuc}
use lib.Ieee.{binary64, of_bits}
use lib.Ieee.Fits.{add-fits}
use Rattle.num.specs.Choose.{choose}
use Rattle.num.specs.Numbers.{below_number, not_below_bits}
use Rattle.elementary.specs.Log1p.{log1p_of}
use Rattle.elementary.proofs.log1p.log1p.Goals as goal

pub returns-then-x : goal.returns-then-x
unfolding log1p_of of_bits
returns-then-x c = search choose

pub returns-then-u-2 : goal.returns-then-u-2
unfolding log1p_of of_bits
returns-then-u-2 c = rw (← c.infinity.ensures) (search choose)

pub returns-then-u : goal.returns-then-u
unfolding log1p_of of_bits
returns-then-u c = search choose

pub float_to_bits-u : goal.float_to_bits-u
unfolding log1p_of of_bits
float_to_bits-u c = below_number _ _ c.if-u-infinity.true

pub parts-l-requires : goal.parts-l-requires
unfolding log1p_of of_bits
parts-l-requires c = not_below_bits _ 0 (negsuc 1021) (add-fits binary64 _ _) c.if-u.false

pub returns-then-u-infinity : goal.returns-then-u-infinity
unfolding log1p_of of_bits
returns-then-u-infinity c = rw (← c.infinity-2.ensures, ← c.parts-l.ensures) (search choose)

pub returns : goal.returns
unfolding log1p_of of_bits
returns c = rw (← c.infinity-2.ensures) (search choose)
