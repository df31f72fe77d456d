-- `decimal::divided` meets its contract: the digits so far and the rest are num · 2^places, and while a digit is missing there are fewer than 107 places.
use Prim.Native.Nat.{◌-◌}
use Rattle.decimal.specs.Steps.{Dividing}
use Rattle.decimal.proofs.divided.Given as goal

abbrev pub invariant-loop-digits : goal.invariant-loop-digits
invariant-loop-digits l = Dividing l.num l.den l.digits l.rest l.places

abbrev pub decreases-loop-digits : goal.decreases-loop-digits
decreases-loop-digits l = 107 - l.places
