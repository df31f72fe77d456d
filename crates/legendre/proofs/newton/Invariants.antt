-- `newton` meets its contract: what the steps still to come make of the node so far is the whole.
use mathlib.Core.Path.{◌≡◌}
use Prim.Native.Nat.{◌-◌}
use Rattle.legendre.specs.Legendre.{newton_from, newton_of}
use Rattle.legendre.proofs.newton.Given as goal

abbrev pub invariant-loop : goal.invariant-loop
invariant-loop l = newton_from (20 - l.counter) l.x l.derivative ≡ newton_of l.start

abbrev pub decreases-loop : goal.decreases-loop
decreases-loop l = 20 - l.counter
