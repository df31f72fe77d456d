-- `lgamma::product` meets its contract: what the turns left make of the product so far is the whole.
use mathlib.Core.Path.{◌≡◌}
use Prim.Native.Nat.{◌-◌}
use Rattle.elementary.specs.Lgamma.{product_from, product_of}
use Rattle.elementary.proofs.lgamma.product.Given as goal

abbrev pub invariant-loop : goal.invariant-loop
invariant-loop l = product_from (22 - l.counter) l.y l.p ≡ product_of l.x

abbrev pub decreases-loop : goal.decreases-loop
decreases-loop l = 22 - l.counter
