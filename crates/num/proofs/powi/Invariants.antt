-- `num::powi` meets its contract: what the bits left make of the product so far is the whole power.
use mathlib.Core.Path.{◌≡◌}
use Prim.Native.Nat.{ℕ, ◌^◌, ◌<◌}
use lib.Ieee.{Float}
use Rattle.num.specs.Helpers.{powi_from, powi_of}
use Rattle.num.proofs.powi.Given as goal

-- `n` turns are enough for the bits left
pub record Left (whole square : Float) (left : ℕ) (r : Float) : Type 0 where
  pub turns : ℕ
  pub enough : left < 2 ^ turns
  pub makes : powi_from turns square left r ≡ whole

abbrev pub invariant-loop-left : goal.invariant-loop-left
invariant-loop-left l = Left (powi_of l.x l.k) l.square l.left l.r

abbrev pub decreases-loop-left : goal.decreases-loop-left
decreases-loop-left l = l.left
