-- The answers for `product`.
use mathlib.Core.Path.{◌≡◌, refl}
use mathlib.Core.Bool.{true, false}
use Prim.Native.Nat.{ℕ, ◌+◌, ◌-◌, ◌≤◌, ◌<◌}
use lib.Ieee.{Float, le}
use Rattle.num.specs.F64.{◌⊖◌, ◌⊗◌, one·}
use Rattle.num.specs.Left.{left_one, left_none}
use Rattle.elementary.specs.declared.lgamma.Factors.{Factors}
use Rattle.elementary.specs.Lgamma.{product_from, product_of}
use Rattle.elementary.proofs.lgamma.product.Goals as goal

module _ (whole : Factors) (y p : Float) (k : ℕ) (i : product_from (22 - k) y p ≡ whole) where
  stops : k < 22 → le y one· ≡ true → record { p = p; y = y } ≡ whole
  unfolding product_from
  stops h t = rw (left_one 22 k h, t) at i

  turns : k < 22 → le y one· ≡ false → product_from (22 - (k + 1)) (y ⊖ one·) (p ⊗ y) ≡ whole
  unfolding product_from
  turns h t = rw (left_one 22 k h, t) at i

  ends : 22 ≤ k → record { p = p; y = y } ≡ whole
  unfolding product_from
  ends h = rw (left_none 22 k h) at i

pub loop-init : goal.loop-init
unfolding product_of
loop-init c = refl

pub returns-then-y : goal.returns-then-y
unfolding product_of
returns-then-y c = search stops

pub loop-preserved : goal.loop-preserved
unfolding product_of
loop-preserved c = search turns

pub returns : goal.returns
unfolding product_of
returns c = search ends
