-- `num::is_finite` meets its contract: the two tests tell the kinds of a float apart.
use mathlib.Core.Path.{◌≡◌, refl}
use mathlib.Core.Bool.{true, false, cond}
use lib.Ieee.{Float, nan, inf, fin, lt, neg, of_bits, nan_bits}
use Rattle.num.specs.F64.{infinity·}
use Rattle.num.specs.Helpers.{is_finite_of}
use Rattle.num.proofs.is_finite.Goals as goal

tests : (x : Float) → cond (lt x infinity·) (lt (neg infinity·) x) false ≡ is_finite_of x
unfolding lt neg of_bits is_finite_of
tests nan = refl
tests (inf true) = refl
tests (inf false) = refl
tests (fin s m e) = refl

pub float_from_bits-top : goal.float_from_bits-top
unfolding nan_bits
float_from_bits-top c = tt

pub returns-then-x-top : goal.returns-then-x-top
unfolding nan_bits
returns-then-x-top c = rw c.if-x-top.true at (tests c.args.x)

pub returns-else-x-top : goal.returns-else-x-top
unfolding nan_bits
returns-else-x-top c = rw c.if-x-top.false at (tests c.args.x)
