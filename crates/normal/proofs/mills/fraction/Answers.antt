-- The answers for `fraction`.
use mathlib.Core.Path.{◌≡◌, refl}
use Prim.Native.Nat.{◌+◌, ◌-◌}
use native.Mathlib.Omega.{arith}
use Rattle.normal.specs.Normal.{fraction_from, fraction_step, fraction_of}
use Rattle.normal.proofs.mills.fraction.Goals as goal

pub loop-before-init : goal.loop-before-init
unfolding fraction_of
loop-before-init c = refl

pub loop-before-preserved : goal.loop-before-preserved
loop-before-preserved c =
    let b = c.loop-before.before in
    let e : 64 - b - 1 ≡ 64 - (b + 1) = omega arith in
    rw e at (rw (fraction_step _ _ (64 - b) (omega (arith, c.loop-before-test.true))) at c.loop-before.invariant)

pub returns : goal.returns
unfolding fraction_from
returns c =
    let z : 64 - c.loop-before.before ≡ 0 = omega (arith, c.loop-before-test.false) in
    rw (c.loop-before.invariant, z)
