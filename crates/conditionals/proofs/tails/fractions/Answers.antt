-- The answers for `fractions`.
use mathlib.Core.Path.{◌≡◌, refl}
use native.Mathlib.Omega.{arith}
use Rattle.num.specs.Values.{values}
use Rattle.normal.specs.Normal.{fraction_of}
use Rattle.conditionals.specs.Tails.{fractions_of}
use Rattle.conditionals.proofs.TailsLaws.{fractions_turn, fractions_long, fractions_end}
use Rattle.conditionals.proofs.tails.fractions.Goals as goal

pub loop-k-init : goal.loop-k-init
unfolding fractions_of fraction_of values
loop-k-init c = (refl, refl)

pub loop-k-preserved : goal.loop-k-preserved
loop-k-preserved c = (search fractions_long, fractions_turn c.args.t c.loop-k.f c.loop-k.k _ c.loop-k-test.true c.deeper-g.ensures c.loop-k.invariant.1)

pub returns : goal.returns
returns c = let z : c.loop-k.k ≡ 0 = omega arith in search fractions_end
