-- The answers for `beyond`.
use mathlib.Core.Path.{refl}
use mathlib.Core.Bool.{false, ◌||◌}
use Rattle.num.specs.Sum.{sum_turns, sum_ends}
use Rattle.conditionals.specs.Tails.{beyond_of}
use Rattle.conditionals.proofs.TailsLaws.{or_assoc, or_false}
use Rattle.conditionals.proofs.tails.beyond.Goals as goal

pub loop-i-init : goal.loop-i-init
unfolding beyond_of
loop-i-init c = refl

pub loop-i-preserved : goal.loop-i-preserved
unfolding beyond_of
loop-i-preserved c = sum_turns ◌||◌ false _ _ c.loop-i.any 16 _ c.loop-i.invariant or_assoc _ c.loop-i-test.true c.either-any.ensures

pub returns : goal.returns
unfolding beyond_of
returns c = sum_ends ◌||◌ false _ _ c.loop-i.any 16 _ c.loop-i.invariant or_false c.loop-i-test.false
