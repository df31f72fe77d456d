-- The answers for `summed`.
use mathlib.Core.Path.{refl}
use Rattle.num.specs.Fold.{fold_turns, fold_ends}
use Rattle.nodes.specs.Stages.{summed_of}
use Rattle.nodes.proofs.sum.summed.Goals as goal

pub loop-i-init : goal.loop-i-init
unfolding summed_of
loop-i-init c = refl

pub loop-i-preserved : goal.loop-i-preserved
loop-i-preserved c = search fold_turns

pub returns : goal.returns
returns c = search fold_ends
