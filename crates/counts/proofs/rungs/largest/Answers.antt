-- The answers for `largest`.
use native.Mathlib.Nat.{sub-zero}
use Rattle.num.specs.Fold.{fold_turns, fold_ends}
use Rattle.counts.specs.Rungs.{largest_of}
use Rattle.counts.proofs.rungs.largest.Goals as goal

pub loop-count-init : goal.loop-count-init
unfolding largest_of
loop-count-init c = rw (sub-zero _)

pub loop-count-preserved : goal.loop-count-preserved
loop-count-preserved c = search fold_turns

pub returns : goal.returns
returns c = search fold_ends
