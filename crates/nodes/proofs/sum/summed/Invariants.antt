-- `sum::summed` meets its contract, as the additions still to come make of the sums so far the whole panel.
use mathlib.Core.Path.{◌≡◌}
use Prim.Native.Nat.{◌-◌}
use Rattle.num.specs.Fold.{fold_from}
use Rattle.nodes.specs.Stages.{with_node_of, summed_of}
use Rattle.nodes.proofs.sum.summed.Given as goal

abbrev pub invariant-loop-i : goal.invariant-loop-i
invariant-loop-i l = fold_from (with_node_of l.width l.rule l.e l.m) (16 - l.i) l.i l.s ≡ summed_of l.width l.rule l.e l.m l.initial.s

abbrev pub decreases-loop-i : goal.decreases-loop-i
decreases-loop-i l = 16 - l.i
