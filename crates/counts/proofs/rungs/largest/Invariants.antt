-- `rungs::largest` meets its contract, as the rows still to come make of the largest so far the whole.
use mathlib.Core.Path.{◌≡◌}
use Prim.Native.Nat.{◌-◌}
use lib.ListN.{length}
use Rattle.num.specs.Fold.{fold_from}
use Rattle.counts.specs.Rungs.{with_count_of, largest_of}
use Rattle.counts.proofs.rungs.largest.Given as goal

abbrev pub invariant-loop-count : goal.invariant-loop-count
invariant-loop-count l = fold_from (with_count_of l.counts) (length l.counts - l.count-index) l.count-index l.most ≡ largest_of l.counts
