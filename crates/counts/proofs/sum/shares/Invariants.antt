-- `sum::shares` meets its contract, as the rows still to come make of the sums so far the whole.
use mathlib.Core.Path.{◌≡◌}
use Prim.Native.Nat.{◌-◌}
use lib.ListN.{length}
use Rattle.planar.specs.Planar.{no_planar}
use Rattle.counts.specs.Rows.{rows_from}
use Rattle.counts.proofs.sum.shares.Given as goal

abbrev pub invariant-loop-i : goal.invariant-loop-i
invariant-loop-i l = rows_from l.shape l.y l.counts l.exposures (length l.counts - l.i) l.i l.v ≡ rows_from l.shape l.y l.counts l.exposures (length l.counts) 0 no_planar

abbrev pub decreases-loop-i : goal.decreases-loop-i
decreases-loop-i l = length l.counts - l.i
