-- `rungs::risen` meets its contract, as the passes still to come make of the sums so far the whole.
use mathlib.Core.Path.{◌≡◌}
use Prim.Native.Nat.{◌-◌}
use Rattle.counts.specs.Share.{rising_from, risen_of}
use Rattle.counts.proofs.rungs.risen.Given as goal

abbrev pub invariant-loop-k : goal.invariant-loop-k
invariant-loop-k l = rising_from l.shape (l.count - l.k) l.k l.s ≡ risen_of l.shape l.count

abbrev pub decreases-loop-k : goal.decreases-loop-k
decreases-loop-k l = l.count - l.k
