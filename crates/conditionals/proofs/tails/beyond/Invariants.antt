-- `tails::beyond` meets its contract: the places so far, with those still to come, are all.
use mathlib.Core.Path.{◌≡◌}
use Prim.Native.Nat.{◌-◌}
use mathlib.Core.Bool.{false, ◌||◌}
use Rattle.num.specs.Sum.{sum_from}
use Rattle.conditionals.specs.Tails.{beyond_at, beyond_of}
use Rattle.conditionals.proofs.tails.beyond.Given as goal

abbrev pub invariant-loop-i : goal.invariant-loop-i
invariant-loop-i l = (l.any || sum_from ◌||◌ false (beyond_at l.x) (16 - l.i) l.i) ≡ beyond_of l.x

abbrev pub decreases-loop-i : goal.decreases-loop-i
decreases-loop-i l = 16 - l.i
