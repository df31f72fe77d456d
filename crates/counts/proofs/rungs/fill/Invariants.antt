-- `rungs::fill` meets its contract: so far the rungs up to k are held, and the sums are those of the k-th.
use mathlib.Core.Path.{◌≡◌}
use mathlib.Core.List.{List}
use Prim.Native.Nat.{ℕ, ◌-◌, ◌≤◌}
use lib.Ieee.{Float}
use Rattle.counts.specs.declared.share.Rising.{Rising}
use Rattle.counts.specs.Share.{risen_of}
use Rattle.counts.specs.Rungs.{Held}
use Rattle.counts.proofs.rungs.fill.Given as goal

pub record Filled (shape : Float) (top : ℕ) (l : List Rising) (s : Rising) (k : ℕ) : Type 0 where
  pub few : top ≤ 63
  pub within : k ≤ top
  pub held : Held shape k l
  pub sums : s ≡ risen_of shape k

abbrev pub invariant-loop-k : goal.invariant-loop-k
invariant-loop-k l = Filled l.shape l.top l.rungs l.s l.k

abbrev pub decreases-loop-k : goal.decreases-loop-k
decreases-loop-k l = l.top - l.k
