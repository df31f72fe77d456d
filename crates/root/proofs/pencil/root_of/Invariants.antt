-- `root::pencil::root_of` meets its contract: the loop has the row after k steps, and the law of that row keeps every step in its bounds.
use mathlib.Core.Path.{◌≡◌}
use Prim.Native.Nat.{◌-◌, ◌≤◌}
use Rattle.root.specs.Steps.{start_of, pencil_from}
use Rattle.root.proofs.pencil.root_of.Given as goal

abbrev pub invariant-loop-k : goal.invariant-loop-k
invariant-loop-k l = (l.row ≡ pencil_from l.k (start_of l.m)) × (l.k ≤ 54)

abbrev pub decreases-loop-k : goal.decreases-loop-k
decreases-loop-k l = 54 - l.k
