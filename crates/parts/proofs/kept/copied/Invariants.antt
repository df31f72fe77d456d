-- `kept::copied` meets its contract: after j turns the first j bytes are pasted.
use mathlib.Core.Path.{◌≡◌}
use Prim.Native.Nat.{◌-◌, ◌≤◌}
use lib.ListN.{length}
use lib.Seq.{paste}
use Rattle.parts.proofs.kept.copied.Given as goal

abbrev pub invariant-loop-j : goal.invariant-loop-j
invariant-loop-j l = (l.into ≡ paste l.initial.into l.at l.bytes l.j) × (length l.into ≡ length l.initial.into) × (l.j ≤ l.count)

abbrev pub decreases-loop-j : goal.decreases-loop-j
decreases-loop-j l = l.count - l.j
