-- `recurrence` meets its contract: what the degrees still to come make of the two polynomials so far is the whole.
use mathlib.Core.Path.{◌≡◌}
use Prim.Native.Nat.{◌-◌, ◌≤◌}
use Rattle.num.specs.Fold.{fold_from}
use Rattle.legendre.specs.Legendre.{degree_of, recurrence_of}
use Rattle.legendre.proofs.recurrence.Given as goal

abbrev pub invariant-loop-j : goal.invariant-loop-j
invariant-loop-j l = (2 ≤ l.j) × (fold_from (degree_of l.x) (17 - l.j) l.j (record { p0 = l.p0; p1 = l.p1 }) ≡ recurrence_of l.x)

abbrev pub decreases-loop-j : goal.decreases-loop-j
decreases-loop-j l = 17 - l.j
