-- The entries still to come make of the triangle so far the whole row.
use Rattle.std.proofs.Common.{◌≡◌, ◌+◌, ◌-◌}
use Rattle.intervals.specs.Factor.{entry_of, row_of, held_from}
use Rattle.intervals.proofs.factor.Covariance.row.Given as goal

abbrev pub invariant-loop-j : goal.invariant-loop-j
invariant-loop-j l = held_from (entry_of l.self.rows.now l.self.n l.i) (l.i + 1 - l.j) l.j l.lower ≡ row_of l.self.rows.now l.self.n l.i l.initial.lower
