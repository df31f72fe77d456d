-- The lines still to come make of the triangle so far the whole.
use Rattle.std.proofs.Common.{◌≡◌, ◌-◌, length}
use Rattle.intervals.specs.Factor.{line_at, factored_of, held_from}
use Rattle.intervals.proofs.factor.factored.Given as goal

abbrev pub invariant-loop-i : goal.invariant-loop-i
invariant-loop-i l = held_from (line_at l.covariance l.errors) (length l.errors - l.i) l.i l.lower ≡ factored_of l.fn.covariance l.errors
