-- The litters still to come make of the meter and the sums so far the whole sum.
use Rattle.std.proofs.Common.{◌≡◌, ◌-◌}
use Rattle.objective.specs.Named.{named_from, summed_of}
use Rattle.objective.proofs.sum.summed.Given as goal

abbrev pub invariant-loop-i : goal.invariant-loop-i
invariant-loop-i l = named_from l.rule l.x l.litters l.meter (l.n - l.i) l.i l.t ≡ summed_of l.rule l.x l.litters l.fn.limit
