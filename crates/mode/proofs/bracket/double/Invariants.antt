-- The doublings still to come make of the meter and the place so far the whole search.
use Rattle.std.proofs.Common.{◌≡◌, ◌-◌}
use Rattle.work.specs.Answer.{by}
use Rattle.posterior.specs.Integrand.{at, here}
use Rattle.posterior.specs.Side.{first_of}
use Rattle.mode.specs.Bracket.{doubled}
use Rattle.mode.proofs.bracket.double.Given as goal

abbrev pub invariant-loop : goal.invariant-loop
invariant-loop l = by at l.meter (doubled (here l.p) l.side (16 - l.counter) l.z) ≡ by at l.fn.meter (doubled (here l.p) l.side 16 (first_of l.side))
