-- The steps still to come make of the meter and the guess so far the whole search.
use Rattle.std.proofs.Common.{◌≡◌, ◌-◌}
use Rattle.work.specs.Answer.{by}
use Rattle.posterior.specs.Integrand.{at, here}
use Rattle.mode.specs.Mode.{passes}
use Rattle.mode.proofs.steps.Given as goal

abbrev pub invariant-loop : goal.invariant-loop
invariant-loop l = by at l.meter (passes (here l.p) (100 - l.counter) l.g) ≡ by at l.fn.meter (passes (here l.p) 100 l.fn.start)
