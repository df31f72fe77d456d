-- The nodes still to come make of the meter and the sums so far the whole panel.
use Rattle.std.proofs.Common.{◌≡◌, ◌-◌}
use Rattle.work.specs.Answer.{by}
use Rattle.posterior.specs.Integrand.{at, here}
use Rattle.panel.specs.Panel.{nodes}
use Rattle.panel.proofs.Summand.one_by_one.Given as goal

abbrev pub invariant-loop-n : goal.invariant-loop-n
invariant-loop-n l = by at l.meter (nodes (here l.self.p) l.self.rule l.self.top l.center l.width (16 - l.n-index) l.n-index l.s) ≡ by at l.fn.meter (nodes (here l.self.p) l.self.rule l.self.top l.center l.width 16 0 l.fn.sum)
