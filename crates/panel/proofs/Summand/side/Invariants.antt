-- The panels still to come make of the meter and the sums so far the whole side.
use Rattle.std.proofs.Common.{◌≡◌, ◌-◌}
use Rattle.work.specs.Answer.{by}
use Rattle.posterior.specs.Integrand.{at, here}
use Rattle.panel.specs.Panel.{panels}
use Rattle.panel.proofs.Summand.side.Given as goal

abbrev pub invariant-loop-i : goal.invariant-loop-i
invariant-loop-i l = by at l.meter (panels (here l.self.p) l.self.rule l.self.top l.a l.width (l.panels - l.i) l.i l.s) ≡ by at l.fn.meter (panels (here l.self.p) l.self.rule l.self.top l.a l.width (l.panels - l.first) l.first l.fn.sum)
