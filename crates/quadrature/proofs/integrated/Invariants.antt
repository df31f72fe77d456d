-- The rules still to come make of the meter and the sums before the whole integral.
use Rattle.std.proofs.Common.{◌≡◌, ◌-◌, false}
use Rattle.work.specs.Answer.{by}
use Rattle.posterior.specs.Integrand.{at, here}
use Rattle.panel.specs.Panel.{no_sums}
use Rattle.quadrature.specs.Quadrature.{rules}
use Rattle.quadrature.proofs.Rules.{rules_after}
use Rattle.quadrature.proofs.integrated.Given as goal

abbrev pub invariant-loop-k : goal.invariant-loop-k
invariant-loop-k l = by at l.meter (rules_after (here l.p) l.rule l.h (10 - l.k) l.k l.old) ≡ by at l.fn.meter (rules (here l.p) l.rule l.h 10 0 false no_sums)
