-- `Posterior::evaluate` meets its contract: an evaluation is counted, then made.
use Rattle.std.proofs.Common.{arith}
use Rattle.posterior.specs.Integrand.{at, here}
use Rattle.posterior.specs.Steps.{handed_on}
use Rattle.posterior.proofs.Laws.{of_counted, of_refused, made, short}
use Rattle.posterior.proofs.integrand.Posterior.evaluate.Goals as goal

pub returns-in_err-count : goal.returns-in_err-count
returns-in_err-count c =
    let f = of_refused _ _ _ c.in_err-count.ensures in
    rw (handed_on c.from_residual.result _ c.from_residual.ensures.1, f.0) (short at (here c.args.self c.args.z) c.args.meter.now _ (omega (arith, f.1)) (omega (arith, f.2)) (omega (arith, f.3)))

pub returns : goal.returns
returns c =
    let f = of_counted _ _ c.in_ok-count.ensures in
    rw c.integrand.ensures (made at (here c.args.self c.args.z) c.args.meter.now _ (omega (arith, f.0)) (omega (arith, f.1)) (omega (arith, f.2)))
