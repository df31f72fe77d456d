-- The answers for `sides`: the left side, then the right.
use Rattle.std.proofs.Math.Nat.{sub-zero}
use Rattle.posterior.specs.Steps.{refused, goes_on}
use Rattle.posterior.specs.Integrand.{at}
use Rattle.panel.specs.Panel.{sides}
use Rattle.panel.proofs.sides.Goals as goal

pub returns-in_err-left : goal.returns-in_err-left
unfolding sides
returns-in_err-left c = refused at _ _ _ _ _ _ c.in_err-left.ensures c.from_residual.ensures.1

pub returns : goal.returns
unfolding sides
returns c = rw (goes_on at _ _ _ _ _ c.in_ok-left.ensures) (rw (sub-zero c.args.panels) at c.side.ensures)
