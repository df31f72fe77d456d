-- The answers for `find`.
use Rattle.posterior.specs.Steps.{refused, goes_on}
use Rattle.posterior.specs.Integrand.{at}
use Rattle.mode.specs.Mode.{peak}
use Rattle.mode.proofs.find.Goals as goal

pub returns-in_err-z : goal.returns-in_err-z
unfolding peak
returns-in_err-z c = rw (← c.clamp.ensures) (refused at _ _ _ _ _ _ c.in_err-z.ensures c.from_residual.ensures.1)

pub returns : goal.returns
unfolding peak
returns c = rw (← c.clamp.ensures, goes_on at _ _ _ _ _ c.in_ok-z.ensures) c.confirm.ensures
