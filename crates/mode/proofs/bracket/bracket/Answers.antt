-- The answers for `bracket::bracket`.
use Rattle.work.specs.Onward.{gives}
use Rattle.posterior.specs.Steps.{refused, goes_on}
use Rattle.posterior.specs.Integrand.{at}
use Rattle.mode.specs.Bracket.{ends}
use Rattle.mode.proofs.bracket.bracket.Goals as goal

pub returns-in_err-left : goal.returns-in_err-left
unfolding ends
returns-in_err-left c = refused at _ _ _ _ _ _ c.in_err-left.ensures c.from_residual.ensures.1

pub returns-in_err-right : goal.returns-in_err-right
unfolding ends
returns-in_err-right c = rw (goes_on at _ _ _ _ _ c.in_ok-left.ensures) (refused at _ _ _ _ _ _ c.in_err-right.ensures c.from_residual-in_err-right.ensures.1)

pub returns : goal.returns
unfolding ends
returns c = rw (goes_on at _ _ _ _ _ c.in_ok-left.ensures, goes_on at _ _ _ _ _ c.in_ok-right.ensures, gives)
