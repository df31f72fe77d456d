-- The answers for `tail_goal`: an evaluation on each side.
use Rattle.work.specs.Onward.{gives}
use Rattle.posterior.specs.Steps.{refused, goes_on}
use Rattle.posterior.specs.Integrand.{at}
use Rattle.tail.specs.Tail.{goal}
use Rattle.tail.proofs.tail_goal.Goals as goals

pub returns-in_err-l : goals.returns-in_err-l
unfolding goal
returns-in_err-l c = refused at _ _ _ _ _ _ c.in_err-l.ensures c.from_residual.ensures.1

pub returns-in_err-r : goals.returns-in_err-r
unfolding goal
returns-in_err-r c = rw (goes_on at _ _ _ _ _ c.in_ok-l.ensures) (refused at _ _ _ _ _ _ c.in_err-r.ensures c.from_residual-in_err-r.ensures.1)

pub returns : goals.returns
unfolding goal
returns c = rw (c.exp-least.ensures, c.min.ensures, goes_on at _ _ _ _ _ c.in_ok-l.ensures, goes_on at _ _ _ _ _ c.in_ok-r.ensures, gives)
