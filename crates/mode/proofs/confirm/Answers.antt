-- The answers for `confirm`.
use Rattle.work.specs.Onward.{branch, gives, gives_up}
use Rattle.posterior.specs.Steps.{refused, goes_on}
use Rattle.posterior.specs.Integrand.{at}
use Rattle.mode.specs.Mode.{confirmed}
use Rattle.mode.proofs.confirm.Goals as goal

pub returns-in_err-v : goal.returns-in_err-v
unfolding confirmed
returns-in_err-v c = refused at _ _ _ _ _ _ c.in_err-v.ensures c.from_residual.ensures.1

pub returns-then-abs-allowed : goal.returns-then-abs-allowed
unfolding confirmed
returns-then-abs-allowed c = rw (goes_on at _ _ _ _ _ c.in_ok-v.ensures, branch, ← c.abs.ensures, ← c.allowed.ensures, c.if-abs-allowed.true, gives_up)

pub returns-then-v : goal.returns-then-v
unfolding confirmed
returns-then-v c = rw (goes_on at _ _ _ _ _ c.in_ok-v.ensures, branch, ← c.abs.ensures, ← c.allowed.ensures, c.if-abs-allowed.false, branch, c.if-v.true, gives_up)

pub returns : goal.returns
unfolding confirmed
returns c = rw (goes_on at _ _ _ _ _ c.in_ok-v.ensures, branch, ← c.abs.ensures, ← c.allowed.ensures, c.if-abs-allowed.false, branch, c.if-v.false, gives)
