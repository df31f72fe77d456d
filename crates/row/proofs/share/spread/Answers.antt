-- The answers for `share::spread`: the mode, the limits, the integral.
use Rattle.work.specs.Onward.{gives}
use Rattle.posterior.specs.Steps.{refused, goes_on}
use Rattle.posterior.specs.Integrand.{at}
use Rattle.row.specs.Share.{spread}
use Rattle.row.proofs.share.spread.Goals as goal

pub returns-in_err-m : goal.returns-in_err-m
unfolding spread
returns-in_err-m c = refused at _ _ _ _ _ _ c.in_err-m.ensures c.from_residual.ensures.1

pub returns-in_err-ends : goal.returns-in_err-ends
unfolding spread
returns-in_err-ends c = rw (goes_on at _ _ _ _ _ c.in_ok-m.ensures) (refused at _ _ _ _ _ _ c.in_err-ends.ensures c.from_residual-in_err-ends.ensures.1)

pub returns-in_err-i : goal.returns-in_err-i
unfolding spread
returns-in_err-i c = rw (goes_on at _ _ _ _ _ c.in_ok-m.ensures, goes_on at _ _ _ _ _ c.in_ok-ends.ensures) (refused at _ _ _ _ _ _ c.in_err-i.ensures c.from_residual-in_err-i.ensures.1)

pub returns : goal.returns
unfolding spread
returns c = rw (c.summed.ensures, goes_on at _ _ _ _ _ c.in_ok-m.ensures, goes_on at _ _ _ _ _ c.in_ok-ends.ensures, goes_on at _ _ _ _ _ c.in_ok-i.ensures, gives)
