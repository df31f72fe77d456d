-- The answers for `bracket::check`: each end is evaluated, then tested.
use Rattle.work.specs.Onward.{branch, gives, gives_up}
use Rattle.posterior.specs.Steps.{refused, goes_on}
use Rattle.posterior.specs.Integrand.{at}
use Rattle.mode.specs.Bracket.{check_ends}
use Rattle.mode.proofs.bracket.check.Goals as goal

pub returns-in_err-low : goal.returns-in_err-low
unfolding check_ends
returns-in_err-low c = refused at _ _ _ _ _ _ c.in_err-low.ensures c.from_residual.ensures.1

pub returns-then-flat : goal.returns-then-flat
unfolding check_ends
returns-then-flat c = rw (goes_on at _ _ _ _ _ c.in_ok-low.ensures, branch, ← c.if-flat.ensures, gives_up)

pub returns-in_err-high : goal.returns-in_err-high
unfolding check_ends
returns-in_err-high c = rw (goes_on at _ _ _ _ _ c.in_ok-low.ensures, branch, ← c.if-flat.ensures) (refused at _ _ _ _ _ _ c.in_err-high.ensures c.from_residual-in_err-high.ensures.1)

pub returns-then-flat-2 : goal.returns-then-flat-2
unfolding check_ends
returns-then-flat-2 c = rw (goes_on at _ _ _ _ _ c.in_ok-low.ensures, branch, ← c.if-flat.ensures, goes_on at _ _ _ _ _ c.in_ok-high.ensures, branch, ← c.if-flat-2.ensures, gives_up)

pub returns : goal.returns
unfolding check_ends
returns c = rw (goes_on at _ _ _ _ _ c.in_ok-low.ensures, branch, ← c.if-flat.ensures, goes_on at _ _ _ _ _ c.in_ok-high.ensures, branch, ← c.if-flat-2.ensures, gives)
