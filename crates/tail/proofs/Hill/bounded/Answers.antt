-- The answers for `Hill::bounded`: a walk to each side, then the test.
use Rattle.work.specs.Onward.{branch, gives, gives_up}
use Rattle.posterior.specs.Steps.{refused, goes_on}
use Rattle.posterior.specs.Integrand.{at}
use Rattle.tail.specs.Tail.{span}
use Rattle.tail.proofs.Hill.bounded.Goals as goal

pub returns-in_err-l : goal.returns-in_err-l
unfolding span
returns-in_err-l c = refused at _ _ _ _ _ _ c.in_err-l.ensures c.from_residual.ensures.1

pub returns-in_err-r : goal.returns-in_err-r
unfolding span
returns-in_err-r c = rw (goes_on at _ _ _ _ _ c.in_ok-l.ensures) (refused at _ _ _ _ _ _ c.in_err-r.ensures c.from_residual-in_err-r.ensures.1)

pub returns-then-both_closed : goal.returns-then-both_closed
unfolding span
returns-then-both_closed c = rw (goes_on at _ _ _ _ _ c.in_ok-l.ensures, goes_on at _ _ _ _ _ c.in_ok-r.ensures, branch, ← c.if-both_closed.ensures, gives)

pub returns : goal.returns
unfolding span
returns c = rw (goes_on at _ _ _ _ _ c.in_ok-l.ensures, goes_on at _ _ _ _ _ c.in_ok-r.ensures, branch, ← c.if-both_closed.ensures, gives_up)
