-- The answers for `bracket::double`.
use Rattle.num.specs.Left.{left_one, left_none}
use Rattle.work.specs.Onward.{branch, gives}
use Rattle.posterior.specs.Steps.{refused, goes_on}
use Rattle.posterior.specs.Integrand.{at}
use Rattle.mode.specs.Bracket.{doubled}
use Rattle.mode.proofs.bracket.double.Goals as goal

pub returns-in_err-v : goal.returns-in_err-v
unfolding doubled
returns-in_err-v c = rw (← c.loop.invariant, left_one 16 c.loop.counter c.loop-test.true) (refused at _ _ _ _ _ _ c.in_err-v.ensures c.from_residual.ensures.1)

pub returns-then-rises : goal.returns-then-rises
unfolding doubled
returns-then-rises c = rw (← c.loop.invariant, left_one 16 c.loop.counter c.loop-test.true, goes_on at _ _ _ _ _ c.in_ok-v.ensures, branch, ← c.if-rises.ensures, gives)

pub loop-preserved : goal.loop-preserved
unfolding doubled
loop-preserved c = rw (left_one 16 c.loop.counter c.loop-test.true, goes_on at _ _ _ _ _ c.in_ok-v.ensures, branch, ← c.if-rises.ensures) at c.loop.invariant

pub returns : goal.returns
unfolding doubled
returns c = rw (← c.loop.invariant, left_none 16 c.loop.counter c.loop-test.false, gives)
