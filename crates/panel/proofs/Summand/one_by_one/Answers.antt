-- The answers for `Summand::one_by_one`.
use Rattle.num.specs.Left.{left_one, left_none}
use Rattle.work.specs.Onward.{gives}
use Rattle.posterior.specs.Steps.{refused, goes_on}
use Rattle.posterior.specs.Integrand.{at}
use Rattle.panel.specs.Panel.{nodes}
use Rattle.panel.proofs.Summand.one_by_one.Goals as goal

pub returns-in_err-v : goal.returns-in_err-v
unfolding nodes
returns-in_err-v c = rw (← c.loop-n.invariant, left_one 16 c.loop-n.n-index c.loop-n-test.true) (refused at _ _ _ _ _ _ c.in_err-v.ensures c.from_residual.ensures.1)

pub loop-n-preserved : goal.loop-n-preserved
unfolding nodes
loop-n-preserved c = rw (c.added-t.ensures, c.exp-e.ensures) (rw (left_one 16 c.loop-n.n-index c.loop-n-test.true, goes_on at _ _ _ _ _ c.in_ok-v.ensures) at c.loop-n.invariant)

pub returns : goal.returns
unfolding nodes
returns c = rw (← c.loop-n.invariant, left_none 16 c.loop-n.n-index c.loop-n-test.false, gives)
