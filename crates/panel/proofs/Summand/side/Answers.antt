-- The answers for `Summand::side`.
use Rattle.num.specs.Left.{left_one, left_none}
use Rattle.work.specs.Onward.{gives}
use Rattle.posterior.specs.Steps.{refused, goes_on}
use Rattle.posterior.specs.Integrand.{at}
use Rattle.panel.specs.Panel.{panels}
use Rattle.panel.proofs.Summand.side.Goals as goal

pub returns-in_err-s : goal.returns-in_err-s
unfolding panels
returns-in_err-s c = rw (← c.loop-i.invariant, left_one c.args.panels c.loop-i.i c.loop-i-test.true, ← c.center.ensures) (refused at _ _ _ _ _ _ c.in_err-s.ensures c.from_residual.ensures.1)

pub loop-i-preserved : goal.loop-i-preserved
unfolding panels
loop-i-preserved c = rw (left_one c.args.panels c.loop-i.i c.loop-i-test.true, ← c.center.ensures, goes_on at _ _ _ _ _ c.in_ok-s.ensures) at c.loop-i.invariant

pub returns : goal.returns
unfolding panels
returns c = rw (← c.loop-i.invariant, left_none c.args.panels c.loop-i.i c.loop-i-test.false, gives)
