-- The answers for `integrated`.
use Rattle.std.proofs.Common.{sym, ◌∙◌}
use Rattle.num.specs.Left.{left_one, left_none}
use Rattle.work.specs.Onward.{gives, gives_up}
use Rattle.posterior.specs.Steps.{refused}
use Rattle.posterior.specs.Integrand.{at}
use Rattle.quadrature.specs.Quadrature.{rules}
use Rattle.quadrature.proofs.Rules.{shifted, spoils, turn}
use Rattle.quadrature.proofs.integrated.Goals as goal

pub returns-in_err-sum : goal.returns-in_err-sum
unfolding rules
returns-in_err-sum c =
    let t = c.loop-k-test.true in
    let e = rw (shifted c.loop-k.k t) at c.in_err-sum.ensures in
    rw (← c.loop-k.invariant, left_one 10 c.loop-k.k t) (refused at _ _ _ _ _ _ e c.from_residual.ensures.1)

pub returns-then-spoiled : goal.returns-then-spoiled
returns-then-spoiled c =
    let t = c.loop-k-test.true in
    let e = rw (shifted c.loop-k.k t) at c.in_ok-sum.ensures in
    rw (← c.loop-k.invariant, left_one 10 c.loop-k.k t) (spoils _ _ _ _ _ _ _ c.loop-k.old _ e c.if-spoiled.ensures)

pub returns-in-Some : goal.returns-in-Some
returns-in-Some c =
    let t = c.loop-k-test.true in
    let e = rw (shifted c.loop-k.k t) at c.in_ok-sum.ensures in
    rw (← c.loop-k.invariant, left_one 10 c.loop-k.k t, turn _ _ _ _ _ _ _ c.loop-k.old _ e c.if-spoiled.ensures _ c.in-Some.ensures, gives)

pub loop-k-preserved : goal.loop-k-preserved
loop-k-preserved c =
    let t = c.loop-k-test.true in
    let e = rw (shifted c.loop-k.k t) at c.in_ok-sum.ensures in
    sym (turn _ _ _ _ _ _ _ c.loop-k.old _ e c.if-spoiled.ensures _ c.in_default.ensures) ∙ (rw (left_one 10 c.loop-k.k t) at c.loop-k.invariant)

pub returns : goal.returns
unfolding rules
returns c = rw (← c.loop-k.invariant, left_none 10 c.loop-k.k c.loop-k-test.false, gives_up)
