-- The answers for `peak::limits`: the goal, then the tails.
use Rattle.std.proofs.Common.{◌≡◌, rules}
use Rattle.root.specs.Steps.{sqrt_of}
use Rattle.posterior.specs.Steps.{refused, goes_on}
use Rattle.posterior.specs.Integrand.{at}
use Rattle.row.specs.Peak.{spanned}
use Rattle.row.proofs.peak.limits.Goals as goals

pub returns-in_err-goal : goals.returns-in_err-goal
unfolding spanned
returns-in_err-goal c =
    let said = c.sqrt-delta.ensures in
    let e : c.sqrt-delta.result ≡ sqrt_of c.args.m.curvature = search rules in
    rw (← e) (refused at _ _ _ _ _ _ c.in_err-goal.ensures c.from_residual.ensures.1)

pub returns : goals.returns
unfolding spanned
returns c =
    let said = c.sqrt-delta.ensures in
    let e : c.sqrt-delta.result ≡ sqrt_of c.args.m.curvature = search rules in
    rw (← e, goes_on at _ _ _ _ _ c.in_ok-goal.ensures) c.bounded.ensures
