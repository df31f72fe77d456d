-- The answers for `peak::located`: the bracket, its check, the mode.
use Rattle.posterior.specs.Steps.{refused, goes_on}
use Rattle.posterior.specs.Integrand.{at}
use Rattle.row.specs.Peak.{peaked}
use Rattle.row.proofs.peak.located.Goals as goal

pub returns-in_err-bracket : goal.returns-in_err-bracket
unfolding peaked
returns-in_err-bracket c = refused at _ _ _ _ _ _ c.in_err-bracket.ensures c.from_residual.ensures.1

pub returns-in_err-within : goal.returns-in_err-within
unfolding peaked
returns-in_err-within c = rw (goes_on at _ _ _ _ _ c.in_ok-bracket.ensures) (refused at _ _ _ _ _ _ c.in_err-within.ensures c.from_residual-in_err-within.ensures.1)

pub returns : goal.returns
unfolding peaked
returns c = rw (goes_on at _ _ _ _ _ c.in_ok-bracket.ensures, goes_on at _ _ _ _ _ c.in_ok-within.ensures) c.find.ensures
