-- The answers for `share::alone`: the one evaluation, counted and made.
use Rattle.std.proofs.Common.{Ok, Err}
use Rattle.work.specs.Onward.{gives}
use Rattle.posterior.specs.Steps.{refused, goes_on, evaluated}
use Rattle.posterior.specs.Integrand.{at, alone, alone_of}
use Rattle.row.proofs.share.alone.Goals as goal

pub returns-in_err-count : goal.returns-in_err-count
returns-in_err-count c =
    let e = evaluated at (alone c.args.litter c.args.successes c.args.total c.args.mean) c.args.meter.now _ (Err c.in_err-count.field-0.0) c.in_err-count.ensures in
    refused at _ _ _ _ _ _ e c.from_residual.ensures.1

pub returns : goal.returns
unfolding alone_of
returns c =
    let e = evaluated at (alone c.args.litter c.args.successes c.args.total c.args.mean) c.args.meter.now _ (Ok c.in_ok-count.field-0) c.in_ok-count.ensures in
    rw (c.hessian.ensures, c.gradient.ensures, c.conditional-c.ensures, goes_on at _ _ _ _ _ e, gives)
