-- The answers for `share::row_objective`, by the test of the variance.
use Rattle.std.proofs.Common.{◌≡◌, rules}
use Rattle.work.specs.Onward.{branch}
use Rattle.root.specs.Steps.{sqrt_of}
use Rattle.coefficient.specs.Coefficient.{coefficient_of}
use Rattle.row.specs.Share.{share}
use Rattle.row.proofs.share.row_objective.Goals as goal

pub returns-then-variance : goal.returns-then-variance
unfolding share
returns-then-variance c =
    let said = c.coefficient-choose.ensures in
    let e : c.coefficient-choose.result ≡ coefficient_of c.args.successes c.args.total = search rules in
    rw (branch, c.if-variance.true, ← e) c.alone.ensures

pub returns : goal.returns
unfolding share
returns c =
    let chosen = c.coefficient-choose.ensures in
    let rooted = c.sqrt.ensures in
    let e : c.coefficient-choose.result ≡ coefficient_of c.args.successes c.args.total = search rules in
    let f : c.sqrt.result ≡ sqrt_of c.args.variance = search rules in
    rw (branch, c.if-variance.false, ← e, ← f) c.spread.ensures
