-- `fit_probit_normal_binomial` meets its contract: what is answered of the numbers that are handed on.
use Rattle.std.proofs.Common.{ap, ◌∙◌}
use Rattle.fit.specs.Fit.{fit_of}
use Rattle.records.specs.Kept.{fit_kept}
use Rattle.records.proofs.fit_probit_normal_binomial.Goals as goal

pub returns : goal.returns
returns c =
    let h = c.with_numbers.ensures in
    h.1 ∙ ap (fit_of c.args.r) h.2 ∙ fit_kept c.args.litters.now c.args.r
