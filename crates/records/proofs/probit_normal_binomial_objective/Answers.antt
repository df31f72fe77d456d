-- `probit_normal_binomial_objective` meets its contract: what is answered of the numbers that are handed on.
use Rattle.std.proofs.Common.{ap, ◌∙◌}
use Rattle.objective.specs.Objective.{objective_of}
use Rattle.records.specs.Kept.{objective_kept}
use Rattle.records.proofs.probit_normal_binomial_objective.Goals as goal

pub returns : goal.returns
returns c =
    let h = c.with_numbers.ensures in
    h.1 ∙ ap (objective_of c.args.point) h.2 ∙ objective_kept c.args.litters.now c.args.point
