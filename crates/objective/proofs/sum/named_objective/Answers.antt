-- `sum::named_objective` meets its contract, by its tests and its callees' contracts.
use Rattle.std.proofs.Common.{◌≡◌, true, false, ◌∙◌, rules}
use Rattle.litters.specs.Valid.{valid_litters_of}
use Rattle.objective.proofs.Laws.{point_fails, litters_fail, both_hold}
use Rattle.objective.proofs.sum.named_objective.Goals as goal

pub returns-then-not-valid_point : goal.returns-then-not-valid_point
returns-then-not-valid_point c = rw c.invalid.ensures (point_fails _ _ _ _ c.if-not-valid_point.ensures)

pub returns-then-not-valid_litters : goal.returns-then-not-valid_litters
returns-then-not-valid_litters c =
    let said = c.if-not-valid_litters.ensures in
    let f : false ≡ valid_litters_of c.args.litters.now = search rules in
    rw c.invalid-then-not-valid_litters.ensures (litters_fail _ _ _ _ c.if-not-valid_point.ensures f)

pub returns : goal.returns
returns c =
    let said = c.if-not-valid_litters.ensures in
    let f : true ≡ valid_litters_of c.args.litters.now = search rules in
    c.summed.ensures ∙ both_hold _ _ _ _ c.if-not-valid_point.ensures f
