-- `positive_fixed_effect_intervals` meets its contract: what a shape that passed says of the lengths.
use Rattle.num.specs.Choose.{choose}
use Rattle.intervals.proofs.Laws.{passed_few, passed_same, passed_errors, passed_rows}
use Rattle.intervals.proofs.answer.positive_fixed_effect_intervals.Goals as goal

pub factored-requires-clause-few : goal.factored-requires-clause-few
factored-requires-clause-few c = search (passed_errors, choose)

pub factored-requires-clause-square : goal.factored-requires-clause-square
factored-requires-clause-square c = search (passed_rows, choose)

pub collected-requires-clause-few : goal.collected-requires-clause-few
collected-requires-clause-few c = search (passed_few, choose)

pub collected-requires-clause-same : goal.collected-requires-clause-same
collected-requires-clause-same c = search (passed_same, choose)
