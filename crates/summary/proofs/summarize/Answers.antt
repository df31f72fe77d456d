-- `summarize` meets its contract, by its test and what its callees ensure.
use Rattle.num.specs.Choose.{choose}
use Rattle.summary.proofs.Laws.{valid_few, summary_stops, summary_goes}
use Rattle.summary.proofs.summarize.Goals as goal

pub returns-then-not-valid_litters : goal.returns-then-not-valid_litters
returns-then-not-valid_litters c = search (summary_stops, choose)

pub over-requires : goal.over-requires
over-requires c = search (valid_few, choose)

pub over-requires-2 : goal.over-requires-2
over-requires-2 c = search (valid_few, choose)

pub returns : goal.returns
returns c = search (summary_goes, choose)
