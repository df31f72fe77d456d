-- `report::fit_admitted` meets its contract, by what its callees ensure.
use Rattle.exposure.specs.Passed.{admitted_few, admitted_paired}
use Rattle.counts_fit.proofs.Laws.{some, within, gives}
use Rattle.counts_fit.proofs.report.fit_admitted.Goals as goal

pub run-d-requires-clause-few : goal.run-d-requires-clause-few
run-d-requires-clause-few c = admitted_few _ _ _ c.requires

pub run-d-requires-clause-paired : goal.run-d-requires-clause-paired
run-d-requires-clause-paired c = admitted_paired _ _ _ c.requires

pub run-d-requires-clause-some : goal.run-d-requires-clause-some
run-d-requires-clause-some c = some _ _ _ c.requires _ c.plan.ensures

pub run-d-requires-clause-within : goal.run-d-requires-clause-within
run-d-requires-clause-within c = within _ _ _ c.requires _ c.plan.ensures

pub returns : goal.returns
returns c = gives _ _ _ c.requires _ c.plan.ensures _ _ _ c.start.ensures c.run-d.ensures c.reported.ensures
