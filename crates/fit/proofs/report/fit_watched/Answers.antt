-- `report::fit_watched` meets its contract, by its tests and its callees' contracts.
use Rattle.num.specs.Choose.{choose}
use Rattle.fit.proofs.FitLaws.{fit_limit, fit_refused, fit_goes}
use Rattle.fit.proofs.report.fit_watched.Goals as goal

pub returns-then-not-up_to : goal.returns-then-not-up_to
returns-then-not-up_to c = search (fit_limit, choose) fits 8000 depth 8

pub returns-then-not-admitted : goal.returns-then-not-admitted
returns-then-not-admitted c = search (fit_refused, choose) fits 8000 depth 8

pub returns : goal.returns
returns c = search (fit_goes, choose) fits 8000 depth 8
