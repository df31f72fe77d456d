-- `report::fit_gamma_poisson` meets its contract, by its test.
use Rattle.counts_fit.proofs.Laws.{refuses}
use Rattle.counts_fit.proofs.report.fit_gamma_poisson.Goals as goal

pub returns-then-not-admitted : goal.returns-then-not-admitted
returns-then-not-admitted c = refuses _ _ _ _ c.admitted.ensures c.if-not-admitted.true _ c.refusal.ensures
