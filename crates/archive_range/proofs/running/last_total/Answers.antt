-- `running::last_total` meets its contract: no totals yet, or those of the last full 64 litters.
use Rattle.summary.specs.Both.{both_none_is}
use Rattle.archive_range.proofs.Laws.{no_total, one_total}
use Rattle.archive_range.proofs.running.last_total.Goals as goal

pub returns-then-full-eq0-clause-value : goal.returns-then-full-eq0-clause-value
returns-then-full-eq0-clause-value c = no_total _ _ _ c.if-full-eq0.true (both_none_is c.default.result c.default.ensures)

pub returns-clause-value : goal.returns-clause-value
returns-clause-value c = one_total _ _ _ c.if-full-eq0.false c.totals.ensures.value
