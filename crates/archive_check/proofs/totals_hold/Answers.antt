-- `totals_hold` meets its contract, by its test.
use Rattle.archive_check.proofs.Laws.{no_totals_lem, some_totals, same_is}
use Rattle.archive_check.proofs.totals_hold.Goals as goal

pub returns-then-i-ne0 : goal.returns-then-i-ne0
returns-then-i-ne0 c = search no_totals_lem

pub returns : goal.returns
returns c = some_totals _ _ _ _ _ c.if-i-ne0.false c.totals-totals.ensures.value (same_is _ _ _ c.eq.ensures)
