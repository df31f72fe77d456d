-- `lanes::logs` meets its contract: each part is what its sixteen calls give.
use borrow.Author.Rules.{rules}
use Rattle.num.specs.Made.{made}
use Rattle.lanes.specs.LogParts.{log_places, log_rows_for, logs_by_row, logs_chosen}
use Rattle.lanes.proofs.LogLaws.{together}
use Rattle.lanes.proofs.logs.Goals as goal

pub returns : goal.returns
unfolding log_places log_rows_for logs_by_row logs_chosen
returns c =
    together _ _ _ _ _
    (made _ _ _ (λ i y q l s. (search rules, search rules)) _ c.from_fn-t.ensures.items)
    (made _ _ _ (λ i y q l s. (search rules, search rules)) _ c.from_fn-rows.ensures.items)
    (made _ _ _ (λ i y q l s. (search rules, search rules)) _ c.from_fn-v.ensures.items)
    (made _ _ _ (λ i y q l s. (search rules, search rules)) _ c.from_fn.ensures.items)
