-- `lanes::exps` meets its contract: each part is what its sixteen calls give.
use borrow.Author.Rules.{rules}
use Rattle.num.specs.Made.{made}
use Rattle.lanes.specs.ExpParts.{exp_places, exp_rows_for, exps_by_row, exps_chosen}
use Rattle.lanes.proofs.ExpLaws.{together}
use Rattle.lanes.proofs.exps.Goals as goal

pub returns : goal.returns
unfolding exp_places exp_rows_for exps_by_row exps_chosen
returns c =
    together _ _ _ _ _
    (made _ _ _ (λ i y q l s. (search rules, search rules)) _ c.from_fn-m.ensures.items)
    (made _ _ _ (λ i y q l s. (search rules, search rules)) _ c.from_fn-rows.ensures.items)
    (made _ _ _ (λ i y q l s. (search rules, search rules)) _ c.from_fn-v.ensures.items)
    (made _ _ _ (λ i y q l s. (search rules, search rules)) _ c.from_fn.ensures.items)
