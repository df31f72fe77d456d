-- `lanes::erfcs` meets its contract: each part is what its sixteen calls give.
use borrow.Author.Rules.{rules}
use Rattle.num.specs.Made.{made}
use Rattle.lanes.specs.ErfcParts.{erfc_places, erfcs_by_row, erfcs_chosen}
use Rattle.lanes.proofs.ErfcLaws.{together}
use Rattle.lanes.proofs.erfcs.Goals as goal

pub returns : goal.returns
unfolding erfc_places erfcs_by_row erfcs_chosen
returns c =
    together _ _ _ _
    (made _ _ _ (λ i y q l s. (search rules, search rules)) _ c.from_fn-m.ensures.items)
    (made _ _ _ (λ i y q l s. (search rules, search rules)) _ c.from_fn-v.ensures.items)
    (made _ _ _ (λ i y q l s. (search rules, search rules)) _ c.from_fn.ensures.items)
