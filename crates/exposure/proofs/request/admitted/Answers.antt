-- `request::admitted` meets its contract: what passed the tests before bounds the product.
use mathlib.Core.Path.{sym, ◌∙◌}
use Rattle.std.proofs.Common.{true≢false}
use Rattle.exposure.proofs.Laws.{bounds}
use Rattle.exposure.proofs.request.admitted.Goals as goal
use Rattle.exposure.proofs.request.admitted.Goals.{then-valid_request, else-valid_request}

pub valid_work-requires : goal.valid_work-requires
valid_work-requires c =
    elim c.if-valid_request.branch [
      | then-valid_request w ↦ bounds c.args.r c.args.counts.now c.args.exposures.now (sym c.valid_request.ensures ∙ w.if-valid_request.true) (sym w.valid_rows.ensures ∙ (sym w.value-is ∙ c.if-valid_rows.true))
      | else-valid_request w ↦ absurd (true≢false (sym c.if-valid_rows.true ∙ (w.value-is ∙ w.if-valid_request.false)))
    ]
