-- The answers for `behind`: no claim, something after it, or the claim.
use Rattle.std.proofs.Common.{◌≡◌, ◌∙◌, sym, Err, eqb-true, rules, lit≤}
use Rattle.std.proofs.lemmas.Bool.{eqb-false}
use Rattle.template.specs.Template.{holes}
use Rattle.claimed.specs.Claimed.{claim}
use Rattle.claimed.proofs.Laws.{behind_departs, behind_goes_on, behind_ends}
use Rattle.claimed.proofs.behind.Goals as goal

pub read-requires-clause-places : goal.read-requires-clause-places
unfolding holes
read-requires-clause-places c = lit≤ tt

pub returns-in_err-r : goal.returns-in_err-r
unfolding claim
returns-in_err-r c =
    let e : c.from_residual.result ≡ Err c.in_err-r.field-0.0 = search rules in
    e ∙ behind_departs c.args.text.now c.args.n _ c.in_err-r.ensures.departs

pub returns-then-not-is_empty : goal.returns-then-not-is_empty
unfolding holes claim
returns-then-not-is_empty c =
    behind_goes_on c.args.text.now c.args.n _ _ _ c.in_ok-r.ensures.values c.in_ok-r.ensures.line (eqb-false _ 0 (sym c.if-not-is_empty.ensures))

pub returns : goal.returns
unfolding holes claim
returns c = behind_ends c.args.text.now c.args.n _ _ c.in_ok-r.ensures.values (eqb-true _ 0 (sym c.if-not-is_empty.ensures))
