-- The answers for `last`.
use Rattle.std.proofs.Common.{◌≡◌, ◌∙◌, sym, rules, lit≤}
use Rattle.std.proofs.Common.{eqb-true}
use Rattle.std.proofs.lemmas.Bool.{eqb-false}
use Rattle.template.specs.Template.{holes}
use Rattle.read.specs.Request.{closing}
use Rattle.read.specs.Rows.{departed_of, rows_say}
use Rattle.read.proofs.Laws.{last_departs, last_miscounts, last_misplaces, last_goes_on, last_ends}
use Rattle.read.proofs.last.Goals.{then-last-n-via-then-last-n, then-last-n-via-else-last-n+then-last-start}
use Rattle.read.proofs.last.Goals as goal

pub read-requires-clause-places : goal.read-requires-clause-places
unfolding holes
read-requires-clause-places c = lit≤ tt

pub returns-in_err-last : goal.returns-in_err-last
unfolding holes closing
returns-in_err-last c vs =
    let e : rows_say vs c.from_residual.result ≡ departed_of c.in_err-last.field-0.0.line = search rules in
    e ∙ last_departs vs c.args.text.now c.args.start c.args.n _ c.in_err-last.ensures.departs

pub returns-then-last-n : goal.returns-then-last-n
unfolding holes closing
returns-then-last-n c vs =
    let a = c.args in
    let h = c.in_ok-last.ensures.values in
    elim c.then-last-n.branch [
      | then-last-n-via-then-last-n w ↦ last_miscounts vs a.text.now a.start a.n _ _ h w.if-last-n.true
      | then-last-n-via-else-last-n+then-last-start w ↦ last_misplaces vs a.text.now a.start a.n _ _ h w.if-last-n.false w.if-last-start.true
    ]

pub returns-then-not-is_empty : goal.returns-then-not-is_empty
unfolding holes closing
returns-then-not-is_empty c vs =
    let a = c.args in
    last_goes_on vs a.text.now a.start a.n _ _ _ c.in_ok-last.ensures.values c.if-last-n.false c.if-last-start.false c.in_ok-last.ensures.line (eqb-false _ 0 (sym c.if-not-is_empty.ensures))

pub returns : goal.returns
unfolding holes closing
returns c vs =
    let a = c.args in
    last_ends vs a.text.now a.start a.n _ _ c.in_ok-last.ensures.values c.if-last-n.false c.if-last-start.false (eqb-true _ 0 (sym c.if-not-is_empty.ensures))
