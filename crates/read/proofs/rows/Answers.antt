-- The answers for `rows`.
use Rattle.std.proofs.Common.{◌≡◌, sym, ap, ◌∙◌, ◌+◌, ◌<◌, arith, lit≤}
use Rattle.template.specs.Template.{holes}
use Rattle.read.specs.Request.{litter}
use Rattle.read.specs.Rows.{departed_of}
use Rattle.read.proofs.Laws.{litter_small, row_read, row_filled, last_place, row_last, last_filled, rows_end, filled_end}
use Rattle.read.proofs.rows.Goals as goal

pub read-requires-clause-places : goal.read-requires-clause-places
unfolding holes
read-requires-clause-places c = lit≤ tt

pub returns-in_default-clause-value : goal.returns-in_default-clause-value
unfolding litter holes
returns-in_default-clause-value c vs =
    let l = c.loop-n in
    c.last.ensures vs ∙ last_place l.rest.now l.n vs _ c.args.start (omega arith) ∙ (rw (row_last l.rest.now l.n _ c.in_default.ensures.departs vs c.args.start (omega arith)) at (l.invariant.reads vs))

pub returns-in_default-clause-filled : goal.returns-in_default-clause-filled
unfolding litter holes
returns-in_default-clause-filled c =
    let l = c.loop-n in
    last_filled l.rest.now l.n _ c.in_default.ensures.departs l.litters (omega arith) ∙ l.invariant.filled

pub put-requires-clause-group : goal.put-requires-clause-group
unfolding litter holes
put-requires-clause-group c = (litter_small c.loop-n.rest.now c.loop-n.n _ _ c.in-Ok.ensures.values).0

pub put-requires-clause-successes : goal.put-requires-clause-successes
unfolding litter holes
put-requires-clause-successes c = (litter_small c.loop-n.rest.now c.loop-n.n _ _ c.in-Ok.ensures.values).1

pub put-requires-clause-total : goal.put-requires-clause-total
unfolding litter holes
put-requires-clause-total c = (litter_small c.loop-n.rest.now c.loop-n.n _ _ c.in-Ok.ensures.values).2

pub loop-n-preserved : goal.loop-n-preserved
unfolding litter holes
loop-n-preserved c =
    let l = c.loop-n in
    let h : l.n < 8192 = omega arith in
    record {
      reads = λ vs. sym (row_read l.rest.now l.n _ _ c.in-Ok.ensures.values vs c.args.start h) ∙ l.invariant.reads vs;
      filled = rw c.put.ensures (sym (row_filled l.rest.now l.n _ _ c.in-Ok.ensures.values l.litters h) ∙ l.invariant.filled);
    }

pub returns-clause-value : goal.returns-clause-value
returns-clause-value c vs =
    let l = c.loop-n in
    let e : 8200 ≡ 8 + l.n = omega arith in
    ap departed_of e ∙ sym (rows_end vs l.rest.now c.args.start l.n (omega arith)) ∙ l.invariant.reads vs

pub returns-clause-filled : goal.returns-clause-filled
returns-clause-filled c = let l = c.loop-n in filled_end l.litters l.rest.now l.n (omega arith) ∙ l.invariant.filled
