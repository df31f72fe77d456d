-- The answers for `request`: the size, the head, then the lines after it.
use Rattle.std.proofs.Common.{◌≡◌, ap, ◌∙◌, Ok, Err, rules, lit≤}
use Rattle.template.specs.Template.{holes}
use Rattle.read.specs.Request.{head}
use Rattle.read.specs.Rows.{asking_of}
use Rattle.read.proofs.Laws.{too_long, head_departs, head_read, head_filled, head_inside, say_count, say_departs}
use Rattle.read.proofs.request.Goals as goal

pub returns-then-text-gt8192-clause-value : goal.returns-then-text-gt8192-clause-value
returns-then-text-gt8192-clause-value c = (too_long c.args.litters.now _ c.if-text-gt8192.true).0

pub returns-then-text-gt8192-clause-filled : goal.returns-then-text-gt8192-clause-filled
returns-then-text-gt8192-clause-filled c = (too_long _ _ c.if-text-gt8192.true).1

pub read-requires-clause-places : goal.read-requires-clause-places
unfolding holes
read-requires-clause-places c = lit≤ tt

pub returns-in_err-head-clause-value : goal.returns-in_err-head-clause-value
unfolding head
returns-in_err-head-clause-value c =
    let e : c.from_residual.result ≡ Err c.in_err-head.field-0.0 = search rules in
    e ∙ (head_departs c.args.litters.now c.args.text.now c.if-text-gt8192.false _ c.in_err-head.ensures.departs).0

pub returns-in_err-head-clause-filled : goal.returns-in_err-head-clause-filled
unfolding head
returns-in_err-head-clause-filled c = (head_departs c.args.litters.now c.args.text.now c.if-text-gt8192.false _ c.in_err-head.ensures.departs).1

pub overflow_sub-start : goal.overflow_sub-start
unfolding head holes
overflow_sub-start c = head_inside c.args.text.now _ _ c.in_ok-head.ensures.values

pub returns-in_err-count-clause-value : goal.returns-in_err-count-clause-value
unfolding head holes
returns-in_err-count-clause-value c =
    let r = c.in_ok-head.ensures in
    let v = c.in_ok-head.head.values in
    let e : c.from_residual-in_err-count.result ≡ Err c.in_err-count.field-0.0 = search rules in
    let i : c.rows.result ≡ Err c.in_err-count.field-0.0 = search rules in
    e ∙ say_departs v c.rows.result _ _ i (c.rows.ensures.value v) ∙ ap (asking_of 0) (head_read c.args.litters.now c.args.text.now c.if-text-gt8192.false v _ r.values r.places)

pub returns-in_err-count-clause-filled : goal.returns-in_err-count-clause-filled
unfolding head holes
returns-in_err-count-clause-filled c =
    c.rows.ensures.filled ∙ head_filled c.args.litters.now c.args.text.now c.if-text-gt8192.false _ _ c.in_ok-head.ensures.values

pub returns-clause-value : goal.returns-clause-value
unfolding head holes
returns-clause-value c =
    let r = c.in_ok-head.ensures in
    let v = c.in_ok-head.head.values in
    let i : c.rows.result ≡ Ok c.in_ok-count.count = search rules in
    say_count v c.rows.result _ _ i (c.rows.ensures.value v) ∙ ap (asking_of 0) (head_read c.args.litters.now c.args.text.now c.if-text-gt8192.false v _ r.values r.places)

pub returns-clause-filled : goal.returns-clause-filled
unfolding head holes
returns-clause-filled c =
    c.rows.ensures.filled ∙ head_filled c.args.litters.now c.args.text.now c.if-text-gt8192.false _ _ c.in_ok-head.ensures.values
