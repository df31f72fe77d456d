-- The answers for `answer`: a text without the form, too many litters, or the fit.
use Rattle.std.proofs.Common.{refl, ◌*◌, take, arith}
use Rattle.fit.specs.Fit.{fit_of}
use Rattle.print.specs.Room.{whole_answer, refusal_fits, answer_fits}
use Rattle.text.proofs.Laws.{answer_form, answer_many, answer_fit}
use Rattle.text.proofs.answer.Goals as goal

pub returns-in-Err-clause-answered : goal.returns-in-Err-clause-answered
returns-in-Err-clause-answered c =
    let e = answer_form c.request.new.litters c.request.new.litters c.args.text.now _ c.in-Err.ensures.value in
    (whole_answer _ _ _ _ _ c.if-out-lt512.false e (c.refusal.ensures.length, c.refusal.ensures.text) (omega (arith, refusal_fits 4 0 c.in-Err.form.line))).1.0

pub returns-in-Err-clause-at_most : goal.returns-in-Err-clause-at_most
returns-in-Err-clause-at_most c = omega (arith, c.refusal.ensures.length, refusal_fits 4 0 c.in-Err.form.line)

pub returns-in-Ok-clause-answered : goal.returns-in-Ok-clause-answered
returns-in-Ok-clause-answered c =
    let e = answer_many c.request.new.litters c.request.new.litters c.args.text.now _ c.in-Ok.ensures.value c.if-asking-gt128.true in
    (whole_answer _ _ _ _ _ c.if-out-lt512.false e (c.refusal-in-Ok.ensures.length, c.refusal-in-Ok.ensures.text) (omega (arith, refusal_fits 1 0 0))).1.0

pub returns-in-Ok-clause-at_most : goal.returns-in-Ok-clause-at_most
returns-in-Ok-clause-at_most c = omega (arith, c.refusal-in-Ok.ensures.length, refusal_fits 1 0 0)

pub returns-in-Ok-2-clause-answered : goal.returns-in-Ok-2-clause-answered
returns-in-Ok-2-clause-answered c =
    let e = answer_fit _ _ c.args.text.now _ c.in-Ok.ensures.value c.request.ensures.filled refl c.if-asking-gt128.false in
    (whole_answer _ _ _ _ _ c.if-out-lt512.false (rw c.request-in-Ok-2.ensures e) (c.fitted.ensures.length, c.fitted.ensures.text) (answer_fits _)).1.0

pub returns-in-Ok-2-clause-at_most : goal.returns-in-Ok-2-clause-at_most
returns-in-Ok-2-clause-at_most c = omega (arith, c.fitted.ensures.length, answer_fits (fit_of c.request-in-Ok-2.result (take (3 * c.in-Ok.asking.count) c.request.new.litters)))
