-- The answers for `answer`: a text without the form, too many litters, or the verdict.
use Rattle.std.proofs.Common.{refl, ◌*◌, take, arith}
use Rattle.print.specs.Room.{whole_answer, refusal_fits}
use Rattle.vet.specs.Vet.{vet_of}
use Rattle.vet_text.specs.Answered.{vetted_fits}
use Rattle.vet_text.proofs.Laws.{answer_form, answer_many, answer_vet}
use Rattle.vet_text.proofs.answer.Goals as goal

pub returns-in-Err-clause-answered : goal.returns-in-Err-clause-answered
returns-in-Err-clause-answered c =
    let e = answer_form c.claimed.new.litters c.claimed.new.litters c.args.text.now _ c.in-Err.ensures.value in
    (whole_answer _ _ _ _ _ c.if-out-lt512.false e (c.refusal.ensures.length, c.refusal.ensures.text) (omega (arith, refusal_fits 4 0 c.in-Err.form.line))).1.0

pub returns-in-Err-clause-at_most : goal.returns-in-Err-clause-at_most
returns-in-Err-clause-at_most c = omega (arith, c.refusal.ensures.length, refusal_fits 4 0 c.in-Err.form.line)

pub returns-in-Ok-clause-answered : goal.returns-in-Ok-clause-answered
returns-in-Ok-clause-answered c =
    let e = answer_many c.claimed.new.litters c.claimed.new.litters c.args.text.now _ c.in-Ok.ensures.value c.if-a-gt128.true in
    (whole_answer _ _ _ _ _ c.if-out-lt512.false e (c.refusal-in-Ok.ensures.length, c.refusal-in-Ok.ensures.text) (omega (arith, refusal_fits 1 0 0))).1.0

pub returns-in-Ok-clause-at_most : goal.returns-in-Ok-clause-at_most
returns-in-Ok-clause-at_most c = omega (arith, c.refusal-in-Ok.ensures.length, refusal_fits 1 0 0)

pub returns-in-Ok-2-clause-answered : goal.returns-in-Ok-2-clause-answered
returns-in-Ok-2-clause-answered c =
    let e = answer_vet _ _ c.args.text.now _ c.in-Ok.ensures.value c.claimed.ensures.filled refl c.if-a-gt128.false in
    (whole_answer _ _ _ _ _ c.if-out-lt512.false (rw (c.request-request.ensures, c.claim_of.ensures) e) (c.judged.ensures.length, c.judged.ensures.text) (vetted_fits _)).1.0

pub returns-in-Ok-2-clause-at_most : goal.returns-in-Ok-2-clause-at_most
returns-in-Ok-2-clause-at_most c = omega (arith, c.judged.ensures.length, vetted_fits (vet_of c.request-request.result (take (3 * c.in-Ok.a.asking.count) c.claimed.new.litters) c.claim_of.result))
