-- The answers for `claimed`: the size, the request before the claim, then the claim.
use Rattle.std.proofs.Common.{◌≡◌, ◌∙◌, take, Ok, Err, ap, rules}
use Rattle.read.specs.Request.{read_request}
use Rattle.read.specs.Rows.{asking_of, fill_request}
use Rattle.claimed.proofs.Laws.{too_long, filled, request_departs, request_holds, few_asked}
use Rattle.claimed.proofs.claimed.Goals as goal

pub returns-then-text-gt8192-clause-value : goal.returns-then-text-gt8192-clause-value
returns-then-text-gt8192-clause-value c = (too_long c.args.litters.now _ c.if-text-gt8192.true).0

pub returns-then-text-gt8192-clause-filled : goal.returns-then-text-gt8192-clause-filled
returns-then-text-gt8192-clause-filled c = (too_long _ _ c.if-text-gt8192.true).1

pub returns-in_err-asking-clause-value : goal.returns-in_err-asking-clause-value
returns-in_err-asking-clause-value c =
    let a = c.args in
    let e : c.from_residual.result ≡ Err c.in_err-asking.field-0.0 = search rules in
    let s : Err c.in_err-asking.field-0.0 ≡ asking_of 0 (read_request (take c.claim_at.result a.text.now)) = rw c.split_at.ensures.front at c.in_err-asking.ensures.value in
    e ∙ request_departs a.litters.now a.text.now c.if-text-gt8192.false c.claim_at.result c.claim_at.ensures.value _ s

pub returns-in_err-asking-clause-filled : goal.returns-in_err-asking-clause-filled
returns-in_err-asking-clause-filled c =
    let a = c.args in
    filled a.litters.now a.text.now c.if-text-gt8192.false c.claim_at.result c.claim_at.ensures.value _ (c.request.ensures.filled ∙ ap (fill_request a.litters.now) c.split_at.ensures.front)

pub behind-requires : goal.behind-requires
behind-requires c = few_asked _ _ c.in_ok-asking.ensures.value

pub returns-in_err-claim-clause-value : goal.returns-in_err-claim-clause-value
returns-in_err-claim-clause-value c =
    let a = c.args in
    let e : c.from_residual-in_err-claim.result ≡ Err c.in_err-claim.field-0.0 = search rules in
    let s = rw c.split_at.ensures.front at c.in_ok-asking.ensures.value in
    let r = rw c.split_at.ensures.back at c.in_err-claim.ensures in
    e ∙ request_holds a.litters.now a.text.now c.if-text-gt8192.false c.claim_at.result c.claim_at.ensures.value _ (Err c.in_err-claim.field-0.0) s r

pub returns-in_err-claim-clause-filled : goal.returns-in_err-claim-clause-filled
returns-in_err-claim-clause-filled c =
    let a = c.args in
    filled a.litters.now a.text.now c.if-text-gt8192.false c.claim_at.result c.claim_at.ensures.value _ (c.request.ensures.filled ∙ ap (fill_request a.litters.now) c.split_at.ensures.front)

pub returns-clause-value : goal.returns-clause-value
returns-clause-value c =
    let a = c.args in
    let s = rw c.split_at.ensures.front at c.in_ok-asking.ensures.value in
    let r = rw c.split_at.ensures.back at c.in_ok-claim.ensures in
    request_holds a.litters.now a.text.now c.if-text-gt8192.false c.claim_at.result c.claim_at.ensures.value c.in_ok-asking.asking (Ok c.in_ok-claim.claim) s r

pub returns-clause-filled : goal.returns-clause-filled
returns-clause-filled c =
    let a = c.args in
    filled a.litters.now a.text.now c.if-text-gt8192.false c.claim_at.result c.claim_at.ensures.value _ (c.request.ensures.filled ∙ ap (fill_request a.litters.now) c.split_at.ensures.front)
