-- The answers for `claim_at`.
use Rattle.std.proofs.Common.{arith}
use Rattle.claimed.proofs.Laws.{claim_nowhere, claim_here, no_line_here, no_claim_here}
use Rattle.claimed.proofs.claim_at.Goals.{else-last-eq10-via-then-last-eq10+else-c-eq99, else-last-eq10-via-else-last-eq10}
use Rattle.claimed.proofs.claim_at.Goals as goal

pub returns-then-c-eq99-clause-value : goal.returns-then-c-eq99-clause-value
returns-then-c-eq99-clause-value c = claim_here _ _ _ _ c.loop-i.invariant (omega arith) c.if-last-eq10.true c.if-c-eq99.true

pub loop-i-preserved : goal.loop-i-preserved
loop-i-preserved c =
    elim c.else-last-eq10.branch [
      | else-last-eq10-via-then-last-eq10+else-c-eq99 w ↦ no_claim_here _ _ _ _ c.loop-i.invariant (omega arith) w.if-last-eq10.true w.if-c-eq99.false
      | else-last-eq10-via-else-last-eq10 w ↦ no_line_here _ _ _ _ c.loop-i.invariant (omega arith) w.if-last-eq10.false
    ]

pub returns-clause-value : goal.returns-clause-value
returns-clause-value c = claim_nowhere _ _ _ _ c.loop-i.invariant (omega arith) (omega arith)
