-- As far as the loop has gone, the claim begins later.
use Rattle.std.proofs.Common.{◌≡◌, ◌+◌, drop}
use Rattle.claimed.specs.Claimed.{claim_at_of}
use Rattle.claimed.proofs.claim_at.Given as goal

abbrev pub invariant-loop-i : goal.invariant-loop-i
invariant-loop-i l = claim_at_of 10 l.text ≡ l.i + claim_at_of l.last (drop l.i l.text)
