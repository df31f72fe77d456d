-- The answers for `inner_row`: the third count is what stands on the meter.
use Rattle.std.proofs.Common.{ap}
use Rattle.store.specs.Stored.{stored}
use Rattle.inner.proofs.inner_row.Goals as goal

pub returns-clause-count : goal.returns-clause-count
unfolding stored
returns-clause-count c h k = rw c.put-2.ensures (ap (λ s. s.meter.used.0) (rw (c.of-m.ensures, c.legendre-rule.ensures) at c.row_objective-r.ensures))
