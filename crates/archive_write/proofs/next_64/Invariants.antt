-- The counts are of the litters so far.
use Rattle.std.proofs.Common.{◌≡◌, ◌+◌}
use Rattle.summary.specs.Both.{BothBelow}
use Rattle.archive_write.specs.Archive.{counted_to}
use Rattle.archive_write.proofs.next_64.Given as goal

abbrev pub invariant-loop-row : goal.invariant-loop-row
invariant-loop-row l = record { counted : l.counts ≡ counted_to l.litters (l.i + l.row-index); below : BothBelow l.counts (l.i + l.row-index + 1) }
