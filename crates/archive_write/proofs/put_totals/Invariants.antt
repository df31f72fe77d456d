-- The totals of the first j full 64 litters stand in the buffer, and the counts are of those litters.
use Rattle.std.proofs.Common.{◌≡◌, ◌+◌, ◌*◌}
use Rattle.std.proofs.lemmas.List.Edits.{sets}
use Rattle.summary.specs.Both.{BothBelow}
use Rattle.litters.specs.Litters.{count_of}
use Rattle.archive_write.specs.Archive.{counted_to, totals_to}
use Rattle.archive_write.proofs.put_totals.Given as goal

abbrev pub invariant-loop-j : goal.invariant-loop-j
invariant-loop-j l =
    record {
      put : l.out ≡ sets l.initial.out (12 * count_of l.litters) (totals_to l.litters l.j);
      counted : l.counts ≡ counted_to l.litters (64 * l.j);
      below : BothBelow l.counts (64 * l.j + 1);
    }
