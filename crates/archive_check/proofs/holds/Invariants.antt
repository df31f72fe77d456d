-- The litters still to come decide the whole, and the counts are of those before them.
use Rattle.std.proofs.Common.{◌≡◌, ◌+◌, ◌-◌}
use Rattle.num.specs.Every.{every_from}
use Rattle.summary.specs.Both.{BothBelow}
use Rattle.archive.specs.Layout.{count_in}
use Rattle.archive.specs.Counts.{counts_to}
use Rattle.archive_check.specs.Check.{holds_at}
use Rattle.archive_check.proofs.holds.Given as goal

abbrev pub invariant-loop-i : goal.invariant-loop-i
invariant-loop-i l =
    record {
      below : BothBelow l.counts (l.i + 1);
      counted : l.counts ≡ counts_to l.archive.bytes.now l.i;
      every : every_from (holds_at l.archive.bytes.now) (count_in l.archive.bytes.now - l.i) l.i ≡ every_from (holds_at l.archive.bytes.now) (count_in l.archive.bytes.now) 0;
    }
