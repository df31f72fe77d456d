-- What is summed and the litters still to come make the whole.
use Rattle.std.proofs.Common.{◌≡◌, ◌+◌, ◌-◌}
use Rattle.num.specs.Fold.{fold_from}
use Rattle.summary.specs.Both.{BothBelow}
use Rattle.archive_range.specs.Reads.{running_of}
use Rattle.archive_range.proofs.Laws.{with_litter}
use Rattle.archive_range.proofs.running.running.Given as goal

abbrev pub invariant-loop-i : goal.invariant-loop-i
invariant-loop-i l =
    record {
      below : BothBelow l.counts (l.i + 1);
      sum : fold_from (with_litter l.archive.bytes.now) (l.p - l.i) l.i l.counts ≡ running_of l.archive.bytes.now l.p;
    }
