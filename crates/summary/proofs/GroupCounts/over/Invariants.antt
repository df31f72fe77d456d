-- The rows are the lent run's, and the counts so far and those of the litters still to come make the whole.
use Rattle.std.proofs.Common.{◌≡◌, ◌-◌}
use Rattle.litters.specs.Litters.{count_of}
use Rattle.summary.specs.Summary.{plus_of, counts_from, counts_of}
use Rattle.summary.specs.Most.{Below}
use Rattle.summary.proofs.Laws.{RowsOf}
use Rattle.summary.proofs.GroupCounts.over.Given as goal

abbrev pub invariant-loop-row : goal.invariant-loop-row
invariant-loop-row l =
    record {
      rows : RowsOf l.litters l.row-items;
      below : Below l.counts l.row-index;
      sum : plus_of l.counts (counts_from l.litters l.asked (count_of l.litters - l.row-index) l.row-index) ≡ counts_of l.litters l.asked;
    }
