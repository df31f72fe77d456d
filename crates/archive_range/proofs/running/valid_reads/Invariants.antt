-- The litters still to come decide the whole.
use Rattle.std.proofs.Common.{◌≡◌, ◌-◌}
use Rattle.num.specs.Every.{every_from}
use Rattle.archive.specs.Layout.{valid_of}
use Rattle.archive_range.specs.Reads.{reads_of, valid_reads_of}
use Rattle.archive_range.proofs.running.valid_reads.Given as goal

abbrev pub invariant-loop-k : goal.invariant-loop-k
invariant-loop-k l = every_from (valid_of l.archive.bytes.now) (l.p - l.k) l.k ≡ valid_reads_of l.archive.bytes.now (reads_of l.p)
