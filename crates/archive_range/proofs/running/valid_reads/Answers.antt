-- The answers for `valid_reads`.
use Rattle.num.specs.Choose.{choose}
use Rattle.num.specs.Every.{every_stops, every_turns, every_ends}
use Rattle.archive_range.proofs.Laws.{valid_begin}
use Rattle.archive_range.proofs.running.valid_reads.Goals as goal

pub loop-k-init : goal.loop-k-init
loop-k-init c = valid_begin _ _

pub returns-then-not-valid : goal.returns-then-not-valid
returns-then-not-valid c = search (every_stops, choose)

pub loop-k-preserved : goal.loop-k-preserved
loop-k-preserved c = search (every_turns, choose)

pub returns : goal.returns
returns c = search every_ends
