-- `bytes::put_counts` meets its contract, group by group.
use Rattle.archive_write.proofs.Laws.{counts_put}
use Rattle.archive_write.proofs.bytes.put_counts.Goals as goal

pub returns : goal.returns
returns c = search counts_put
