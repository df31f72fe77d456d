-- `bytes::put_group` meets its contract, word by word.
use Rattle.archive_write.proofs.Laws.{group_put}
use Rattle.archive_write.proofs.bytes.put_group.Goals as goal

pub returns : goal.returns
returns c = search group_put fits 8000 depth 8
