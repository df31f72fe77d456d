-- `bytes::put_word` meets its contract: four bytes copied are one run.
use Rattle.std.proofs.Common.{arith}
use Rattle.archive_write.proofs.Laws.{word_put}
use Rattle.archive_write.proofs.bytes.put_word.Goals as goal

pub returns : goal.returns
returns c = word_put _ _ _ _ _ _ _ c.requires (omega arith) c.to_le_bytes.ensures c.copy_from_slice.ensures.after
