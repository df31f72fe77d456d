-- `bytes::put_trailer` meets its contract, word by word.
use Rattle.archive_write.proofs.Laws.{trailer_put}
use Rattle.archive_write.proofs.bytes.put_trailer.Goals as goal

pub returns : goal.returns
returns c = search trailer_put fits 8000 depth 8
