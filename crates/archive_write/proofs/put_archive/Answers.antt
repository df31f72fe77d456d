-- `put_archive` meets its contract: the three parts one after the other.
use Rattle.archive_write.proofs.Laws.{archive_put}
use Rattle.archive_write.proofs.put_archive.Goals as goal

pub returns : goal.returns
returns c = archive_put _ _ _ _ _ c.requires.room c.put_litters.ensures c.put_totals.ensures c.put_trailer.ensures
