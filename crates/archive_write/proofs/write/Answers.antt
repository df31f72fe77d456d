-- `write` meets its contract: nothing is written, or the archive.
use Rattle.num.specs.Choose.{choose}
use Rattle.archive_write.proofs.Laws.{few, has_room, write_done, not_written}
use Rattle.archive_write.proofs.write.Goals as goal

pub returns-then-not-is_writable : goal.returns-then-not-is_writable
returns-then-not-is_writable c = search (not_written, choose)

pub put_archive-requires-clause-few : goal.put_archive-requires-clause-few
put_archive-requires-clause-few c = search (few, choose)

pub put_archive-requires-clause-room : goal.put_archive-requires-clause-room
put_archive-requires-clause-room c = search (has_room, choose)

pub returns : goal.returns
returns c = search (write_done, choose)
