-- `bytes::put_litter` meets its contract, word by word.
use Rattle.archive_write.proofs.Laws.{litter_put}
use Rattle.archive_write.proofs.bytes.put_litter.Goals as goal

pub returns : goal.returns
returns c =
    let l = c.args.litter in
    litter_put _ _ _ _ _ l.successes l.total l.group
    (rw c.from.ensures at c.put_word.ensures) (rw c.from-2.ensures at c.put_word-2.ensures) (rw c.from-3.ensures at c.put_word-3.ensures)
