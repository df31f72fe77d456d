-- `rows` meets its contract, as std's chunks of three.
use Rattle.litters.proofs.Laws.{chunk_row}
use Rattle.litters.proofs.rows.Goals as goal

pub returns-clause-each : goal.returns-clause-each
returns-clause-each c = λ i none h. rw c.as_chunks.ensures.front (chunk_row c.args.litters.now i none h)
