-- The answers for `put`.
use native.Mathlib.Omega.{arith}
use Rattle.render.proofs.Laws.{same_written, put_text, put_length, put_room, put_fits, put_ends, put_done, taken_few, kept}
use Rattle.render.proofs.put.Goals as goal

pub piece-next-requires : goal.piece-next-requires
piece-next-requires c = search put_fits

pub loop-c-preserved : goal.loop-c-preserved
loop-c-preserved c = (search put_text, search put_length, search (kept, same_written), search put_room, search taken_few, omega arith)

pub returns : goal.returns
returns c = search (put_ends, put_done)
