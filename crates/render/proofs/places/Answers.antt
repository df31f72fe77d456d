-- The answers for `places`.
use native.Mathlib.Omega.{arith}
use Rattle.render.proofs.Laws.{places_ends, places_turn, places_done}
use Rattle.render.proofs.places.Goals as goal

pub returns-then-rest-lt10 : goal.returns-then-rest-lt10
returns-then-rest-lt10 c = search places_ends

pub loop-k-preserved : goal.loop-k-preserved
loop-k-preserved c = search (places_turn, arith)

pub returns : goal.returns
returns c = search places_done
