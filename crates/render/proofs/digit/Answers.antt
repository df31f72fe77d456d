-- The answers for `digit`.
use native.Mathlib.Omega.{arith}
use borrow.Author.Rules.{rules}
use Rattle.render.proofs.Laws.{digit_begins, digit_turn, digit_done}
use Rattle.render.proofs.digit.Goals as goal

pub loop-init : goal.loop-init
loop-init c = search (digit_begins, rules)

pub loop-preserved : goal.loop-preserved
loop-preserved c = search (digit_turn, arith)

pub returns : goal.returns
returns c = search digit_done
