-- The answers for `digits`.
use native.Mathlib.Omega.{arith}
use borrow.Author.Rules.{rules}
use Rattle.render.proofs.Laws.{digit_small, digits_begin, digits_turn, digits_done}
use Rattle.render.proofs.digits.Goals as goal

pub loop-i-init : goal.loop-i-init
loop-i-init c = search (digits_begin, rules)

pub glyph-requires : goal.glyph-requires
glyph-requires c = search (digit_small, arith)

pub loop-i-preserved : goal.loop-i-preserved
loop-i-preserved c = search (digits_turn, rules)

pub returns : goal.returns
returns c = search (digits_done, rules)
