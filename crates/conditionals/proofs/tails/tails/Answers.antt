-- The answers for `tails`.
use mathlib.Core.Path.{refl}
use borrow.Author.Rules.{rules}
use Rattle.num.specs.Filled.{turns, ends}
use Rattle.conditionals.proofs.TailsLaws.{the_log, the_mills, tails_both}
use Rattle.conditionals.proofs.tails.tails.Goals as goal

pub loop-i-init : goal.loop-i-init
loop-i-init c = ((refl, refl), (refl, refl))

pub loop-i-preserved : goal.loop-i-preserved
loop-i-preserved c = ((search rules, search (turns, the_log)), (search rules, search (turns, the_mills)))

pub returns : goal.returns
returns c = search (tails_both, ends)
