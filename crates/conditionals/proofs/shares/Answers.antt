-- The answers for `shares`.
use mathlib.Core.Path.{refl}
use borrow.Author.Rules.{rules}
use Rattle.num.specs.Filled.{turns, ends}
use Rattle.conditionals.proofs.Laws.{share_log, share_moment, all_five}
use Rattle.conditionals.proofs.shares.Goals as goal

pub loop-i-init : goal.loop-i-init
loop-i-init c = ((refl, refl), (refl, refl), (refl, refl), (refl, refl), (refl, refl))

pub loop-i-preserved : goal.loop-i-preserved
loop-i-preserved c =
    ((search rules, search (turns, share_log)), (search rules, search (turns, share_moment)), (search rules, search (turns, share_moment)), (search rules, search (turns, share_moment)), (search rules, search (turns, share_moment)))

pub returns : goal.returns
returns c = search (all_five, ends)
