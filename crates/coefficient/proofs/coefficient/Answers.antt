-- `coefficient` meets its contract, by what its callees ensure; two of its clauses are theorems of the definition.
use Rattle.coefficient.proofs.Laws.{larger_first, turned, nothing_chosen}
use Rattle.coefficient.proofs.coefficient.Goals as goal

pub returns : goal.returns
returns c = record { definition = search larger_first; exchanged = search turned; nothing_to_choose = search nothing_chosen }
