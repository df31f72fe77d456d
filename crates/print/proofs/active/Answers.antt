-- `print::active` meets its contract.
use Rattle.print.proofs.Laws.{some_length}
use Rattle.print.proofs.active.Goals as goal

pub returns-then-any-clause-end : goal.returns-then-any-clause-end
returns-then-any-clause-end c = search some_length
