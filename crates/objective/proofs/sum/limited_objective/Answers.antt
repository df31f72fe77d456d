-- `sum::limited_objective` meets its contract, by its callee's.
use Rattle.objective.specs.Named.{the_objective}
use Rattle.objective.proofs.sum.limited_objective.Goals as goal

pub returns-in-Ok : goal.returns-in-Ok
returns-in-Ok c = the_objective _ _ _ _ _ c.in-Ok.ensures

pub returns-in-Err : goal.returns-in-Err
returns-in-Err c = the_objective _ _ _ _ _ c.in-Err.ensures
