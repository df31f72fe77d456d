-- The trials still to come make of the state so far the whole of it.
use Rattle.std.proofs.Common.{◌≡◌}
use Rattle.stepper.specs.Machine.{propose_from}
use Rattle.stepper.proofs.Plan.propose.Given as goal

abbrev pub invariant-loop-n : goal.invariant-loop-n
invariant-loop-n l = propose_from l.self l.n l.s ≡ propose_from l.initial.self l.initial.n l.initial.s
