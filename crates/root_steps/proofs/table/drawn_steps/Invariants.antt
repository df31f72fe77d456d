-- `drawn_steps` meets its contract as `root::pencil::root_of` does: the loop has the row after k steps.
use Rattle.std.proofs.Common.{◌≡◌}
use Rattle.root.specs.Steps.{start_of, pencil_from}
use Rattle.root_steps.proofs.table.drawn_steps.Given as goal

abbrev pub invariant-loop-k : goal.invariant-loop-k
invariant-loop-k l = l.row ≡ pencil_from l.k (start_of l.m)
