-- The bytes kept lie in the buffer.
use Rattle.std.proofs.Common.{◌≤◌, length}
use Rattle.root_steps.proofs.read_line.Given as goal

abbrev pub invariant-loop : goal.invariant-loop
invariant-loop g l = l.n ≤ length l.line
