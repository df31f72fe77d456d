-- The steps still to come make of the meter, the place and the bound so far the whole walk.
use Rattle.std.proofs.Common.{◌≡◌, ◌-◌}
use Rattle.work.specs.Answer.{by}
use Rattle.posterior.specs.Integrand.{at, here}
use Rattle.tail.specs.Tail.{started, walk}
use Rattle.tail.proofs.Hill.walk_out.Given as goal

abbrev pub invariant-loop-j : goal.invariant-loop-j
invariant-loop-j l = by at l.meter (walk (here l.p) l.self l.side (30 - l.j) l.j l.z l.bound) ≡ by at l.fn.meter (started (here l.p) l.self l.side)
