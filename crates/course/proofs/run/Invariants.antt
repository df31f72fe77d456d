-- The state and the count so far come to the whole descent, within the limit; and what the objective's next evaluation asks is known.
use Rattle.std.proofs.Common.{◌≤◌}
use Rattle.stepper.specs.Stands.{remaining_of}
use Rattle.course.specs.Drives.{Left, course_by}
use Rattle.course.proofs.run.Given as goal

abbrev pub invariant-loop-s : goal.invariant-loop-s
invariant-loop-s g l =
    let o = g.O.Objective in
    record {
      within : l.used ≤ l.limit;
      known : o.known l.o l.p l.limit l.s l.used;
      left : Left (o.answer l.o) l.limit l.wanted l.p (course_by (o.answer l.o) l.limit l.wanted l.p l.fn.x) l.s l.used;
    }

abbrev pub decreases-loop-s : goal.decreases-loop-s
decreases-loop-s g l = remaining_of l.p l.s
