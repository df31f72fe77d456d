-- The estimates still to come make of the numbers so far the whole.
use Rattle.std.proofs.Common.{◌≡◌, ◌-◌, length}
use Rattle.intervals.specs.Intervals.{collected_from, collected_of}
use Rattle.intervals.proofs.answer.collected.Given as goal

abbrev pub invariant-loop-i : goal.invariant-loop-i
invariant-loop-i l = collected_from l.estimates l.errors l.marks (length l.estimates - l.i) l.i l.numbers ≡ collected_of l.estimates l.errors l.marks
