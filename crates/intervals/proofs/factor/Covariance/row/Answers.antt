-- The answers for `Covariance::row`.
use Rattle.std.proofs.Common.{sym, ◌∙◌}
use native.Mathlib.Nat.{sub-zero}
use Rattle.intervals.specs.Factor.{row_of}
use Rattle.intervals.proofs.Laws.{held_stops, held_turns, held_ends, handed_on}
use Rattle.intervals.proofs.factor.Covariance.row.Goals as goal

pub loop-j-init : goal.loop-j-init
unfolding row_of
loop-j-init c = rw (sub-zero _)

pub returns-in_err-lower : goal.returns-in_err-lower
returns-in_err-lower c = handed_on _ _ c.from_residual.ensures.1 ∙ held_stops _ _ _ _ _ c.loop-j.invariant _ c.loop-j-test.true (sym c.entry.ensures ∙ c.in_err-lower.was)

pub loop-j-preserved : goal.loop-j-preserved
loop-j-preserved c = held_turns _ _ _ _ _ c.loop-j.invariant _ c.loop-j-test.true (sym c.entry.ensures ∙ c.in_ok-lower.was)

pub returns : goal.returns
returns c = held_ends _ _ _ _ _ c.loop-j.invariant c.loop-j-test.false
