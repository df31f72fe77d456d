-- The answers for `factored`.
use Rattle.std.proofs.Common.{sym, ◌∙◌, length}
use native.Mathlib.Nat.{sub-zero}
use Rattle.intervals.specs.Factor.{factored_of}
use Rattle.intervals.proofs.Laws.{held_stops, held_turns, held_ends, handed_on}
use Rattle.intervals.proofs.factor.factored.Goals as goal

pub loop-i-init : goal.loop-i-init
unfolding factored_of
loop-i-init c = rw (sub-zero (length c.args.errors.now))

pub returns-in_err-lower : goal.returns-in_err-lower
returns-in_err-lower c = handed_on _ _ c.from_residual.ensures.1 ∙ held_stops _ _ _ _ _ c.loop-i.invariant _ c.loop-i-test.true (sym c.line.ensures ∙ c.in_err-lower.was)

pub loop-i-preserved : goal.loop-i-preserved
loop-i-preserved c = held_turns _ _ _ _ _ c.loop-i.invariant _ c.loop-i-test.true (sym c.line.ensures ∙ c.in_ok-lower.was)

pub returns : goal.returns
returns c = held_ends _ _ _ _ _ c.loop-i.invariant c.loop-i-test.false
