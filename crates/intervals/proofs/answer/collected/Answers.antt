-- The answers for `collected`.
use Rattle.std.proofs.Common.{sym, ◌∙◌, length}
use native.Mathlib.Nat.{sub-zero}
use Rattle.intervals.specs.Intervals.{collected_of}
use Rattle.intervals.proofs.Laws.{collected_stops, collected_turns, collected_ends, handed_on}
use Rattle.intervals.proofs.answer.collected.Goals as goal

pub loop-i-init : goal.loop-i-init
unfolding collected_of
loop-i-init c = rw (sub-zero (length c.args.estimates.now))

pub returns-in_err-interval : goal.returns-in_err-interval
returns-in_err-interval c =
    let step = rw c.marked-marked.ensures at c.asked.ensures in
    handed_on _ _ c.from_residual.ensures.1 ∙ collected_stops _ _ _ _ _ _ _ c.loop-i.invariant _ c.loop-i-test.true (sym step ∙ c.in_err-interval.was)

pub loop-i-preserved : goal.loop-i-preserved
loop-i-preserved c =
    let step = rw c.marked-marked.ensures at c.asked.ensures in
    collected_turns _ _ _ _ _ _ _ c.loop-i.invariant _ c.loop-i-test.true (sym step ∙ c.in_ok-interval.was)

pub returns : goal.returns
returns c = collected_ends _ _ _ _ _ _ _ c.loop-i.invariant c.loop-i-test.false
