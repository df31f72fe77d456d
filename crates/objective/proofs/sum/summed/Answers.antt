-- The answers for `summed`.
use Rattle.std.specs.Prelude.{◌/◌, length}
use Rattle.std.proofs.Common.{sym, ◌∙◌, rules}
use Rattle.std.proofs.Math.Nat.{sub-zero}
use Rattle.num.specs.Left.{left_one, left_none}
use Rattle.objective.specs.Named.{summed_of}
use Rattle.objective.proofs.Laws.{row_refused, refusal_placed, row_answered, rows_end}
use Rattle.objective.proofs.sum.summed.Goals as goal

pub loop-i-init : goal.loop-i-init
unfolding summed_of
loop-i-init c = rw (c.nothing-t.ensures, c.of-meter.ensures, sub-zero (length c.args.litters.now / 3))

pub returns-in-Err : goal.returns-in-Err
returns-in-Err c = rw (← c.loop-i.invariant, left_one (length c.args.litters.now / 3) c.loop-i.i c.loop-i-test.true) (refusal_placed _ _ _ _ _ c.at_litter.ensures (row_refused _ _ _ _ _ _ _ _ _ c.in-Err.ensures) (search rules))

pub loop-i-preserved : goal.loop-i-preserved
loop-i-preserved c = rw (c.accumulated-sum.ensures, c.index-g.ensures.place) (sym (row_answered _ _ _ _ _ _ _ _ _ c.in-Ok.ensures) ∙ (rw (left_one (length c.args.litters.now / 3) c.loop-i.i c.loop-i-test.true) at c.loop-i.invariant))

pub returns : goal.returns
returns c = rw (← c.loop-i.invariant, left_none (length c.args.litters.now / 3) c.loop-i.i c.loop-i-test.false, rows_end) cc
