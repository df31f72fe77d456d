-- The answers for `recurrence`.
use mathlib.Core.Path.{refl}
use native.Mathlib.Omega.{arith}
use Rattle.num.specs.Fold.{fold_turns, fold_ends}
use Rattle.legendre.specs.Legendre.{recurrence_of}
use Rattle.legendre.proofs.recurrence.Goals as goal

pub loop-j-init : goal.loop-j-init
unfolding recurrence_of
loop-j-init c = (omega arith, refl)

pub loop-j-preserved : goal.loop-j-preserved
unfolding recurrence_of
loop-j-preserved c = (omega arith, fold_turns _ _ _ 17 _ c.loop-j.invariant.1 _ c.loop-j-test.true refl)

pub returns : goal.returns
unfolding recurrence_of
returns c = search fold_ends
