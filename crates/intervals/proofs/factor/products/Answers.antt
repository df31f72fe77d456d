-- The answers for `products`.
use Rattle.std.proofs.Common.{refl}
use native.Mathlib.Nat.{sub-zero}
use Rattle.num.specs.Fold.{fold_turns, fold_ends}
use Rattle.intervals.specs.Factor.{products_of}
use Rattle.intervals.proofs.factor.products.Goals as goal

pub loop-k-init : goal.loop-k-init
unfolding products_of
loop-k-init c = rw (sub-zero c.args.j)

pub loop-k-preserved : goal.loop-k-preserved
loop-k-preserved c = fold_turns _ _ _ _ _ c.loop-k.invariant _ c.loop-k-test.true refl

pub returns : goal.returns
returns c = fold_ends _ _ _ _ _ c.loop-k.invariant c.loop-k-test.false
