-- The answers for `running`.
use Rattle.std.proofs.Common.{◌+◌, ◌*◌, ◌/◌, ◌∙◌, arith}
use Rattle.num.specs.Fold.{fold_turns, fold_ends}
use Rattle.summary.specs.Most.{capacity}
use Rattle.summary.specs.Both.{raised}
use Rattle.archive_range.proofs.Laws.{sum_begin}
use Rattle.archive_range.proofs.running.running.Goals as goal

pub loop-i-init : goal.loop-i-init
loop-i-init c = record { below = raised _ 1 (64 * (c.args.p / 64) + 1) (omega arith) c.last_total-counts.ensures.below; sum = sum_begin _ _ _ c.last_total-counts.ensures.value }

pub with-counts-requires : goal.with-counts-requires
with-counts-requires c = raised _ (c.loop-i.i + 1) capacity (omega arith) c.loop-i.invariant.below

pub loop-i-preserved : goal.loop-i-preserved
loop-i-preserved c =
    let l = c.loop-i in
    record {
      below = c.with-counts.ensures.grown (l.i + 1) l.invariant.below;
      sum = fold_turns _ _ _ _ _ l.invariant.sum _ (omega (arith, c.loop-i-test.true)) (c.with-counts.ensures.counts ∙ rw c.litter.ensures);
    }

pub returns : goal.returns
returns c = fold_ends _ _ _ _ _ c.loop-i.invariant.sum (omega (arith, c.loop-i-test.false))
