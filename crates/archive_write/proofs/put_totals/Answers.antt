-- The answers for `put_totals`.
use Rattle.std.proofs.Common.{◌≡◌, ◌/◌, arith}
use Rattle.litters.specs.Litters.{count_of}
use Rattle.summary.specs.Both.{both_none_is, none_below}
use Rattle.archive_write.proofs.Laws.{counted_begin, counted_next, below_next, totals_begin, totals_turn}
use Rattle.archive_write.proofs.put_totals.Goals as goal

pub loop-j-init : goal.loop-j-init
loop-j-init c =
    let e = both_none_is c.default-counts.result c.default-counts.ensures in
    record { put = totals_begin _ _ _; counted = counted_begin _ _ e; below = none_below _ 1 e }

pub loop-j-preserved : goal.loop-j-preserved
loop-j-preserved c =
    let l = c.loop-j in
    record {
      put = totals_turn c.args.litters.now _ _ _ _ l.j _ l.invariant.put c.next_64-counts.ensures.value c.put_counts.ensures;
      counted = counted_next _ l.j _ c.next_64-counts.ensures.value;
      below = below_next _ l.j c.next_64-counts.ensures.below;
    }

pub returns : goal.returns
returns c =
    let e : c.loop-j.j ≡ count_of c.args.litters.now / 64 = omega arith in
    rw e at c.loop-j.invariant.put
