-- The answers for `GroupCounts::over`.
use Rattle.std.proofs.Common.{◌*◌, ◌<◌, [], ◌∙◌, take_all, arith, rules}
use Rattle.num.specs.Sum.{sum_begins, sum_turns, sum_ends}
use Rattle.litters.specs.Litters.{count_of}
use Rattle.summary.specs.Summary.{no_counts, none_is, plus_of, counts_of}
use Rattle.summary.specs.Most.{none_most, raise}
use Rattle.summary.proofs.Laws.{plus_assoc, plus_none, none_plus, rows_of}
use Rattle.summary.proofs.GroupCounts.over.Goals as goal

pub loop-row-init : goal.loop-row-init
unfolding counts_of
loop-row-init c =
    let r = c.rows-row-items.ensures in
    let rows = rows_of c.args.litters.now _ _ (r.count, r.each) (search (rules, take_all)) in
    rw (none_is c.default-counts.result c.default-counts.ensures) (record { rows = rows; below = none_most _; sum = sum_begins plus_of no_counts _ none_plus _ })

pub with-counts-requires : goal.with-counts-requires
with-counts-requires c = raise _ (0xffff_ffff * c.loop-row.row-index) _ (omega (arith, c.loop-row.invariant.rows.0)) c.loop-row.invariant.below

pub loop-row-preserved : goal.loop-row-preserved
loop-row-preserved c =
    let l = c.loop-row in
    let rows = l.invariant.rows in
    let here : l.row-index < count_of c.args.litters.now = omega (arith, rows.0) in
    let row = rows.1 l.row-index [] here in
    record {
      rows = rows;
      below = c.with-counts.ensures.grown l.row-index l.invariant.below;
      sum = sum_turns plus_of no_counts _ _ _ _ _ l.invariant.sum plus_assoc _ here (c.with-counts.ensures.counts ∙ rw (c.from.ensures, row));
    }

pub returns : goal.returns
returns c = sum_ends plus_of no_counts _ _ _ _ _ c.loop-row.invariant.sum plus_none (omega (arith, c.loop-row.invariant.rows.0))
