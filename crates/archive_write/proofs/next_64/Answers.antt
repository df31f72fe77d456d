-- The answers for `next_64`.
use Rattle.std.proofs.Common.{◌≡◌, ◌<◌, ◌+◌, ◌-◌, [], drop, length, ◌∙◌, ap, arith, length-drop, length-take-le}
use Rattle.std.proofs.lemmas.List.{get_or-take, get_or-drop}
use Rattle.litters.specs.Litters.{count_of, successes_at, total_at, group_at}
use Rattle.summary.specs.Most.{capacity}
use Rattle.summary.specs.Both.{both_of, one_of, raised}
use Rattle.archive_write.specs.Archive.{counted_to}
use Rattle.archive_write.proofs.Laws.{counted_turn}
use Rattle.archive_write.proofs.next_64.Goals as goal

pub with-counts-requires : goal.with-counts-requires
with-counts-requires c =
    let l = c.loop-row in
    let i = c.args.i in
    let long = length-drop i c.rows.result.now in
    let all = length-take-le (i + 64 - i) (drop i c.rows.result.now) (omega (arith, long, c.rows.ensures.count, c.requires.there)) in
    raised _ (i + l.row-index + 1) capacity (omega (arith, all, c.requires.few)) l.invariant.below

pub loop-row-preserved : goal.loop-row-preserved
loop-row-preserved c =
    let l = c.loop-row in
    let ls = c.args.litters.now in
    let rows = c.rows.result.now in
    let i = c.args.i in
    let long : length (drop i rows) ≡ length rows - i = length-drop i rows in
    let all = length-take-le (i + 64 - i) (drop i rows) (omega (arith, long, c.rows.ensures.count, c.requires.there)) in
    let here : l.row-index < i + 64 - i = omega (arith, all) in
    let there : i + l.row-index < count_of ls = omega (arith, here, c.requires.there) in
    let row = get_or-take (i + 64 - i) (drop i rows) l.row-index [] here ∙ get_or-drop i rows l.row-index [] ∙ c.rows.ensures.each (i + l.row-index) [] there in
    let more : c.with-counts.result ≡ both_of l.counts (one_of (successes_at ls (i + l.row-index)) (total_at ls (i + l.row-index)) (group_at ls (i + l.row-index))) = c.with-counts.ensures.counts ∙ rw (c.from.ensures, row) in
    let next : i + l.row-index + 1 ≡ i + (l.row-index + 1) = omega arith in
    record {
      counted = counted_turn _ _ _ _ l.invariant.counted more ∙ ap (counted_to ls) next;
      below = raised _ (i + l.row-index + 1 + 1) _ (omega arith) (c.with-counts.ensures.grown (i + l.row-index + 1) l.invariant.below);
    }
