-- The answers for `holds`.
use Rattle.std.proofs.Common.{◌≡◌, ◌+◌, ◌<◌, ap, not, arith}
use borrow.Author.Tests.{not-false}
use native.Mathlib.Nat.{sub-zero}
use Rattle.num.specs.Every.{every_turns, every_ends}
use Rattle.num.specs.Choose.{choose}
use Rattle.summary.specs.Most.{capacity}
use Rattle.summary.specs.Both.{both_of, both_none_is, none_below, raised}
use Rattle.archive.specs.Layout.{valid_of, count_in}
use Rattle.archive.specs.Counts.{litter_in}
use Rattle.archive_check.proofs.Laws.{none_yet, counts_next, totals_at, invalid_litter, wrong_totals}
use Rattle.archive_check.proofs.holds.Goals as goal

pub loop-i-init : goal.loop-i-init
loop-i-init c =
    let e = both_none_is c.default-counts.result c.default-counts.ensures in
    record { below = none_below _ 1 e; counted = none_yet _ _ e; every = rw (sub-zero _) }

pub returns-then-not-is_valid : goal.returns-then-not-is_valid
returns-then-not-is_valid c =
    let valid : c.is_valid.result ≡ valid_of c.args.archive.now.bytes.now c.loop-i.i = rw c.litter-litter.ensures at c.is_valid.ensures in
    let here : c.loop-i.i < count_in c.args.archive.now.bytes.now = omega (arith, c.count-i-end.ensures) in
    let every = c.loop-i.invariant.every in
    search (invalid_litter, choose)

pub with-counts-requires : goal.with-counts-requires
with-counts-requires c = raised _ (c.loop-i.i + 1) capacity (omega arith) c.loop-i.invariant.below

pub returns-then-not-totals_hold : goal.returns-then-not-totals_hold
returns-then-not-totals_hold c =
    let valid : c.is_valid.result ≡ valid_of c.args.archive.now.bytes.now c.loop-i.i = rw c.litter-litter.ensures at c.is_valid.ensures in
    let more : c.with-counts.result ≡ both_of c.loop-i.counts (litter_in c.args.archive.now.bytes.now c.loop-i.i) = rw c.litter-litter.ensures at c.with-counts.ensures.counts in
    let here : c.loop-i.i < count_in c.args.archive.now.bytes.now = omega (arith, c.count-i-end.ensures) in
    let every = c.loop-i.invariant.every in
    let counted = c.loop-i.invariant.counted in
    search (wrong_totals, choose) fits 8000 depth 8

pub loop-i-preserved : goal.loop-i-preserved
loop-i-preserved c =
    let l = c.loop-i in
    let here : c.loop-i.i < count_in c.args.archive.now.bytes.now = omega (arith, c.count-i-end.ensures) in
    let valid : c.is_valid.result ≡ valid_of c.args.archive.now.bytes.now l.i = rw c.litter-litter.ensures at c.is_valid.ensures in
    let more : c.with-counts.result ≡ both_of l.counts (litter_in c.args.archive.now.bytes.now l.i) = rw c.litter-litter.ensures at c.with-counts.ensures.counts in
    let is_valid = not-false _ (ap not c.if-not-is_valid.false) in
    let hold = not-false _ (ap not c.if-not-totals_hold.false) in
    record {
      below = c.with-counts.ensures.grown (l.i + 1) l.invariant.below;
      counted = counts_next _ _ _ _ l.invariant.counted more;
      every = every_turns _ _ _ _ l.invariant.every _ here (totals_at _ _ _ _ l.invariant.counted more _ _ valid is_valid c.totals_hold.ensures) hold;
    }

pub returns : goal.returns
returns c = every_ends _ _ _ _ c.loop-i.invariant.every (omega (arith, c.count-i-end.ensures))
