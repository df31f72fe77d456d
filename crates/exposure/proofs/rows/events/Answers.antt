-- The answers for `events`.
use mathlib.Core.Path.{refl}
use Prim.Native.Nat.{◌+◌}
use native.Mathlib.Nat.{zero-add, add-zero, add_assoc}
use native.Mathlib.Omega.{arith}
use lib.ListN.{length}
use Rattle.num.specs.Sum.{sum_begins, sum_turns, sum_ends}
use Rattle.exposure.specs.Rows.{count_at, events_of}
use Rattle.exposure.proofs.rows.events.Goals as goal

pub loop-count-init : goal.loop-count-init
unfolding events_of
loop-count-init c = let cs = c.args.counts.now in (omega arith, omega arith, sum_begins ◌+◌ 0 (count_at cs) zero-add (length cs))

-- a count is below 2^32, and the rows are few
pub overflow_add-sum : goal.overflow_add-sum
overflow_add-sum c =
    let number = c.shared_slice_known-1.given in
    let few = c.requires in
    let i = c.loop-count.invariant in
    omega (arith, number c.loop-count.count-index)

pub loop-count-preserved : goal.loop-count-preserved
loop-count-preserved c =
    let number = c.shared_slice_known-1.given in
    let i = c.loop-count.invariant in
    let t = c.loop-count-test.true in
    (omega arith, omega (arith, number c.loop-count.count-index), rw c.from-sum.ensures (sum_turns ◌+◌ 0 _ _ _ _ _ i.2 add_assoc _ t refl))

pub returns : goal.returns
returns c = sum_ends ◌+◌ 0 _ _ _ _ _ c.loop-count.invariant.2 add-zero c.loop-count-test.false
