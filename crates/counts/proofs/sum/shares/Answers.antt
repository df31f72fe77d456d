-- The answers for `shares`.
use native.Mathlib.Nat.{sub-zero}
use native.Mathlib.Omega.{arith}
use Rattle.num.specs.Fold.{fold_turns, fold_ends}
use Rattle.counts.proofs.sum.shares.Goals as goal

pub loop-i-init : goal.loop-i-init
loop-i-init c = rw (sub-zero _, c.nothing-v.ensures)

-- a row's exposure is there
pub bounds-exposures-i : goal.bounds-exposures-i
bounds-exposures-i c =
    let room = c.requires.paired in
    let t = c.loop-i-test.true in
    omega arith

pub loop-i-preserved : goal.loop-i-preserved
loop-i-preserved c = search fold_turns

pub returns : goal.returns
returns c = search fold_ends
