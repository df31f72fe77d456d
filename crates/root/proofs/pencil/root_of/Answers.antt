-- The answers for `root_of`.
use native.Mathlib.Omega.{arith}
use borrow.Author.Rules.{rules}
use Rattle.root.specs.Steps.{pencil_from}
use Rattle.root.specs.Pencil.{ready, next_row, last_row}
use Rattle.root.proofs.pencil.root_of.Goals as goal

pub loop-k-init : goal.loop-k-init
unfolding pencil_from
loop-k-init c = (search rules, omega arith)

pub step-row-requires : goal.step-row-requires
step-row-requires c = let r = ready _ _ _ c.requires c.loop-k-test.true c.loop-k.invariant.0 in record { coming_fits = r.0; rest_small = r.1; root_fits = r.2 }

pub overflow_step-k : goal.overflow_step-k
overflow_step-k c = omega arith

pub loop-k-smaller : goal.loop-k-smaller
loop-k-smaller c = omega arith

pub loop-k-preserved : goal.loop-k-preserved
loop-k-preserved c = (search next_row, omega arith)

pub returns : goal.returns
returns c = let i = c.loop-k.invariant in last_row _ _ _ i.0 i.1 c.loop-k-test.false
