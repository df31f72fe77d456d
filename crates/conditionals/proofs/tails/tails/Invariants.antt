-- `tails::tails` meets its contract: a loop that fills two arrays.
use Prim.Native.Nat.{◌-◌}
use Rattle.num.specs.Values.{values}
use Rattle.num.specs.Filled.{Filling}
use Rattle.conditionals.specs.Tails.{tails_at}
use Rattle.conditionals.proofs.tails.tails.Given as goal

abbrev pub invariant-loop-i : goal.invariant-loop-i
invariant-loop-i l = Filling (λ i. (tails_at l.x l.f l.n i).log) (values (λ i. (tails_at l.x l.f l.n i).log) 16 0) l.log l.i × Filling (λ i. (tails_at l.x l.f l.n i).mills) (values (λ i. (tails_at l.x l.f l.n i).mills) 16 0) l.mills l.i

abbrev pub decreases-loop-i : goal.decreases-loop-i
decreases-loop-i l = 16 - l.i
