-- `shares` meets its contract: a loop that fills five arrays.
use Prim.Native.Nat.{◌-◌}
use lib.ListN.{get_or}
use lib.Ieee.{nan}
use Rattle.num.specs.Values.{values}
use Rattle.num.specs.Filled.{Filling}
use Rattle.conditionals.specs.Conditionals.{share_at}
use Rattle.conditionals.proofs.shares.Given as goal

abbrev pub invariant-loop-i : goal.invariant-loop-i
invariant-loop-i l = Filling (λ i. (share_at l.x l.y l.f l.low l.high i).log) (values (λ i. (share_at l.x l.y l.f l.low l.high i).log) 16 0) l.log l.i × Filling (λ i. get_or (share_at l.x l.y l.f l.low l.high i).moments 1 nan) (values (λ i. get_or (share_at l.x l.y l.f l.low l.high i).moments 1 nan) 16 0) l.first l.i × Filling (λ i. get_or (share_at l.x l.y l.f l.low l.high i).moments 3 nan) (values (λ i. get_or (share_at l.x l.y l.f l.low l.high i).moments 3 nan) 16 0) l.second l.i × Filling (λ i. get_or (share_at l.x l.y l.f l.low l.high i).moments 4 nan) (values (λ i. get_or (share_at l.x l.y l.f l.low l.high i).moments 4 nan) 16 0) l.third l.i × Filling (λ i. get_or (share_at l.x l.y l.f l.low l.high i).moments 5 nan) (values (λ i. get_or (share_at l.x l.y l.f l.low l.high i).moments 5 nan) 16 0) l.fourth l.i

abbrev pub decreases-loop-i : goal.decreases-loop-i
decreases-loop-i l = 16 - l.i
