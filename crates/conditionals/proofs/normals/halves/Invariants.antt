-- `normals::halves` meets its contract: a loop that fills two arrays.
use Prim.Native.Nat.{◌-◌}
use lib.ListN.{get_or}
use lib.Ieee.{nan, neg}
use Rattle.num.specs.F64.{◌⊗◌, half·}
use Rattle.num.specs.Values.{values}
use Rattle.num.specs.Filled.{Filling}
use Rattle.elementary.specs.Erfc.{erfc_of}
use Rattle.conditionals.proofs.normals.halves.Given as goal

abbrev pub invariant-loop-i : goal.invariant-loop-i
invariant-loop-i l = Filling (λ i. half· ⊗ erfc_of (get_or l.t i nan)) (values (λ i. half· ⊗ erfc_of (get_or l.t i nan)) 16 0) l.at l.i × Filling (λ i. half· ⊗ erfc_of (neg (get_or l.t i nan))) (values (λ i. half· ⊗ erfc_of (neg (get_or l.t i nan))) 16 0) l.across l.i

abbrev pub decreases-loop-i : goal.decreases-loop-i
decreases-loop-i l = 16 - l.i
