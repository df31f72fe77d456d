-- The rules stop by themselves for a reason from 1 to 5 alone (4 and 5), whatever the evaluations' values.
use Rattle.std.specs.Prelude.{Bool, ◌&&◌, List, Float}
use Rattle.std.proofs.Math.Bool.{true}
use Prim.Native.Nat.{ℕ, zero, suc, ◌+◌, ◌^◌}
use Rattle.std.proofs.Math.Dec.{lit≤}
use Rattle.std.specs.Float.Ieee.{le}
use Rattle.work.specs.Ended.{domain}
use Rattle.work.specs.Stops.{Stops, answers, refuses, chosen, passed, Reasoned}
use Rattle.legendre.specs.declared.Pair.{Pair}
use Rattle.posterior.specs.Integrand.{Eval}
use Rattle.panel.specs.declared.Hump.{Hump}
use Rattle.panel.specs.Reasons.{sides_reasons}
use Rattle.quadrature.specs.Quadrature.{spoiled_of, refined_of, accepted, rules}

module _ (here : Float → Eval) (rule : List Pair) where
  pub rules_reasons : (h : Hump) (n k : ℕ) (seen : Bool) (old : List Float) → Stops (Reasoned 5) (rules here rule h n k seen old)
  unfolding rules
  rules_reasons h zero k seen old = refuses {r = domain 5} (lit≤ tt, lit≤ tt)
  rules_reasons h (suc n) k seen old =
      passed (sides_reasons (Reasoned 5) here rule h (2 ^ k))
      (λ s. chosen (spoiled_of s) (refuses {r = domain 4} (lit≤ tt, lit≤ tt)) (chosen (seen && le (refined_of s old) accepted) answers (rules_reasons h n (k + 1) true s)))
