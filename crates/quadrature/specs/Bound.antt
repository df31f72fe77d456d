-- How many evaluations the quadrature makes at most, whatever their values.
use Rattle.std.specs.Prelude.{◌≡◌, refl, Bool, false, ◌&&◌, List, Float}
use Rattle.std.proofs.Math.Bool.{true}
use Prim.Native.Nat.{ℕ, zero, suc, ◌+◌, ◌*◌, ◌^◌}
use Rattle.std.specs.Float.Ieee.{le}
use Rattle.work.specs.AtMost.{AtMost, rets, stops, either, both}
use Rattle.legendre.specs.declared.Pair.{Pair}
use Rattle.posterior.specs.Integrand.{Eval}
use Rattle.panel.specs.declared.Hump.{Hump}
use Rattle.panel.specs.Panel.{no_sums}
use Rattle.panel.specs.Bound.{sides_at_most}
use Rattle.quadrature.specs.Quadrature.{spoiled_of, refined_of, accepted, rules}

-- the most that n rules make, the first of them with 2^k panels a side
unfoldable pub rules_bound : ℕ → ℕ → ℕ
rules_bound zero k = 0
rules_bound (suc n) k = 2 ^ k * 16 + 2 ^ k * 16 + rules_bound n (k + 1)

-- ten rules, with 1, 2, 4 .. 512 panels a side: 32 * 1023
pub ten_rules : rules_bound 10 0 ≡ 32736
unfolding rules_bound
ten_rules = refl

module _ (here : Float → Eval) (rule : List Pair) where
  -- n rules, the first of them with 2^k panels a side
  pub rules_at_most : (h : Hump) (n k : ℕ) (seen : Bool) (old : List Float) → AtMost (rules_bound n k) (rules here rule h n k seen old)
  unfolding rules rules_bound
  rules_at_most h zero k seen old = stops
  rules_at_most h (suc n) k seen old =
      both (rules_bound n (k + 1)) (sides_at_most here rule h (2 ^ k)) (λ s. either (spoiled_of s) stops (either (seen && le (refined_of s old) accepted) rets (rules_at_most h n (k + 1) true s)))

  -- all ten
  pub ten_at_most : (h : Hump) → AtMost 32736 (rules here rule h 10 0 false no_sums)
  ten_at_most h = rw ten_rules at (rules_at_most h 10 0 false no_sums)
