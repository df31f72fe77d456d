-- What the coefficient is, by what its callees ensure: one law for each clause of its contract.
use mathlib.Core.Path.{◌≡◌, ◌∙◌}
use mathlib.Core.Logic.{◌⊎◌}
use Prim.Native.Nat.{ℕ, ◌-◌, ◌≤◌}
use lib.Ieee.{Float}
use Rattle.num.specs.F64.{◌⊖◌, zero·}
use Rattle.num.specs.Helpers.{max_of, min_of}
use Rattle.factorial.specs.Factorial.{log_factorial_of}
use Rattle.coefficient.specs.Coefficient.{coefficient_of}
use Rattle.coefficient.specs.Exchanged.{exchanged}
use Rattle.coefficient.specs.Nothing.{nothing}

module _ (successes total failures : ℕ) (all a b larger smaller : Float) (t : all ≡ log_factorial_of total) (s : a ≡ log_factorial_of successes) (n : failures ≡ total - successes) (f : b ≡ log_factorial_of failures) (l : larger ≡ max_of a b) (m : smaller ≡ min_of a b) where
  pub larger_first : all ⊖ larger ⊖ smaller ≡ coefficient_of successes total
  unfolding coefficient_of
  larger_first = rw (l, m, t, s, f, n)

  pub turned : successes ≤ total → all ⊖ larger ⊖ smaller ≡ coefficient_of (total - successes) total
  turned h = larger_first ∙ exchanged successes total h

  pub nothing_chosen : total ≤ 1000 → (successes ≡ 0) ⊎ (successes ≡ total) → all ⊖ larger ⊖ smaller ≡ zero·
  nothing_chosen h e = larger_first ∙ nothing successes total h e
