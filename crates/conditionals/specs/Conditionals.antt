-- A litter's conditional likelihood at sixteen places: of each the logarithm and four of the moments.
use Rattle.std.specs.Prelude.{◌≡◌, refl, List, [], ◌∷◌, ℕ, get_or, Float}
use Rattle.std.specs.Float.{nan}
use Rattle.std.specs.Float.Ieee.{neg}
use Rattle.num.specs.F64.{◌⊗◌, half·, one·}
use Rattle.num.specs.Values.{values}
use Rattle.normal.specs.declared.moments.ConditionalLog.{ConditionalLog}
use Rattle.normal.specs.Conditional.{mills_derivatives_of, combined_of, conditional_of}
use Rattle.conditionals.specs.declared.normals.Ratios.{Ratios}
use Rattle.conditionals.specs.declared.Moments.{Moments}

-- the k-th moment at x
abbrev pub moment_at : ℕ → ℕ → ℕ → Float → Float
moment_at k successes total x = get_or (conditional_of x successes total).moments k nan

-- the arrays, from what is at each place
abbrev pub moments_of : (ℕ → ConditionalLog) → Moments
moments_of at =
    record {
      log = values (λ i. (at i).log) 16 0;
      first = values (λ i. get_or (at i).moments 1 nan) 16 0;
      second = values (λ i. get_or (at i).moments 3 nan) 16 0;
      third = values (λ i. get_or (at i).moments 4 nan) 16 0;
      fourth = values (λ i. get_or (at i).moments 5 nan) 16 0;
    }

unfoldable pub conditionals_of : List Float → ℕ → ℕ → Moments
conditionals_of x successes total = moments_of (λ i. conditional_of (get_or x i nan) successes total)

-- one place: y successes and f failures, with the logarithms and the ratios at x and across zero
abbrev pub share_of : Float → Float → Float → Float → Float → Float → Float → ConditionalLog
share_of x y f lp rp lm rm = combined_of y f lp lm (mills_derivatives_of x rp) (mills_derivatives_of (neg x) rm)

-- sixteen, from the normal distribution at each and across zero
abbrev pub share_at : List Float → Float → Float → Ratios → Ratios → ℕ → ConditionalLog
share_at x y f low high i = share_of (get_or x i nan) y f (get_or low.log i nan) (get_or low.mills i nan) (get_or high.log i nan) (get_or high.mills i nan)

unfoldable pub shares_of : List Float → Float → Float → Ratios → Ratios → Moments
shares_of x y f low high = moments_of (share_at x y f low high)

-- all six moments, from those four
abbrev pub six_of : Float → Float → Float → Float → List Float
six_of first second third fourth = one· ∷ first ∷ half· ⊗ second ∷ second ∷ third ∷ fourth ∷ []

pub six_are : (x : Float) (successes total : ℕ) → six_of (moment_at 1 successes total x) (moment_at 3 successes total x) (moment_at 4 successes total x) (moment_at 5 successes total x) ≡ (conditional_of x successes total).moments
unfolding conditional_of combined_of
six_are x successes total = refl
