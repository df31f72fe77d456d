-- Evaluations of the integrand. The definitions know of no count and no limit; the code's answers are they, metered.
use Rattle.std.specs.Prelude.{ℕ, Float}
use Rattle.num.specs.F64.{◌⊕◌, ◌⊖◌, ◌⊗◌, half·, one·}
use Rattle.normal.specs.declared.moments.ConditionalLog.{ConditionalLog}
use Rattle.normal.specs.Normal.{log_two_pi}
use Rattle.normal.specs.Conditional.{conditional_of}
use Rattle.posterior.specs.declared.integrand.Posterior.{Posterior}
use Rattle.posterior.specs.declared.integrand.Point.{Point}

-- An evaluation: of which litter, by its position and its numbers, and where. `inside` is the integrand at the coordinate z;
-- `alone` is the conditional at the mean, which is all there is at variance 0.
pub data Eval : Type 0 where
  inside : (litter successes total : ℕ) (mean sd z : Float) → Eval
  alone : (litter successes total : ℕ) (mean : Float) → Eval

abbrev pub weighed_of : Float → Float → ConditionalLog → Point
weighed_of sd z c =
    record {
      log = c.log ⊖ half· ⊗ z ⊗ z ⊖ half· ⊗ log_two_pi;
      slope = sd ⊗ c.score ⊖ z;
      curvature = one· ⊖ sd ⊗ sd ⊗ c.curvature;
      moments = c.moments;
    }

unfoldable pub integrand_of : ℕ → ℕ → Float → Float → Float → Point
integrand_of successes total mean sd z = weighed_of sd z (conditional_of (mean ⊕ sd ⊗ z) successes total)

-- the conditional as it stands
unfoldable pub alone_of : ℕ → ℕ → Float → Point
alone_of successes total mean =
    let c = conditional_of mean successes total in
    record { log = c.log; slope = c.score; curvature = c.curvature; moments = c.moments }

abbrev pub at : Eval → Point
at (inside litter successes total mean sd z) = integrand_of successes total mean sd z
at (alone litter successes total mean) = alone_of successes total mean

-- where the posterior is evaluated, at the coordinate z
abbrev pub here : Posterior → Float → Eval
here p z = inside p.litter p.successes p.total p.mean p.sd z
