-- The integral and its derivatives' moments: one rule after another, the panels doubled until two rules agree.
use Rattle.std.specs.Prelude.{Bool, true, false, not, ◌&&◌, cond, List, ℕ, zero, suc, ◌+◌, ◌^◌, get_or, Option, None, Some, Float}
use Rattle.std.specs.Float.{nan}
use Rattle.std.specs.Float.Ieee.{le}
use Rattle.num.specs.F64.{◌⊕◌, ◌⊖◌, ◌⊘◌, bits, zero·}
use Rattle.num.specs.Helpers.{abs_of, max_of, is_finite_of}
use Rattle.work.specs.Ended.{domain}
use Rattle.work.specs.Work.{Work, ret, stop, ◌>>=◌}
use Rattle.legendre.specs.declared.Pair.{Pair}
use Rattle.posterior.specs.declared.integrand.Point.{Point}
use Rattle.posterior.specs.Integrand.{Eval}
use Rattle.panel.specs.declared.Hump.{Hump}
use Rattle.panel.specs.Panel.{sides}
use Rattle.quadrature.specs.declared.Integral.{Integral}

unfoldable pub finite_rest_of : List Float → Bool
finite_rest_of s = is_finite_of (get_or s 1 nan) && (is_finite_of (get_or s 2 nan) && (is_finite_of (get_or s 3 nan) && (is_finite_of (get_or s 4 nan) && is_finite_of (get_or s 5 nan))))

-- every sum is finite, and the total, the first, is above zero
unfoldable pub sound_of : List Float → Bool
sound_of s = is_finite_of (get_or s 0 nan) && cond (le (get_or s 0 nan) zero·) false (finite_rest_of s)

abbrev pub spoiled_of : List Float → Bool
spoiled_of s = not (sound_of s)

abbrev pub gap_of : Float → Float → Float → Float
gap_of total s old = abs_of (s ⊖ old) ⊘ (total ⊕ abs_of s)

abbrev pub larger_of : Float → Float → Float → Float → Float
larger_of m total s old = max_of m (gap_of total s old)

abbrev gap_at : List Float → List Float → Float → ℕ → Float
gap_at s old m i = larger_of m (get_or s 0 nan) (get_or s i nan) (get_or old i nan)

-- the largest relative move of a sum from the rule before
unfoldable pub refined_of : List Float → List Float → Float
refined_of s old = let gap = gap_at s old in gap (gap (gap (gap (gap (gap zero· 0) 1) 2) 3) 4) 5

-- 1e-11
abbrev pub accepted : Float
accepted = bits 0x3da5_fd7f_e179_6495

-- that move, where there was a rule before and the two agree
abbrev pub agreed_of : List Float → Option (List Float) → Option Float
agreed_of s None = None
agreed_of s (Some old) = cond (le (refined_of s old) accepted) (Some (refined_of s old)) None

-- n rules more, the next with 2^k panels a side; `seen` says whether there was a rule before, and `old` holds its sums.
-- reason 4, not finite: the sums are spoiled; reason 5, refinement not converged: no two rules agree
unfoldable pub rules : (Float → Eval) → List Pair → Hump → ℕ → ℕ → Bool → List Float → Work Eval Point Integral
rules here rule h zero k seen old = stop (domain 5)
rules here rule h (suc n) k seen old = do
  s ← sides here rule h (2 ^ k)
  cond (spoiled_of s) (stop (domain 4))
      (cond (seen && le (refined_of s old) accepted) (ret (record { sum = s; refinement = refined_of s old })) (rules here rule h n (k + 1) true s))
