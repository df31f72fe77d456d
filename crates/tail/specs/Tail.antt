-- The tails: how much mass beyond a point there can be, and steps outward until that is within a goal.
use Rattle.std.specs.Prelude.{Bool, false, ◌&&◌, cond, [], ◌∷◌, ℕ, zero, suc, ◌+◌, Option, None, Some, Float}
use Rattle.std.specs.Float.Ieee.{le}
use Rattle.num.specs.F64.{◌⊕◌, ◌⊖◌, ◌⊗◌, ◌⊘◌, whole, bits, one·, two·, four·, infinity·}
use Rattle.num.specs.Helpers.{abs_of, is_finite_of, min_of, powi_of, sum_of}
use Rattle.elementary.specs.Exp.{exp_of}
use Rattle.work.specs.Ended.{domain}
use Rattle.work.specs.Work.{Work, ret, stop, eval, ◌>>=◌}
use Rattle.posterior.specs.declared.side.Ends.{Ends}
use Rattle.posterior.specs.declared.side.Side.{Side}
use Rattle.posterior.specs.declared.side.Side.TheVariants.{Left, Right}
use Rattle.posterior.specs.declared.integrand.Point.{Point}
use Rattle.tail.specs.declared.Hill.{Hill}
use Rattle.tail.specs.declared.Reach.{Reach}
use Rattle.posterior.specs.Side.{rises_of, steep_of, outward_of}
use Rattle.posterior.specs.Integrand.{Eval}

-- one term of the polynomial: coefficient u^i sd^k / slope^j
unfoldable pub term_of : Float → Float → ℕ → Float → ℕ → Float → ℕ → Float
term_of coefficient u i sd k slope j = coefficient ⊗ powi_of u i ⊗ powi_of sd k ⊘ powi_of slope j

abbrev pub twelve : Float
twelve = bits 0x4028_0000_0000_0000

abbrev pub twenty_four : Float
twenty_four = bits 0x4038_0000_0000_0000

abbrev pub eighty_six : Float
eighty_six = bits 0x4055_8000_0000_0000

-- all moments to the fourth are at most 86 n^4 (1 + |eta|)^4; that, integrated against the tangent's exponential out to infinity
unfoldable pub tail_bound_of : Float → Float → Float → Float → ℕ → Float
tail_bound_of log-relative slope eta sd total =
    let u = one· ⊕ abs_of eta in
    let polynomial = sum_of (term_of one· u 4 sd 0 slope 1 ∷ term_of four· u 3 sd 1 slope 2 ∷ term_of twelve u 2 sd 2 slope 3 ∷ term_of twenty_four u 1 sd 3 slope 4 ∷ term_of twenty_four u 0 sd 4 slope 5 ∷ []) in
    exp_of log-relative ⊗ eighty_six ⊗ powi_of (whole total) 4 ⊗ polynomial

-- what ends a walk: an open side compares as infinity does, and a bound that is a NaN is not within its goal
abbrev pub within_of : Option Float → Float → Bool
within_of None goal = le infinity· goal
within_of (Some b) goal = le b goal

-- what is asked after both walks: a side that is bounded by a finite number at most its goal
abbrev pub closed_of : Option Float → Float → Bool
closed_of None goal = false
closed_of (Some b) goal = is_finite_of b && le b goal

unfoldable pub both_closed_of : Option Float → Option Float → Float → Bool
both_closed_of l r goal = closed_of l goal && closed_of r goal

-- What the walks of one litter share: its posterior, and the mode, the logarithm there, the scale and the goal.
-- A new bound is taken only where the density rises toward the mode.
unfoldable pub bound_after_of : Hill → Side → Option Float → Float → Float → Float → Option Float
bound_after_of h side b z log slope = cond (rises_of side slope) (Some (tail_bound_of (log ⊖ h.log) (steep_of side slope) (h.p.mean ⊕ h.p.sd ⊗ z) h.p.sd h.p.total)) b

abbrev pub step_out : Hill → Side → ℕ → Float
step_out h side j = outward_of side h.mode (h.delta ⊗ powi_of two· (j + 1))

-- at most n steps more, the next of them the j-th
unfoldable pub walk : (Float → Eval) → Hill → Side → ℕ → ℕ → Float → Option Float → Work Eval Point Reach
walk here h side zero j z b = ret (record { z = z; bound = b })
walk here h side (suc n) j z b = do
  v ← eval (here z)
  cond (within_of (bound_after_of h side b z v.log v.slope) h.goal) (ret (record { z = z; bound = bound_after_of h side b z v.log v.slope }))
      (walk here h side n (j + 1) (step_out h side j) (bound_after_of h side b z v.log v.slope))

-- a walk from its first place, with no bound so far
abbrev pub started : (Float → Eval) → Hill → Side → Work Eval Point Reach
started here h side = walk here h side 30 0 (outward_of side h.mode h.delta) None

-- reason 3, tail not bounded: a side is open, or its bound is a NaN, infinite or above its goal
unfoldable pub span : (Float → Eval) → Hill → Work Eval Point Ends
span here h = do
  l ← started here h Left
  r ← started here h Right
  cond (both_closed_of l.bound r.bound h.goal) (ret (record { left = l.z; right = r.z })) (stop (domain 3))

-- 1e-13
abbrev pub tail_share : Float
tail_share = bits 0x3d3c_25c2_6849_7682

-- the goal: a share of the least mass that lies within delta of the mode
unfoldable pub goal : (Float → Eval) → Float → Float → Float → Work Eval Point Float
goal here mode log delta = do
  l ← eval (here (mode ⊖ delta))
  r ← eval (here (mode ⊕ delta))
  ret (tail_share ⊗ (two· ⊗ delta ⊗ exp_of (min_of l.log r.log ⊖ log)))
