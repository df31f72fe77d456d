-- `project`, `norm`, the direction and the candidate of the source. Coordinates are two means, then two variances; the Hessian stands by rows.
use Rattle.std.specs.Prelude.{Bool, cond, ◌&&◌, ◌||◌, not, List, [], ◌∷◌, ℕ, ◌+◌, ◌*◌, get_or, Float}
use Rattle.std.specs.Float.{nan}
use Rattle.std.specs.Float.Ieee.{neg, lt, le, eq}
use Rattle.num.specs.F64.{◌⊕◌, ◌⊖◌, ◌⊗◌, ◌⊘◌, bits, zero·, half·, one·, two·}
use Rattle.num.specs.Helpers.{abs_of, max_of, clamp_of, is_finite_of, sum_of}
use Rattle.elementary.specs.Hypot.{hypot_of}
use Rattle.step.specs.declared.Move.{Move}

-- a coordinate's gradient, or zero where it points out of the box
abbrev pub project_at_of : Float → Float → Float → Float → Float
project_at_of x g lo hi = cond (eq x lo && lt zero· g) zero· (cond (eq x hi && lt g zero·) zero· g)

abbrev each : List Float → ℕ → Float
each v i = get_or v i nan

abbrev projected : List Float → List Float → List Float → List Float → ℕ → Float
projected x g lo hi i = project_at_of (each x i) (each g i) (each lo i) (each hi i)

unfoldable pub project_of : List Float → List Float → List Float → List Float → List Float
project_of x g lo hi = let at = projected x g lo hi in at 0 ∷ at 1 ∷ at 2 ∷ at 3 ∷ []

-- the largest magnitude; a NaN is dropped
unfoldable pub norm_of : List Float → Float
norm_of g = max_of (max_of (max_of (max_of zero· (abs_of (each g 0))) (abs_of (each g 1))) (abs_of (each g 2))) (abs_of (each g 3))

-- 1e-6
abbrev pub damping_share : Float
damping_share = bits 0x3eb0_c6f7_a0b5_ed8d

-- Newton's step for one group, its Hessian a (mean), b (variance) and c (mixed) damped until it is positive; steepest descent where its determinant is not
unfoldable pub damping_of : Float → Float → Float → Float
damping_of a b c =
    let smallest = half· ⊗ (a ⊕ b ⊖ hypot_of (a ⊖ b) (two· ⊗ c)) in
    max_of (damping_share ⊗ (one· ⊕ max_of (abs_of a) (abs_of b)) ⊖ smallest) zero·

abbrev pub solved_of : Float → Float → Float → Float → Float → Float → Move
solved_of a b c g h det = record { mean = (neg b ⊗ g ⊕ c ⊗ h) ⊘ det; variance = (c ⊗ g ⊖ a ⊗ h) ⊘ det }

unfoldable pub newton_of : Float → Float → Float → Float → Float → Move
newton_of a b c g h =
    let d = damping_of a b c in
    let p = a ⊕ d in
    let q = b ⊕ d in
    let det = p ⊗ q ⊖ c ⊗ c in
    cond (lt zero· det && is_finite_of det) (solved_of p q c g h det) (record { mean = neg g; variance = neg h })

-- a coordinate that is held by its bound
abbrev pub held_of : Float → Float → Float → Float → Bool
held_of x g lo hi = eq g zero· && (eq x lo || eq x hi)

-- where one coordinate is held the other steps alone; `first` says so of the mean, `second` of the variance, which is asked last and decides
unfoldable pub alone_of : Bool → Bool → Float → Float → Float → Float → Move → Move
alone_of first second a b g h m =
    cond second (record { mean = neg g ⊘ max_of a one·; variance = zero· })
    (cond first (record { mean = zero·; variance = neg h ⊘ max_of b one· }) m)

-- group i's step: i is 0 or 1
abbrev held : List Float → List Float → List Float → List Float → ℕ → Bool
held x g lo hi i = held_of (each x i) (each g i) (each lo i) (each hi i)

abbrev pub group_step_of : List Float → List Float → List Float → List Float → List Float → ℕ → Move
group_step_of x g hessian lo hi i =
    let a = each hessian (5 * i) in
    let b = each hessian (5 * i + 10) in
    let c = each hessian (5 * i + 2) in
    alone_of (held x g lo hi i) (held x g lo hi (i + 2)) a b (each g i) (each g (i + 2)) (newton_of a b c (each g i) (each g (i + 2)))

abbrev pub finite_four_of : List Float → Bool
finite_four_of d = is_finite_of (each d 0) && (is_finite_of (each d 1) && (is_finite_of (each d 2) && is_finite_of (each d 3)))

abbrev pub dot_of : List Float → List Float → Float
dot_of g d = sum_of (each g 0 ⊗ each d 0 ∷ each g 1 ⊗ each d 1 ∷ each g 2 ⊗ each d 2 ∷ each g 3 ⊗ each d 3 ∷ [])

abbrev pub negated : List Float → List Float
negated g = neg (each g 0) ∷ neg (each g 1) ∷ neg (each g 2) ∷ neg (each g 3) ∷ []

-- a direction that is not finite or not downhill gives way to steepest descent
unfoldable pub safe_of : List Float → List Float → List Float
safe_of g d = cond (not (finite_four_of d) || le zero· (dot_of g d)) (negated g) d

abbrev pub joined : Move → Move → List Float
joined a b = a.mean ∷ b.mean ∷ a.variance ∷ b.variance ∷ []

unfoldable pub direction_of : List Float → List Float → List Float → List Float → List Float → List Float
direction_of x g hessian lo hi = safe_of g (joined (group_step_of x g hessian lo hi 0) (group_step_of x g hessian lo hi 1))

abbrev candidate_at : List Float → List Float → Float → List Float → List Float → ℕ → Float
candidate_at x d alpha lo hi i = clamp_of (each x i ⊕ alpha ⊗ each d i) (each lo i) (each hi i)

unfoldable pub candidate_of : List Float → List Float → Float → List Float → List Float → List Float
candidate_of x d alpha lo hi = let at = candidate_at x d alpha lo hi in at 0 ∷ at 1 ∷ at 2 ∷ at 3 ∷ []

unfoldable pub slope_of : List Float → List Float → List Float → Float
slope_of gradient next x =
    sum_of (each gradient 0 ⊗ (each next 0 ⊖ each x 0) ∷ each gradient 1 ⊗ (each next 1 ⊖ each x 1) ∷ each gradient 2 ⊗ (each next 2 ⊖ each x 2) ∷ each gradient 3 ⊗ (each next 3 ⊖ each x 3) ∷ [])

unfoldable pub still_of : List Float → List Float → Bool
still_of next x = eq (each next 0) (each x 0) && (eq (each next 1) (each x 1) && (eq (each next 2) (each x 2) && eq (each next 3) (each x 3)))
