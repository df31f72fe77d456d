-- The descent in the plane is that of the four coordinates with the first and the third held at +0: their terms are zeros that change nothing.
use Rattle.std.specs.Prelude.{◌≡◌, refl, Bool, true, false, cond, ◌&&◌, ◌||◌, not, List, [], ◌∷◌, T, Float}
use Rattle.std.proofs.Common.{ap, ◌∙◌}
use Rattle.std.specs.Float.{binary64}
use Rattle.std.specs.Float.Ieee.{neg, add, sub, mul, div, lt, le, eq, fits, of_bits}
use Rattle.std.specs.Float.Ieee.Fits.{mul-fits, cond-fits}
use Rattle.std.specs.Float.Ieee.Bits.{of_bits-fits}
use Rattle.num.specs.F64.{◌⊕◌, ◌⊖◌, ◌⊗◌, ◌⊘◌, zero·, one·}
use Rattle.num.specs.Helpers.{abs_of, max_of, is_finite_of}
use Rattle.order.specs.Numbers.{finite_number, zero_finite, le_right}
use Rattle.order.specs.Products.{mul_swap}
use Rattle.order.specs.Choices.{abs_not_below}
use Rattle.order.specs.Zeros.{zero_less_zero, zero_is, steady, begun_at_zero, abs_steady, zero_max, max_zero, held_plus, held_minus}
use Rattle.planar.specs.declared.Planar.{Planar}
use Rattle.planar.specs.Planar.{among_four_of, widened_of}
use Rattle.step.specs.declared.Move.{Move}
use Rattle.step.specs.Step as four
use Rattle.trial.specs.Judged.{norm_at_of}
use Rattle.stepper.specs.declared.Plan.{Plan}
use Rattle.stepper.specs.Machine.{direction_at_of, problem_of}
use Rattle.plane.specs.Plane.{Spot, Course, projected_of, norm_of, step_of, poor, safe_of, direction_of, candidate_of, slope_of, still_of, plane_of}
use Rattle.plane.specs.Mirror.{Alike}

abbrev pub placed : Spot → List Float
placed s = among_four_of s.x s.y

-- what is known of every value: its gradient is finite
pub record Good (v : Planar) : Type 0 where
  pub x : is_finite_of v.x ≡ true
  pub y : is_finite_of v.y ≡ true
  pub x_fits : T (fits binary64 v.x)
  pub y_fits : T (fits binary64 v.y)

-- ---- zeros beside zeros
zero_lt : lt zero· zero· ≡ false
unfolding lt of_bits
zero_lt = refl

zero_abs : abs_of zero· ≡ zero·
unfolding abs_of le sub add neg of_bits
zero_abs = refl

zero_larger : max_of zero· zero· ≡ zero·
unfolding max_of lt eq add of_bits
zero_larger = refl

zero_sum : zero· ⊕ zero· ≡ zero·
unfolding add of_bits
zero_sum = refl

zero_sum_minus : zero· ⊕ neg zero· ≡ zero·
unfolding add neg of_bits
zero_sum_minus = refl

zero_square : zero· ⊗ zero· ≡ zero·
unfolding mul of_bits
zero_square = refl

zero_minus_square : zero· ⊗ neg zero· ≡ neg zero·
unfolding mul neg of_bits
zero_minus_square = refl

minus_finite : is_finite_of (neg zero·) ≡ true
unfolding is_finite_of neg of_bits
minus_finite = refl

-- the held pair's step
held_step : neg zero· ⊘ max_of zero· one· ≡ neg zero·
unfolding div neg max_of lt of_bits
held_step = refl

-- ---- the projection and the norm
project_among : (s : Spot) (v : Planar) (low high : Spot) → four.project_of (placed s) (among_four_of v.x v.y) (placed low) (placed high) ≡ placed (projected_of s v low high)
unfolding four.project_of projected_of
project_among s v low high = rw (zero_is, zero_lt)

norm_among : (g : Spot) → is_finite_of g.x ≡ true → is_finite_of g.y ≡ true → T (fits binary64 g.x) → four.norm_of (placed g) ≡ norm_of g
unfolding four.norm_of norm_of
norm_among g i j f =
    let n = finite_number g.x i in
    let h = abs_not_below g.x n in
    rw (zero_abs, zero_larger, zero_max (abs_of g.x) (le_right zero· (abs_of g.x) h) h (abs_steady g.x f), max_zero (abs_of g.x) (le_right zero· (abs_of g.x) h) h (abs_steady g.x f))

cond_finite : (b : Bool) (x y : Float) → is_finite_of x ≡ true → is_finite_of y ≡ true → is_finite_of (cond b x y) ≡ true
cond_finite true x y i j = i
cond_finite false x y i j = j

projected_finite : (x g low high : Float) → is_finite_of g ≡ true → is_finite_of (four.project_at_of x g low high) ≡ true
projected_finite x g low high i = cond_finite (eq x low && lt zero· g) _ _ zero_finite (cond_finite (eq x high && lt g zero·) _ _ zero_finite i)

projected_fits : (x g low high : Float) → T (fits binary64 g) → T (fits binary64 (four.project_at_of x g low high))
projected_fits x g low high f =
    cond-fits binary64 (eq x low && lt zero· g) _ _ (of_bits-fits binary64 0) (cond-fits binary64 (eq x high && lt g zero·) _ _ (of_bits-fits binary64 0) f)

norm_same : (s : Spot) (v : Planar) (low high : Spot) → Good v → norm_at_of (placed low) (placed high) (placed s) (widened_of v) ≡ norm_of (projected_of s v low high)
norm_same s v low high k =
    ap four.norm_of (project_among s v low high)
    ∙ norm_among (projected_of s v low high) (unfold projected_of in projected_finite _ _ _ _ k.x) (unfold projected_of in projected_finite _ _ _ _ k.y) (unfold projected_of in projected_fits _ _ _ _ k.x_fits)

-- ---- the direction: of the held pair a zero each, the second of either sign
abbrev way : Bool → Move → List Float
way b m = neg zero· ∷ m.mean ∷ cond b (neg zero·) zero· ∷ m.variance ∷ []

dot_among : (g : Spot) (m : Move) → le zero· (four.dot_of (placed g) (way false m)) ≡ le zero· (m.mean ⊗ g.x ⊕ m.variance ⊗ g.y)
dot_among g m =
    rw (zero_minus_square, zero_sum_minus, zero_square, steady (g.x ⊗ m.mean) (mul-fits binary64 g.x m.mean), mul_swap m.mean g.x, mul_swap m.variance g.y)
    (begun_at_zero (g.x ⊗ m.mean) (g.y ⊗ m.variance) (mul-fits binary64 _ _) (mul-fits binary64 _ _))

finite_among : (m : Move) → four.finite_four_of (way false m) ≡ (is_finite_of m.mean && is_finite_of m.variance)
finite_among m = rw (minus_finite, zero_finite)

poor_among : (g : Spot) (m : Move) → (not (four.finite_four_of (way false m)) || le zero· (four.dot_of (placed g) (way false m))) ≡ poor g m
poor_among g m = rw (finite_among m, dot_among g m)

safe_by : (b : Bool) (g : Spot) (m : Move) → cond b (neg zero· ∷ neg g.x ∷ neg zero· ∷ neg g.y ∷ []) (way false m) ≡ way b (cond b (record { mean = neg g.x; variance = neg g.y }) m)
safe_by true g m = refl
safe_by false g m = refl

safe_among : (g : Spot) (m : Move) → four.safe_of (placed g) (way false m) ≡ way (poor g m) (safe_of g m)
unfolding four.safe_of safe_of
safe_among g m = rw (poor_among g m) (safe_by (poor g m) g m)

-- the pair that moves is the second group; the first is held by its bounds
joined_among : (s g : Spot) (v : Planar) (low high : Spot) → four.joined (four.group_step_of (placed s) (placed g) (widened_of v).hessian (placed low) (placed high) 0) (four.group_step_of (placed s) (placed g) (widened_of v).hessian (placed low) (placed high) 1) ≡ way false (step_of s g v low high)
unfolding four.alone_of
joined_among s g v low high = rw (zero_is, held_step)

directed : (s g : Spot) (v : Planar) (low high : Spot) → four.safe_of (placed g) (four.joined (four.group_step_of (placed s) (placed g) (widened_of v).hessian (placed low) (placed high) 0) (four.group_step_of (placed s) (placed g) (widened_of v).hessian (placed low) (placed high) 1)) ≡ way (poor g (step_of s g v low high)) (safe_of g (step_of s g v low high))
directed s g v low high = ap (four.safe_of (placed g)) (joined_among s g v low high) ∙ safe_among g (step_of s g v low high)

direction_among : (s : Spot) (v : Planar) (low high : Spot) → direction_at_of (placed low) (placed high) (placed s) (widened_of v) ≡ (let g = projected_of s v low high in way (poor g (step_of s g v low high)) (direction_of s v low high))
unfolding four.direction_of
direction_among s v low high = rw (project_among s v low high) (directed s (projected_of s v low high) v low high)

-- ---- the candidate, the slope and whether it moved
candidate_by : (b : Bool) (s : Spot) (m : Move) (alpha : Float) (low high : Spot) → is_finite_of alpha ≡ true → four.candidate_of (placed s) (way b m) alpha (placed low) (placed high) ≡ placed (candidate_of s m alpha low high)
unfolding four.candidate_of candidate_of
candidate_by true s m alpha low high i = rw (held_minus alpha i)
candidate_by false s m alpha low high i = rw (held_minus alpha i, held_plus alpha i)

candidate_among : (s : Spot) (v : Planar) (alpha : Float) (low high : Spot) → is_finite_of alpha ≡ true → four.candidate_of (placed s) (direction_at_of (placed low) (placed high) (placed s) (widened_of v)) alpha (placed low) (placed high) ≡ placed (candidate_of s (direction_of s v low high) alpha low high)
candidate_among s v alpha low high i =
    let g = projected_of s v low high in
    ap (λ d. four.candidate_of (placed s) d alpha (placed low) (placed high)) (direction_among s v low high)
    ∙ candidate_by (poor g (step_of s g v low high)) s (direction_of s v low high) alpha low high i

slope_among : (v : Planar) (next s : Spot) → four.slope_of (among_four_of v.x v.y) (placed next) (placed s) ≡ slope_of v next s
unfolding four.slope_of slope_of
slope_among v next s =
    rw (zero_less_zero, zero_square, zero_sum, steady (v.x ⊗ (next.x ⊖ s.x)) (mul-fits binary64 v.x (next.x ⊖ s.x)))

still_among : (next s : Spot) → four.still_of (placed next) (placed s) ≡ still_of next s
unfolding four.still_of still_of
still_among next s = rw zero_is

-- ---- so each shows the other
abbrev pub plan_of : Course → Plan
plan_of p = record { region = record { lo = placed p.low; hi = placed p.high }; tolerance = p.tolerance; most = record { 0 = p.most }; turns = record { 0 = p.turns } }

pub alike : (p : Course) → Alike (plane_of p) (problem_of (plan_of p)) placed widened_of Good
alike p =
    record {
      nll = λ v. refl;
      norm = λ s v k. norm_same s v p.low p.high k;
      candidate = λ s v alpha i. candidate_among s v alpha p.low p.high i;
      slope = λ s v next. slope_among v next s;
      still = λ next s. still_among next s;
      tolerance = refl;
      most = refl;
      turns = refl;
    }
