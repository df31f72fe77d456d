-- Where the gradient is finite so is the direction, and every candidate along it lies in its box; the norm is finite too.
use Rattle.std.specs.Prelude.{◌≡◌, refl, Bool, true, false, not, ◌&&◌, ◌||◌, List, ℕ, ◌<◌, get_or, Float}
use Rattle.std.proofs.Common.{◌∙◌, lit<}
use borrow.Table.Steps.{cases}
use Rattle.std.proofs.Math.Dec.{T}
use Rattle.std.specs.Float.{nan}
use Rattle.std.specs.Float.Ieee.{binary64, lt, le, eq, is_nan, fits}
use Rattle.std.specs.Float.Ieee.Bits.{of_bits-fits}
use Rattle.std.specs.Float.Ieee.Fits.{cond-fits, add-fits}
use Rattle.num.specs.Both.{and_left, and_right}
use Rattle.num.specs.F64.{◌⊕◌, ◌⊗◌, zero·}
use Rattle.num.specs.Helpers.{abs_of, clamp_of, is_finite_of}
use Rattle.order.specs.Numbers.{zero_finite}
use Rattle.order.specs.Negation.{neg_finite}
use Rattle.order.specs.Sums.{add_swap, add_number}
use Rattle.order.specs.Products.{mul_number}
use Rattle.order.specs.Choices.{clamp_not_below, clamp_not_above, abs_finite, max_finite}
use Rattle.order.specs.Boxes.{four, FiniteFour, Box, Inside}
use Rattle.step.specs.Step.{project_at_of, project_of, norm_of, finite_four_of, dot_of, negated, safe_of, direction_of, candidate_of}

-- ---- the projected gradient
at_finite : (x g lo hi : Float) → is_finite_of g ≡ true → is_finite_of (project_at_of x g lo hi) ≡ true
at_finite x g lo hi i =
    cases (eq x lo && lt zero· g) (λ t. rw t zero_finite)
    (λ t. cases (eq x hi && lt g zero·) (λ u. rw (t, u) zero_finite) (λ u. rw (t, u) i))

pub project_finite : (x g lo hi : List Float) → FiniteFour g → FiniteFour (project_of x g lo hi)
unfolding project_of
project_finite x g lo hi f =
    four (λ i. is_finite_of (get_or (project_of x g lo hi) i nan) ≡ true) (at_finite _ _ _ _ (f 0 (lit< tt))) (at_finite _ _ _ _ (f 1 (lit< tt))) (at_finite _ _ _ _ (f 2 (lit< tt))) (at_finite _ _ _ _ (f 3 (lit< tt)))

at_fits : (x g lo hi : Float) → T (fits binary64 g) → T (fits binary64 (project_at_of x g lo hi))
at_fits x g lo hi f = cond-fits binary64 (eq x lo && lt zero· g) _ _ (of_bits-fits binary64 0) (cond-fits binary64 (eq x hi && lt g zero·) _ _ (of_bits-fits binary64 0) f)

-- ---- the norm of a gradient whose entries are f64
size_finite : (x g lo hi : Float) → is_finite_of g ≡ true → T (fits binary64 g) → is_finite_of (abs_of (project_at_of x g lo hi)) ≡ true
size_finite x g lo hi i f = abs_finite (project_at_of x g lo hi) (at_finite x g lo hi i) (at_fits x g lo hi f)

pub norm_finite : (x g lo hi : List Float) → FiniteFour g → ((i : ℕ) → T (fits binary64 (get_or g i nan))) → is_finite_of (norm_of (project_of x g lo hi)) ≡ true
unfolding norm_of project_of
norm_finite x g lo hi f w =
    max_finite _ _ (max_finite _ _ (max_finite _ _ (max_finite _ _ zero_finite (size_finite _ _ _ _ (f 0 (lit< tt)) (w 0))) (size_finite _ _ _ _ (f 1 (lit< tt)) (w 1))) (size_finite _ _ _ _ (f 2 (lit< tt)) (w 2))) (size_finite _ _ _ _ (f 3 (lit< tt)) (w 3))

-- ---- the direction
negated_finite : (g : List Float) → FiniteFour g → FiniteFour (negated g)
negated_finite g f =
    four (λ i. is_finite_of (get_or (negated g) i nan) ≡ true) (neg_finite _ ∙ f 0 (lit< tt)) (neg_finite _ ∙ f 1 (lit< tt)) (neg_finite _ ∙ f 2 (lit< tt)) (neg_finite _ ∙ f 3 (lit< tt))

each_of_four : (d : List Float) → finite_four_of d ≡ true → FiniteFour d
each_of_four d h =
    let second = and_right (is_finite_of (get_or d 0 nan)) _ h in
    let third = and_right (is_finite_of (get_or d 1 nan)) _ second in
    four (λ i. is_finite_of (get_or d i nan) ≡ true) (and_left _ _ h) (and_left _ _ second) (and_left _ _ third) (and_right (is_finite_of (get_or d 2 nan)) _ third)

not_first : (a b : Bool) → (not a || b) ≡ false → a ≡ true
not_first true b h = refl
not_first false b h = cc

safe_finite : (g d : List Float) → FiniteFour g → FiniteFour (safe_of g d)
unfolding safe_of
safe_finite g d f = cases (not (finite_four_of d) || le zero· (dot_of g d)) (λ t. rw t (negated_finite g f)) (λ t. rw t (each_of_four d (not_first (finite_four_of d) (le zero· (dot_of g d)) t)))

pub direction_finite : (x g hessian lo hi : List Float) → FiniteFour g → FiniteFour (direction_of x g hessian lo hi)
unfolding direction_of
direction_finite x g hessian lo hi f = safe_finite g _ f

-- ---- the candidate
moved_number : (x alpha d : Float) → is_finite_of x ≡ true → is_finite_of alpha ≡ true → is_finite_of d ≡ true → is_nan (x ⊕ alpha ⊗ d) ≡ false
moved_number x alpha d i a j = rw (add_swap x (alpha ⊗ d)) (add_number (alpha ⊗ d) x (mul_number alpha d a j) i)

module _ (lo hi x d : List Float) (alpha : Float) where
  module _ (b : Box lo hi) (f : FiniteFour x) (g : FiniteFour d) (a : is_finite_of alpha ≡ true) (i : ℕ) (l : i < 4) where
    abbrev moved : Float
    moved = get_or x i nan ⊕ alpha ⊗ get_or d i nan

    low : le (get_or lo i nan) (clamp_of moved (get_or lo i nan) (get_or hi i nan)) ≡ true
    low = clamp_not_below _ _ _ (moved_number (get_or x i nan) alpha (get_or d i nan) (f i l) a (g i l)) (b.ordered i l)

    high : le (clamp_of moved (get_or lo i nan) (get_or hi i nan)) (get_or hi i nan) ≡ true
    high = clamp_not_above _ _ _ (moved_number (get_or x i nan) alpha (get_or d i nan) (f i l) a (g i l)) (b.ordered i l)

  pub candidate_inside : Box lo hi → FiniteFour x → FiniteFour d → is_finite_of alpha ≡ true → Inside lo hi (candidate_of x d alpha lo hi)
  unfolding candidate_of
  candidate_inside b f g a =
      record {
        above = four (λ i. le (get_or lo i nan) (get_or (candidate_of x d alpha lo hi) i nan) ≡ true) (low b f g a 0 (lit< tt)) (low b f g a 1 (lit< tt)) (low b f g a 2 (lit< tt)) (low b f g a 3 (lit< tt));
        below = four (λ i. le (get_or (candidate_of x d alpha lo hi) i nan) (get_or hi i nan) ≡ true) (high b f g a 0 (lit< tt)) (high b f g a 1 (lit< tt)) (high b f g a 2 (lit< tt)) (high b f g a 3 (lit< tt));
      }

  -- its entries are f64 where those of the box are
  clamp_fits : (y low high : Float) → T (fits binary64 y) → T (fits binary64 low) → T (fits binary64 high) → T (fits binary64 (clamp_of y low high))
  unfolding clamp_of
  clamp_fits y low high f g h = cond-fits binary64 (lt y low) _ _ g (cond-fits binary64 (lt high y) _ _ h f)

  pub candidate_fits : (i : ℕ) → i < 4 → T (fits binary64 (get_or lo i nan)) → T (fits binary64 (get_or hi i nan)) → T (fits binary64 (get_or (candidate_of x d alpha lo hi) i nan))
  unfolding candidate_of
  candidate_fits i l =
      four (λ i. T (fits binary64 (get_or lo i nan)) → T (fits binary64 (get_or hi i nan)) → T (fits binary64 (get_or (candidate_of x d alpha lo hi) i nan)))
      (λ g h. clamp_fits _ _ _ (add-fits binary64 _ _) g h) (λ g h. clamp_fits _ _ _ (add-fits binary64 _ _) g h) (λ g h. clamp_fits _ _ _ (add-fits binary64 _ _) g h) (λ g h. clamp_fits _ _ _ (add-fits binary64 _ _) g h)
      i l
