-- The box of an admitted request: its bounds are finite and in order, means within 8 of 0 and variances from 0 to 3 times 3, and the start lies in it.
use Rattle.std.specs.Prelude.{◌≡◌, refl, true, List, ℕ, T, get_or, Float}
use Rattle.std.proofs.Common.{sym, ◌∙◌}
use Rattle.std.specs.Float.{nan, binary64}
use Rattle.std.specs.Float.Ieee.{neg, mul, le, eq, fits, of_bits}
use Rattle.std.specs.Float.Ieee.Fits.{mul-fits}
use Rattle.num.specs.Both.{and_left, and_right}
use Rattle.num.specs.F64.{◌⊗◌, zero·, one·, three·, eight·}
use Rattle.num.specs.Helpers.{is_finite_of, powi_from, powi_of}
use Rattle.order.specs.Numbers.{zero_finite, between_finite}
use Rattle.order.specs.Order.{le_then_le, lt_le, eq_le, eq_ge}
use Rattle.order.specs.Products.{mul_number, mul_swap, mul-one, square_not_below, square_order}
use Rattle.order.specs.Boxes.{four, Box, Inside}
use Rattle.litters.specs.Valid.{valid_litters_of}
use Rattle.litters.specs.All.{each_passes}
use Rattle.request.specs.declared.Request.{Request}
use Rattle.request.specs.Request.{valid_mean_of, valid_sd_of, valid_means_of, valid_sds_of, valid_boxes_of, valid_controls_of, two_each_of, admitted_of, start_of, low_of, high_of}
use Rattle.request.specs.Checks.{mean_checks, sd_checks, mean_all, sd_all}

-- what is known of one coordinate: its bounds lo and hi, its start, and the least and the most that a bound may be
pub record Coordinate (least lo start hi most : Float) : Type 0 where
  pub low : is_finite_of lo ≡ true
  pub high : is_finite_of hi ≡ true
  pub ordered : le lo hi ≡ true
  pub above : le lo start ≡ true
  pub below : le start hi ≡ true
  pub at_least : le least lo ≡ true
  pub at_most : le hi most ≡ true

-- ---- a mean
mean_passes : (low high start : Float) → valid_mean_of low high start ≡ true → (i : ℕ) → get_or (mean_checks low high start) i true ≡ true
mean_passes low high start h i = each_passes (mean_checks low high start) i (sym (mean_all low high start) ∙ h)

mean_known : (low high start : Float) → valid_mean_of low high start ≡ true → Coordinate (neg eight·) low start high eight·
mean_known low high start h =
    let passes = mean_passes low high start h in
    record { low = passes 0; high = passes 1; ordered = lt_le _ _ (passes 3); above = passes 4; below = passes 5; at_least = passes 6; at_most = passes 7 }

-- ---- a variance: the square of an SD

-- the most that it may be
abbrev pub most· : Float
most· = three· ⊗ three·

three_finite : is_finite_of three· ≡ true
unfolding is_finite_of of_bits
three_finite = refl

most_finite : is_finite_of most· ≡ true
unfolding is_finite_of mul of_bits
most_finite = refl

square_least : (s : Float) → is_finite_of s ≡ true → le zero· (s ⊗ s) ≡ true
square_least s i = square_not_below s (mul_number s s i i)

square_most : (s : Float) → is_finite_of s ≡ true → le zero· s ≡ true → le s three· ≡ true → le (s ⊗ s) most· ≡ true
square_most s i g h = square_order s three· i three_finite g h

square_finite : (s : Float) → is_finite_of s ≡ true → le zero· s ≡ true → le s three· ≡ true → is_finite_of (s ⊗ s) ≡ true
square_finite s i g h = between_finite _ _ _ zero_finite most_finite (square_least s i) (square_most s i g h)

-- the start's square is taken by powi
pub start_fits : (s : Float) → T (fits binary64 (powi_of s 2))
unfolding powi_of powi_from
start_fits s = mul-fits binary64 one· (s ⊗ s)

start_square : (s : Float) → is_finite_of (s ⊗ s) ≡ true → eq (powi_of s 2) (s ⊗ s) ≡ true
unfolding powi_of powi_from
start_square s i = rw (mul_swap one· (s ⊗ s)) (mul-one (s ⊗ s) i (mul-fits binary64 s s))

sd_passes : (low high start : Float) → valid_sd_of low high start ≡ true → (i : ℕ) → get_or (sd_checks low high start) i true ≡ true
sd_passes low high start h i = each_passes (sd_checks low high start) i (sym (sd_all low high start) ∙ h)

variance_known : (low high start : Float) → valid_sd_of low high start ≡ true → Coordinate zero· (low ⊗ low) (powi_of start 2) (high ⊗ high) most·
variance_known low high start h =
    let passes = sd_passes low high start h in
    let i : is_finite_of low ≡ true = passes 0 in
    let j : is_finite_of high ≡ true = passes 1 in
    let k : is_finite_of start ≡ true = passes 2 in
    let l : le low start ≡ true = passes 4 in
    let m : le start high ≡ true = passes 5 in
    let g : le zero· low ≡ true = passes 6 in
    let u : le high three· ≡ true = passes 7 in
    let s = le_then_le _ _ _ g l in
    let t = le_then_le _ _ _ m u in
    let e = start_square start (square_finite start k s t) in
    record {
      low = square_finite low i g (le_then_le _ _ _ l t);
      high = square_finite high j (le_then_le _ _ _ s m) u;
      ordered = lt_le _ _ (passes 8);
      above = le_then_le _ _ _ (square_order low start i k g l) (eq_ge _ _ e);
      below = le_then_le _ _ _ (eq_le _ _ e) (square_order start high k j s m);
      at_least = square_least low i;
      at_most = square_most high j (le_then_le _ _ _ s m) u;
    }

-- the SDs' own bounds
pub record Bounded (low high : Float) : Type 0 where
  pub low_finite : is_finite_of low ≡ true
  pub high_finite : is_finite_of high ≡ true
  pub ordered : le low high ≡ true

sd_bounded : (low high start : Float) → valid_sd_of low high start ≡ true → Bounded low high
sd_bounded low high start v =
    let passes = sd_passes low high start v in
    record { low_finite = passes 0; high_finite = passes 1; ordered = lt_le _ _ (passes 3) }

-- ---- of an admitted request
module _ (r : Request) (ls : List ℕ) (h : admitted_of r ls ≡ true) where
  means : valid_means_of r.mean ≡ true
  unfolding admitted_of
  means = and_left _ _ (and_left (valid_boxes_of r) _ h)

  sds : valid_sds_of r.sd ≡ true
  unfolding admitted_of
  sds = and_right (valid_means_of r.mean) _ (and_left (valid_boxes_of r) _ h)

  pub admitted_litters : valid_litters_of ls ≡ true
  unfolding admitted_of
  admitted_litters = and_left _ (two_each_of ls) (and_right (valid_controls_of r) _ (and_right (valid_boxes_of r) _ h))

  pub first : Coordinate (neg eight·) (get_or (low_of r) 0 nan) (get_or (start_of r) 0 nan) (get_or (high_of r) 0 nan) eight·
  unfolding valid_means_of
  first = mean_known _ _ _ (and_left _ _ means)

  pub second : Coordinate (neg eight·) (get_or (low_of r) 1 nan) (get_or (start_of r) 1 nan) (get_or (high_of r) 1 nan) eight·
  unfolding valid_means_of
  second = mean_known _ _ _ (and_right (valid_mean_of (get_or r.mean.low 0 nan) (get_or r.mean.high 0 nan) (get_or r.mean.start 0 nan)) _ means)

  pub third : Coordinate zero· (get_or (low_of r) 2 nan) (get_or (start_of r) 2 nan) (get_or (high_of r) 2 nan) most·
  unfolding valid_sds_of
  third = variance_known _ _ _ (and_left _ _ sds)

  pub fourth : Coordinate zero· (get_or (low_of r) 3 nan) (get_or (start_of r) 3 nan) (get_or (high_of r) 3 nan) most·
  unfolding valid_sds_of
  fourth = variance_known _ _ _ (and_right (valid_sd_of (get_or r.sd.low 0 nan) (get_or r.sd.high 0 nan) (get_or r.sd.start 0 nan)) _ sds)

  pub the_box : Box (low_of r) (high_of r)
  the_box =
      record {
        low = four (λ i. is_finite_of (get_or (low_of r) i nan) ≡ true) first.low second.low third.low fourth.low;
        high = four (λ i. is_finite_of (get_or (high_of r) i nan) ≡ true) first.high second.high third.high fourth.high;
        ordered = four (λ i. le (get_or (low_of r) i nan) (get_or (high_of r) i nan) ≡ true) first.ordered second.ordered third.ordered fourth.ordered;
      }

  pub start_inside : Inside (low_of r) (high_of r) (start_of r)
  start_inside =
      record {
        above = four (λ i. le (get_or (low_of r) i nan) (get_or (start_of r) i nan) ≡ true) first.above second.above third.above fourth.above;
        below = four (λ i. le (get_or (start_of r) i nan) (get_or (high_of r) i nan) ≡ true) first.below second.below third.below fourth.below;
      }

  pub first_variance : le zero· (get_or (low_of r) 2 nan) ≡ true
  first_variance = third.at_least

  pub second_variance : le zero· (get_or (low_of r) 3 nan) ≡ true
  second_variance = fourth.at_least

  pub first_sd : Bounded (get_or r.sd.low 0 nan) (get_or r.sd.high 0 nan)
  unfolding valid_sds_of
  first_sd = sd_bounded _ _ _ (and_left _ _ sds)

  pub second_sd : Bounded (get_or r.sd.low 1 nan) (get_or r.sd.high 1 nan)
  unfolding valid_sds_of
  second_sd = sd_bounded _ _ _ (and_right (valid_sd_of (get_or r.sd.low 0 nan) (get_or r.sd.high 0 nan) (get_or r.sd.start 0 nan)) _ sds)
