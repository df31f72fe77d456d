-- The logarithm of a factorial is finite from 0 to 1000: up to 22 as computed, and from there on because each step of Stirling's series is within a bound.
use Rattle.std.specs.Prelude.{◌≡◌, refl, Bool, true, false, ◌&&◌, ℕ, suc, ◌+◌, ◌-◌, ◌*◌, ◌/◌, ◌%◌, ◌^◌, ◌≤◌, ◌<◌, leb, Float}
use Rattle.std.proofs.Common.{le_refl, le_trans, mul-le-mul, arith, leb-true, leb-false, lit<, lit≤, pow_mono, pow_pos}
use borrow.Table.Steps.{cases}
use Rattle.std.specs.Float.{nan, inf, fin, binary64}
use Rattle.std.specs.Float.Ieee.{add, mul, lt, le, of_bits, of_int}
use Rattle.std.specs.Float.Ieee.Bits.{is_true, to_bits-lt}
use Rattle.std.specs.Float.Ieee.Exact.{HasValue}
use Rattle.std.specs.Float.Ieee.Fits.{add-fits}
use Rattle.std.specs.Float.Ieee.Order.{le_of_values}
use Rattle.num.specs.Both.{and_four}
use Rattle.num.specs.Every.{every_from, each_passes}
use Rattle.num.specs.F64.{◌⊕◌, ◌⊘◌, whole, bits, bits_of, half·, one·, two·, infinity·}
use Rattle.num.specs.Helpers.{is_finite_of}
use Rattle.order.specs.Numbers.{one_finite}
use Rattle.order.specs.Order.{le_then_le, le_not_lt}
use Rattle.order.specs.Sums.{add_left}
use Rattle.root.specs.Units.{value, written}
use Rattle.tables.specs.declared.log.LogRow.{LogRow}
use Rattle.tables.specs.Log.{log_row_of, log_rows}
use Rattle.elementary.specs.Log.{log_off, log_d, log_m, log_l1, log_l2, log_c2, log_c3, log_c4, log_c5, log_c6, log_c7, log_bias, log_at, log_exponent, log_row_at, log_parts}
use Rattle.elementary.specs.Lgamma.{lgam_c, lgam_m, stir0, stir1, stir2, stir3, stir4, lgamma_of, lgamma_by_stirling}
use Rattle.factorial.specs.Factorial.{log_factorial_of}
use Rattle.factorial.specs.ByProduct.{by_product_finite}
use Rattle.factorial.specs.Within.{magnitude, Within, within_finite, magnitude_plus, itself, whole_order, whole_within, add_within, sub_within, mul_within, one_over_within}

-- ---- the row
abbrev small : Float → Bool
small x = le (magnitude x) two·

unfoldable small_row : LogRow → Bool
small_row row = (small row.centre && small row.inverse) && (small row.high && small row.low)

rows_small : every_from (λ j. small_row (log_row_of j)) 64 0 ≡ true
unfolding every_from small_row log_row_of log_rows le of_bits
rows_small = refl

record RowWithin (row : LogRow) : Type 0 where
  of_centre : Within two· row.centre
  of_inverse : Within two· row.inverse
  of_high : Within two· row.high
  of_low : Within two· row.low

row_within : (row : LogRow) → small_row row ≡ true → RowWithin row
unfolding small_row
row_within row h =
    let f = and_four (small row.centre) (small row.inverse) (small row.high) (small row.low) h in
    record { of_centre = record { bounds = λ i. f.0 }; of_inverse = record { bounds = λ i. f.1 }; of_high = record { bounds = λ i. f.2 }; of_low = record { bounds = λ i. f.3 } }

row_at : (t : ℕ) → RowWithin (log_row_at t)
row_at t = row_within (log_row_at t) (each_passes (λ j. small_row (log_row_of j)) 64 0 (t % 2 ^ 52 / 2 ^ 46) rows_small (omega arith) (omega arith))

-- ---- the reduced number: the bits of a normal number below 2
two_is : HasValue two· false 2 1
unfolding of_bits
two_is = (refl, refl)

below_two : (k t : ℕ) → k ≤ 1022 → t < 2 ^ 52 → value (suc k) t * 1 ≤ 2 * 2 ^ 1074
below_two k t h l =
    let m : 2 ^ 52 + t ≤ 2 ^ 53 = omega arith in
    le_trans (mul-le-mul (mul-le-mul m (pow_mono h)) (le_refl 1)) (lit≤ tt)

fields_within : (k t : ℕ) → k ≤ 1022 → t < 2 ^ 52 → Within two· (bits (suc k * 2 ^ 52 + t))
fields_within k t h l =
    let x = bits (suc k * 2 ^ 52 + t) in
    let v = written k t (omega arith) l in
    let o : le x two· ≡ true = is_true _ (le_of_values x two· (value (suc k) t) (2 ^ 1074) 2 1 (pow_pos 1074) (lit< tt) v two_is (below_two k t h l)) in
    record { bounds = λ i. rw (magnitude_plus x (value (suc k) t) (2 ^ 1074) v) o }

bits_within : (b : ℕ) → 2 ^ 52 ≤ b → b < 1024 * 2 ^ 52 → Within two· (bits b)
bits_within b h l =
    let e : suc (b / 2 ^ 52 - 1) * 2 ^ 52 + b % 2 ^ 52 ≡ b = omega arith in
    rw e at (fields_within (b / 2 ^ 52 - 1) (b % 2 ^ 52) (omega arith) (omega arith))

-- ---- Stirling's series, step by step as `log_at` and `lgamma_by_stirling` go
stirling_finite : (x k : Float) (frac : ℕ) (row : LogRow) → Within (whole 1000 ⊕ magnitude one·) x → Within one· (one· ⊘ x) → Within (whole 4096 ⊕ magnitude log_bias) k → Within two· (bits (frac + log_off)) → RowWithin row → is_finite_of (lgamma_by_stirling x (log_at k frac row).hi (log_at k frac row).lo) ≡ true
stirling_finite x k frac row of-x u of-k z r =
    let d = sub_within z r.of_centre in
    let p = mul_within d r.of_inverse in
    let rh = sub_within (add_within p (itself log_m)) (itself log_m) in
    let rl = mul_within (sub_within d (mul_within rh r.of_centre)) r.of_inverse in
    let q = mul_within p p in
    let c23 = add_within (itself log_c2) (mul_within p (itself log_c3)) in
    let c45 = add_within (itself log_c4) (mul_within p (itself log_c5)) in
    let c67 = add_within (itself log_c6) (mul_within p (itself log_c7)) in
    let g = mul_within q (add_within (add_within c23 (mul_within q c45)) (mul_within (mul_within q q) c67)) in
    let hi = add_within (add_within (mul_within of-k (itself log_l1)) r.of_high) rh in
    let lo = add_within (add_within (add_within (mul_within of-k (itself log_l2)) r.of_low) rl) g in
    let a = sub_within of-x (itself half·) in
    let h = sub_within hi (itself one·) in
    let hs = sub_within (add_within h (itself lgam_m)) (itself lgam_m) in
    let hl = sub_within h hs in
    let uu = mul_within u u in
    let s34 = add_within (itself stir3) (mul_within uu (itself stir4)) in
    let s14 = add_within (itself stir1) (mul_within uu (add_within (itself stir2) (mul_within uu s34))) in
    let w = mul_within u (add_within (itself stir0) (mul_within uu s14)) in
    within_finite (add_within (mul_within a hs) (add_within (mul_within a (add_within hl lo)) (add_within (itself lgam_c) w)))
    (unfold is_finite_of add mul of_bits of_int in refl)

-- ---- lgamma from 23.5 on
finite_below_infinity : (x : Float) → is_finite_of x ≡ true → lt x infinity· ≡ true
unfolding is_finite_of lt of_bits
finite_below_infinity nan i = i
finite_below_infinity (inf s) i = cc
finite_below_infinity (fin s m e) i = refl

by_stirling : (x : Float) → lt x one· ≡ false → lt x (bits 0x4037_8000_0000_0000) ≡ false → lt x infinity· ≡ true → lgamma_of x ≡ lgamma_by_stirling x (log_parts (bits_of x) log_bias).hi (log_parts (bits_of x) log_bias).lo
unfolding lgamma_of
by_stirling x h k l = rw (h, k, l)

parts_finite : (x : Float) (b : ℕ) → b < 2 ^ 64 → Within (whole 1000 ⊕ magnitude one·) x → Within one· (one· ⊘ x) → is_finite_of (lgamma_by_stirling x (log_parts b log_bias).hi (log_parts b log_bias).lo) ≡ true
unfolding log_parts
parts_finite x b l of-x u =
    let t = b + log_d in
    stirling_finite x (log_exponent t log_bias) (t % 2 ^ 52) (log_row_at t) of-x u
    (sub_within (whole_within (t / 2 ^ 52) 4096 (omega arith)) (itself log_bias))
    (bits_within (t % 2 ^ 52 + log_off) (omega arith) (omega arith))
    (row_at t)

-- 24 is past both of lgamma's limits
past_one : le one· (whole 23 ⊕ one·) ≡ true
unfolding le add of_bits of_int
past_one = refl

past_product : le (bits 0x4037_8000_0000_0000) (whole 23 ⊕ one·) ≡ true
unfolding le add of_bits of_int
past_product = refl

bound_finite : is_finite_of (whole 1000 ⊕ magnitude one·) ≡ true
unfolding is_finite_of add of_bits of_int
bound_finite = refl

from_23 : (n : ℕ) → 23 ≤ n → n ≤ 1000 → is_finite_of (log_factorial_of n) ≡ true
unfolding log_factorial_of
from_23 n h l =
    let x = whole n ⊕ one· in
    let of-x : Within (whole 1000 ⊕ magnitude one·) x = add_within (whole_within n 1000 l) (itself one·) in
    let i = within_finite of-x bound_finite in
    let above = add_left (whole 23) one· (whole n) one_finite (whole_order 23 n h) in
    let past = le_then_le one· (whole 23 ⊕ one·) x past_one above in
    let beyond = le_then_le (bits 0x4037_8000_0000_0000) (whole 23 ⊕ one·) x past_product above in
    rw (by_stirling x (le_not_lt one· x past) (le_not_lt (bits 0x4037_8000_0000_0000) x beyond) (finite_below_infinity x i))
    (parts_finite x (bits_of x) (to_bits-lt binary64 x (add-fits binary64 (whole n) one·)) of-x (one_over_within x i past))

pub log_factorial_finite : (n : ℕ) → n ≤ 1000 → is_finite_of (log_factorial_of n) ≡ true
log_factorial_finite n h =
    cases (leb n 22) (λ t. by_product_finite n (leb-true n 22 t)) (λ t. from_23 n (leb-false n 22 t) h)
