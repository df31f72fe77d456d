-- The kit's rounding gives the nearest f64, at a tie the even one, for every fraction whose rounding is finite; so it gives a decimal's f64.
use Rattle.std.specs.Prelude.{◌≡◌, Bool, true, cond, T, ltb, Float}
use Rattle.std.proofs.Math.Path.{refl, sym, subst}
use Rattle.std.proofs.Common.{ap, ◌∙◌, mul_right_comm, mul-pos, le_trans, lt_of_not-le, not-le_of_lt, lt_of_le_of_lt, mul-le-mul, mul-le-mul_right, div-add-mod', mod-lt, div-lt_iff_lt-mul, le-div_iff_mul-le, mul-lt-mul_of_pos_right, arith, ltb-true, ltb-false, lit<, pow-add, pow_pos, pow_mono}
use Rattle.std.proofs.Math.Bool.{false}
use Prim.Native.Nat.{ℕ, zero, suc, ◌+◌, ◌-◌, ◌*◌, ◌/◌, ◌%◌, ◌^◌, ◌≤◌, ◌<◌, compare, Ordering}
use Rattle.std.proofs.Math.Nat.{div-div-eq-div-mul, one-le-pow}
use borrow.Table.Steps.{cases}
use Rattle.std.proofs.Math.Pow.{pow-lt}
use Rattle.std.specs.Float.{nan, inf, fin}
use Rattle.std.specs.Float.Ieee.{binary64, size, nearest, odd, neg, round, units as Ieee·units}
use Rattle.std.specs.Float.Ieee.Exact.{HasValue}
use Rattle.std.specs.Float.Ieee.Digits.{size-le, size_reaches}
use Rattle.std.specs.Float.Ieee.Fits.{nearest-le, kept-lt, round_is, round-fits}
use Rattle.std.specs.Float.Ieee.Nearest.{closest}
use Rattle.std.specs.Float.Ieee.Order.{drop, kept}
use Rattle.std.specs.Float.Ieee.Scale.{grid, overflow, finite, round_val, round_under}
use Rattle.std.specs.Float.Ieee.Bits.{of_bits-fits}
use Rattle.num.specs.F64.{bits}
use Rattle.num.specs.Compare.{Cmp, cmp}
use Rattle.root.specs.Units.{units_is, plus_is}
use Rattle.root.specs.Unique.{same_units}
use Rattle.decimal.specs.Nearest.{Nearest, Decimal}
use Rattle.decimal.specs.Whole.{Whole, in_middle}
use Rattle.decimal.specs.Bits.{inf_bits, units_at_lem, plus_at, Full, normal, least, placed}
use Rattle.decimal.specs.Placed.{Reached, near_placed, full_of}
use Rattle.decimal.specs.Unique.{one_decimal}

-- ---- the nearest whole number

whole_of : (q r u : ℕ) (o : Ordering) → r < u → Cmp o (r * 2) u → Whole (q * u + r) u (nearest q o)
whole_of q r u Ordering.lt h c = record { not_over = omega arith; not_under = omega arith; tie_over = λ t. absurd (omega (arith, t)); tie_under = λ t. absurd (omega (arith, t)) }
whole_of q r u Ordering.eq h c = in_middle (q * u + r) q u (q % 2) (omega arith) refl
whole_of q r u Ordering.gt h c = record { not_over = omega arith; not_under = omega arith; tie_over = λ t. absurd (omega (arith, t)); tie_under = λ t. absurd (omega (arith, t)) }

pub closest_whole : (X u : ℕ) → 0 < u → Whole X u (closest X u)
closest_whole X u h = subst (λ (x : ℕ). Whole x u (closest X u)) (div-add-mod' X u) (whole_of (X / u) (X % u) u (compare (X % u * 2) u) (mod-lt X h) (cmp (X % u * 2) u))

-- ---- what `round` keeps of X / den and what it drops

few_kept : (X den : ℕ) → kept 53 X den ≤ 2 ^ 53
few_kept X den =
    let k = drop 53 X den in
    let u = den * 2 ^ k in
    le_trans (nearest-le (X / u) (compare (X % u * 2) u)) (subst (λ (x : ℕ). x < 2 ^ 53) (div-div-eq-div-mul X den (2 ^ k)) (kept-lt 53 (X / den)))

reached_of : (X den k : ℕ) → 0 < den → k ≡ size (X / den) - 53 → Reached X den k
reached_of X den zero h e = tt
reached_of X den (suc j) h e =
    let a : 2 ^ (53 + j) * den ≤ X = (le-div_iff_mul-le h).0 (size_reaches (X / den) (53 + j) (omega arith)) in
    let b : 2 ^ (53 + j) ≡ 2 ^ 53 * 2 ^ j = pow-add 2 53 j in
    let c : 2 ^ (53 + j) * den ≡ 2 ^ 53 * 2 ^ j * den = ap (λ (x : ℕ). x * den) b in
    omega arith

under : (m c k : ℕ) → 2 ^ m ≤ c → c * 2 ^ k < 2 ^ 2098 → m + k < 2098
under m c k l h = lt_of_not-le (λ (g : 2098 ≤ m + k). not-le_of_lt h (le_trans (pow_mono g) (subst (λ (x : ℕ). x ≤ c * 2 ^ k) (sym (pow-add 2 m k)) (mul-le-mul_right (2 ^ k) l))))

within : (c k : ℕ) → c ≤ 2 ^ 53 → 52 + k < 2098 → (2 ^ 53 ≤ c → 53 + k < 2098) → c + k * 2 ^ 52 < inf_bits
within c k h a b =
    cases (ltb c (2 ^ 53))
    (λ t. omega (arith, ltb-true c (2 ^ 53) t))
    (λ t. omega (arith, b (ltb-false c (2 ^ 53) t)))

below_of : (c k : ℕ) → Full c k → c ≤ 2 ^ 53 → c * 2 ^ k < 2 ^ 2098 → c + k * 2 ^ 52 < inf_bits
below_of c k (normal l) h o = within c k h (under 52 c k l o) (λ g. under 53 c k g o)
below_of c k (least e) h o = small c k h e
  where
    small : (c k : ℕ) → c ≤ 2 ^ 53 → k ≡ 0 → c + k * 2 ^ 52 < inf_bits
    small c k h e = omega arith

-- ---- the law

module _ (num den : ℕ) (h : 0 < den) (o : grid binary64 num den < overflow binary64) where
  k : ℕ
  k = drop 53 (num * 2 ^ 1074) den

  c : ℕ
  c = kept 53 (num * 2 ^ 1074) den

  rounds : Whole (num * 2 ^ 1074) (den * 2 ^ k) c
  unfolding k c
  rounds = closest_whole (num * 2 ^ 1074) (den * 2 ^ k) (mul-pos h (pow_pos k))

  has_digits : Reached (num * 2 ^ 1074) den k
  unfolding k
  has_digits = reached_of (num * 2 ^ 1074) den k h refl

  in_range : c + k * 2 ^ 52 < inf_bits
  unfolding k c
  in_range = below_of c k (full_of (num * 2 ^ 1074) den c k h rounds has_digits) (few_kept (num * 2 ^ 1074) den) o

  round_bits : round binary64 false num den ≡ bits (c + k * 2 ^ 52)
  unfolding k c
  round_bits =
      let v = round_val binary64 num den o in
      same_units (round binary64 false num den) (bits (c + k * 2 ^ 52)) (round-fits binary64 false num den) (of_bits-fits binary64 (c + k * 2 ^ 52))
      (plus_is (round binary64 false num den) (c * 2 ^ k) v) (plus_at (c + k * 2 ^ 52) in_range)
      (units_is (round binary64 false num den) (c * 2 ^ k) v ∙ sym (units_at_lem (c + k * 2 ^ 52) in_range ∙ placed c k (full_of (num * 2 ^ 1074) den c k h rounds has_digits) (few_kept (num * 2 ^ 1074) den)))

  near_round : Nearest num den (round binary64 false num den)
  unfolding c k
  near_round = subst (λ (x : Float). Nearest num den x) (sym round_bits) (near_placed num den c k h (few_kept (num * 2 ^ 1074) den) in_range rounds has_digits)

pub round_nearest : (num den : ℕ) → 0 < den → T (finite (round binary64 false num den)) → Nearest num den (round binary64 false num den)
round_nearest num den h f = near_round num den h (round_under binary64 num den f)

-- ---- a fraction below 2^54, with its sign

finite_of_lem : (x : Float) (a c : ℕ) → HasValue x false a c → T (finite x)
finite_of_lem nan a c h = absurd h
finite_of_lem (inf s) a c h = absurd h
finite_of_lem (fin s m e) a c h = tt

low_drop : (z k : ℕ) → z ≤ 1128 → k ≡ z - 53 → k ≤ 1075
low_drop z k h e = omega arith

pub below_finite : (num den : ℕ) → 0 < den → num < 2 ^ 54 * den → T (finite (round binary64 false num den))
below_finite num den h l =
    let x : num * 2 ^ 1074 < 2 ^ 1128 * den = subst (λ (n : ℕ). num * 2 ^ 1074 < n) (mul_right_comm (2 ^ 54) den (2 ^ 1074) ∙ ap (λ (n : ℕ). n * den) (sym (pow-add 2 54 1074))) (mul-lt-mul_of_pos_right l (pow_pos 1074)) in
    let k : drop 53 (num * 2 ^ 1074) den ≤ 1075 = low_drop (size (num * 2 ^ 1074 / den)) _ (size-le (num * 2 ^ 1074 / den) 1128 ((div-lt_iff_lt-mul h).1 x)) refl in
    finite_of_lem (round binary64 false num den) (grid binary64 num den) (2 ^ 1074) (round_val binary64 num den (lt_of_le_of_lt (mul-le-mul (few_kept (num * 2 ^ 1074) den) (pow_mono k)) (pow-lt {i = 1128} {j = 2098} (lit< tt))))

odd_minus : (d q k l : ℕ) → odd d true q k l ≡ neg (odd d false q k l)
unfolding odd neg
odd_minus d zero k l = refl
odd_minus d (suc q) k l = refl

units_minus : (q k : ℕ) → Ieee·units binary64 true q k ≡ neg (Ieee·units binary64 false q k)
unfolding Ieee·units neg
units_minus q k = go (ltb (q * 2 ^ k) (2 ^ (1074 + 1024)))
  where
    go : (b : Bool) → cond b (odd 54 true q k 1074) (inf true) ≡ neg (cond b (odd 54 false q k 1074) (inf false))
    go true = odd_minus 54 q k 1074
    go false = refl

round_minus : (num den : ℕ) → round binary64 true num den ≡ neg (round binary64 false num den)
round_minus num den = round_is binary64 true num den ∙ units_minus (kept 53 (num * 2 ^ 1074) den) (drop 53 (num * 2 ^ 1074) den) ∙ ap neg (sym (round_is binary64 false num den))

signed : (minus : Bool) (num den : ℕ) → round binary64 minus num den ≡ cond minus (neg (round binary64 false num den)) (round binary64 false num den)
signed true num den = round_minus num den
signed false num den = refl

-- `round` gives a decimal's f64, and a decimal's f64 is that
pub round_decimal : (minus : Bool) (digits places : ℕ) → digits < 2 ^ 54 * 10 ^ places → Decimal minus digits places (round binary64 minus digits (10 ^ places))
round_decimal minus digits places l =
    let p : 0 < 10 ^ places = one-le-pow places 10 (omega arith) in
    record {
      size = round binary64 false digits (10 ^ places);
      nearest = round_nearest digits (10 ^ places) p (below_finite digits (10 ^ places) p l);
      is = signed minus digits (10 ^ places);
    }

pub decimal_round : (minus : Bool) (digits places : ℕ) (r : Float) → digits < 2 ^ 54 * 10 ^ places → Decimal minus digits places r → r ≡ round binary64 minus digits (10 ^ places)
decimal_round minus digits places r l d = one_decimal minus digits places r (round binary64 minus digits (10 ^ places)) d (round_decimal minus digits places l)
