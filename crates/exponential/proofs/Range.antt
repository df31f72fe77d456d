-- Within 3/8 of zero the exponential is a number, and lies from 0.68 to 1.46.
use Rattle.std.specs.Prelude.{◌≡◌, refl, Bool, true, false, not, ℕ, ◌+◌, ◌-◌, ◌*◌, ◌^◌, ◌≤◌, ◌<◌, T, Float}
use Rattle.std.proofs.Common.{ap, ◌∙◌, mul-le-mul_right, mul-one, mul-pos, arith, lit<, lit≤}
use Rattle.std.proofs.Math.Nat.{pow-succ', pow-zero}
use Rattle.std.specs.Float.{nan, inf, fin, binary64}
use Rattle.std.specs.Float.Ieee.{is_nan, le, fits, of_bits}
use Rattle.std.specs.Float.Ieee.Exact.{HasValue}
use Rattle.std.specs.Float.Ieee.Order.{le_of_values}
use Rattle.std.specs.Float.Ieee.Scale.{finite}
use Rattle.num.specs.Helpers.{abs_of}
use Rattle.root.specs.Root.{units}
use Rattle.elementary.specs.Exp.{exp_of, three_eighths}
use Rattle.rounding.specs.Units.{U, U_pos, sign_of, pos_side, neg_side, one_value}
use Rattle.series.specs.Fraction.{Fraction, AtMost, raised, raised_mono, at_most_trans}
use Rattle.series.specs.Polynomial.{power}
use Rattle.series.specs.Exponential.{over, top, lower_at, upper_at, over_pos}
use Rattle.series.specs.Enclosure.{lower_rises, upper_falls}
use Rattle.exponential.specs.Statement.{value, lower, upper, allowed}
use Rattle.exponential.specs.Range.{least, most, Between}
use Rattle.exponential.specs.Found.{Found}
use Rattle.exponential.specs.Steps.{size, off}
use Rattle.exponential.proofs.Near.{half, enclosed, found, at_most}

-- ---- the two fractions at 3, with no sign of x left open: w is three times u, and 8 v + r as well

fourth : (n : ℕ) → n ^ 4 ≡ n * (n * (n * n))
fourth n =
    pow-succ' n 3
    ∙ ap (λ (x : ℕ). n * x) (pow-succ' n 2 ∙ ap (λ (x : ℕ). n * x) (pow-succ' n 1 ∙ ap (λ (x : ℕ). n * x) (pow-succ' n 0 ∙ ap (λ (x : ℕ). n * x) (pow-zero n) ∙ mul-one n)))

low_minus : (v r w : ℕ) → w ≡ 8 * v + r
    → 16416 * (w * (w * (w * w))) + 1000 * (24 * (w * (w * (w * (3 * v)))) + 4 * (w * (3 * v * (3 * v * (3 * v)))) + 2 * (3 * v * (3 * v * (3 * v * (3 * v)))))
    ≤ 1000 * (24 * (w * (w * (w * w))) + 12 * (w * (w * (3 * v * (3 * v)))))
low_minus v r w e = rw e (omega arith)

low_plus : (v r w : ℕ) → w ≡ 8 * v + r
    → 16416 * (w * (w * (w * w))) + 1000 * (2 * (3 * v * (3 * v * (3 * v * (3 * v))))) ≤ 1000 * (24 * (w * (w * (w * w))))
low_plus v r w e = rw e (omega arith)

high_plus : (v r w : ℕ) → w ≡ 8 * v + r
    → 1000 * (24 * (w * (w * (w * w))) + 24 * (w * (w * (w * (3 * v)))) + 12 * (w * (w * (3 * v * (3 * v)))) + 4 * (w * (3 * v * (3 * v * (3 * v)))) + 2 * (3 * v * (3 * v * (3 * v * (3 * v)))))
    ≤ 34944 * (w * (w * (w * w)))
high_plus v r w e = rw e (omega arith)

high_minus : (v r w : ℕ) → w ≡ 8 * v + r
    → 1000 * (24 * (w * (w * (w * w))) + 12 * (w * (w * (3 * v * (3 * v)))) + 2 * (3 * v * (3 * v * (3 * v * (3 * v)))))
    ≤ 34944 * (w * (w * (w * w))) + 1000 * (24 * (w * (w * (w * (3 * v)))) + 4 * (w * (3 * v * (3 * v * (3 * v)))))
high_minus v r w e = rw e (omega arith)

abbrev thousandths : ℕ → Fraction
thousandths k = record { p = k; n = 0; over = 1000 }

room : (u v : ℕ) → v * 8 ≤ 3 * u → 3 * u ≡ 8 * v + (3 * u - 8 * v)
room u v l = omega arith

low : (s : Bool) (u v : ℕ) → v * 8 ≤ 3 * u → AtMost (thousandths 684) (lower_at u (pos_side s v) (neg_side s v) 3)
unfolding over top power
low true u v l = omega (arith, fourth (0 + v), low_minus v (3 * u - 8 * v) (3 * u) (room u v l))
low false u v l = omega (arith, fourth (v + 0), low_plus v (3 * u - 8 * v) (3 * u) (room u v l))

high : (s : Bool) (u v : ℕ) → v * 8 ≤ 3 * u → AtMost (upper_at u (pos_side s v) (neg_side s v) 3) (thousandths 1456)
unfolding over top power
high true u v l = omega (arith, fourth (0 + v), high_minus v (3 * u - 8 * v) (3 * u) (room u v l))
high false u v l = omega (arith, fourth (v + 0), high_plus v (3 * u - 8 * v) (3 * u) (room u v l))

-- ---- the result

is_number : (y : Float) (z : Bool) (g : ℕ) → HasValue y z g U → T (not (is_nan y))
unfolding is_nan
is_number nan z g h = absurd h
is_number (inf s) z g h = tt
is_number (fin s m e) z g h = tt

least_value : HasValue least false (units least) U
unfolding U of_bits
least_value = (refl, refl)

most_value : HasValue most false (units most) U
unfolding U of_bits
most_value = (refl, refl)

least_units : units least * 1000 ≤ 683 * U
unfolding U of_bits
least_units = lit≤ tt

most_units : 1457 * U ≤ units most * 1000
unfolding U of_bits
most_units = lit≤ tt

module _ (y : Float) (g : ℕ) where
  between : (z : Bool) → HasValue y z g U
      → 684 * (U * allowed) + neg_side z g * allowed * 1000 ≤ (pos_side z g * allowed + 1 * U) * 1000 + 0 * (U * allowed)
      → pos_side z g * (1000 * allowed) + 0 * allowed * U ≤ (1456 * allowed + 1 * 1000) * U + neg_side z g * (1000 * allowed)
      → Between y
  between true v a b = absurd (none U U_pos a)
    where
      none : (u : ℕ) → 0 < u → 684 * (u * allowed) + g * allowed * 1000 ≤ (0 * allowed + 1 * u) * 1000 + 0 * (u * allowed) → ⊥
      none u h a = omega arith
  between false v a b =
      record {
        number = is_number y false g v;
        from_least = le_of_values least y (units least) U g U U_pos U_pos least_value v (mul-le-mul_right U (go (units least) g U least_units a));
        to_most = le_of_values y most g U (units most) U U_pos U_pos v most_value (mul-le-mul_right U (go' (units most) g U most_units b));
      }
    where
      go : (m g u : ℕ) → m * 1000 ≤ 683 * u → 684 * (u * allowed) + 0 * allowed * 1000 ≤ (g * allowed + 1 * u) * 1000 + 0 * (u * allowed) → m ≤ g
      go m g u l a = omega arith

      go' : (m g u : ℕ) → 1457 * u ≤ m * 1000 → g * (1000 * allowed) + 0 * allowed * u ≤ (1456 * allowed + 1 * 1000) * u + 0 * (1000 * allowed) → g ≤ m
      go' m g u l a = omega arith

ranged : (x y : Float) → units x * 8 ≤ 3 * U → Found 14 size off x y → Between y
ranged x y l q =
    let a = (value x).p in
    let b = (value x).n in
    let some = over_pos U 15 U_pos in
    let e = enclosed x y l q 14 (lit≤ tt) in
    let o = one_value y q.z q.g q.value in
    let above = at_most_trans (thousandths 684) (lower x 14) (raised (value y) 1 allowed) some (at_most_trans (thousandths 684) (lower x 3) (lower x 14) (over_pos U 4 U_pos) (low (sign_of x) U (units x) l) (lower_rises U a b U_pos (half x l) 3 11)) e.near_lower.below in
    let below = at_most_trans (value y) (raised (upper x 14) 1 allowed) (raised (thousandths 1456) 1 allowed) (mul-pos some (lit< tt)) e.near_upper.above (raised_mono (upper x 14) (thousandths 1456) 1 allowed (at_most_trans (upper x 14) (upper x 3) (thousandths 1456) (over_pos U 4 U_pos) (upper_falls U a b U_pos (half x l) 3 11) (high (sign_of x) U (units x) l))) in
    between y q.g q.z q.value (rw (o.0, o.1) at above) (rw (o.0, o.1) at below)

pub exp_range : (x : Float) → T (fits binary64 x) → T (finite x) → units x * 8 ≤ 3 * U → Between (exp_of x)
exp_range x f h l = ranged x (exp_of x) l (found x f h l)

pub exp_range_compared : (x : Float) → T (fits binary64 x) → T (le (abs_of x) three_eighths) → Between (exp_of x)
exp_range_compared x f h = let m = at_most x f h in exp_range x f m.0 m.1
