-- What is promised of the exponential near zero: two fractions of whole numbers that hold the exact value between them, and how near to both the result lies.
use Rattle.std.specs.Prelude.{ℕ, suc, ◌+◌, ◌^◌, Float}
use Rattle.root.specs.Root.{units}
use Rattle.rounding.specs.Units.{U, sign_of, pos_side, neg_side}
use Rattle.series.specs.Fraction.{Fraction, AtMost, Within, less, twice}
use Rattle.series.specs.Exponential.{sum_at, lower_at, upper_at}

-- a finite f64 as a fraction
abbrev pub value : Float → Fraction
value x = record { p = pos_side (sign_of x) (units x); n = neg_side (sign_of x) (units x); over = U }

-- the power series at x to x^n / n!, and what lies 2 |x|^(n + 1) / (n + 1)! below and above it
abbrev pub sum : Float → ℕ → Fraction
sum x n = sum_at U (value x).p (value x).n n

abbrev pub lower : Float → ℕ → Fraction
lower x n = lower_at U (value x).p (value x).n n

abbrev pub upper : Float → ℕ → Fraction
upper x n = upper_at U (value x).p (value x).n n

-- Every later sum lies between the two fractions and each step halves their distance, so that the exact exponential of x lies between them; and y is within
-- 2^-48 of both.
abbrev pub allowed : ℕ
allowed = 2 ^ 48

pub record Enclosed (x y : Float) (n : ℕ) : Type 0 where
  pub above_lower : (d : ℕ) → AtMost (lower x n) (sum x (n + d))
  pub below_upper : (d : ℕ) → AtMost (sum x (n + d)) (upper x n)
  pub closing : AtMost (twice (less (upper x (suc n)) (lower x (suc n)))) (less (upper x n) (lower x n))
  pub near_lower : Within (value y) (lower x n) 1 allowed
  pub near_upper : Within (value y) (upper x n) 1 allowed
