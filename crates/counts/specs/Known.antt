-- What is known of every value that an evaluation gives, whatever the logarithms are: each sum is finite, and written in the one way; and its shape is a number.
use Rattle.std.specs.Prelude.{◌≡◌, true, false, List, T, length, Float}
use Prim.Native.Nat.{ℕ, zero, suc, ◌+◌, ◌≤◌}
use Rattle.std.proofs.Common.{arith}
use Rattle.std.specs.Float.Ieee.{binary64, fits, is_nan}
use Rattle.std.specs.Float.Ieee.Fits.{add-fits}
use Rattle.std.specs.Float.Ieee.Bits.{of_bits-fits}
use Rattle.num.specs.Both.{and_left, and_right}
use Rattle.num.specs.F64.{◌⊖◌, ◌⊗◌}
use Rattle.num.specs.Helpers.{is_finite_of}
use Rattle.order.specs.Numbers.{finite_number}
use Rattle.order.specs.Sums.{add_number_right}
use Rattle.order.specs.Products.{mul_number_right, mul_swap}
use Rattle.elementary.specs.Log.{log_of}
use Rattle.elementary.specs.Exp.{exp_of}
use Rattle.work.specs.Given.{Always, holds, refuses, tested, passed, anything}
use Rattle.planar.specs.declared.Planar.{Planar}
use Rattle.planar.specs.Planar.{no_planar}
use Rattle.exposure.specs.Rows.{count_at, exposure_at}
use Rattle.counts.specs.declared.share.Rising.{Rising}
use Rattle.counts.specs.Share.{no_rising, rise, odds_at_of, row_of}
use Rattle.counts.specs.Rows.{finite_of, rows, evaluate}

record Written (v : Planar) : Type 0 where
  nll : T (fits binary64 v.nll)
  x : T (fits binary64 v.x)
  y : T (fits binary64 v.y)

pub record Known (v : Planar) : Type 0 where
  pub finite : finite_of v ≡ true
  pub nll_fits : T (fits binary64 v.nll)
  pub x_fits : T (fits binary64 v.x)
  pub y_fits : T (fits binary64 v.y)

-- the likelihood and the gradient, of all that is finite
module _ (v : Planar) (h : finite_of v ≡ true) where
  pub nll_finite : is_finite_of v.nll ≡ true
  unfolding finite_of
  nll_finite = and_left (is_finite_of v.nll) _ h

  pub x_finite : is_finite_of v.x ≡ true
  unfolding finite_of
  x_finite = and_left (is_finite_of v.x) _ (and_right (is_finite_of v.nll) _ h)

  pub y_finite : is_finite_of v.y ≡ true
  unfolding finite_of
  y_finite = and_left (is_finite_of v.y) _ (and_right (is_finite_of v.x) _ (and_right (is_finite_of v.nll) _ h))

module _ (shape log-rate : Float) (cs : List ℕ) (es : List Float) where
  rows_known : (n i : ℕ) (v : Planar) → Written v → Always Known (rows shape log-rate cs es n i v)
  unfolding rows row_of
  rows_known zero i v w = tested (finite_of v) (λ t. holds (record { finite = t; nll_fits = w.nll; x_fits = w.x; y_fits = w.y })) (λ t. refuses)
  rows_known (suc n) i v w =
      passed {P = λ s. Unit {0}} (anything (λ s. tt) (rise shape (count_at cs i) 0 no_rising))
      (λ s k. rows_known n (i + 1) (row_of v shape log-rate (count_at cs i) (exposure_at es i) s) (record { nll = add-fits binary64 _ _; x = add-fits binary64 _ _; y = add-fits binary64 _ _ }))

pub evaluate_known : (x y : Float) (cs : List ℕ) (es : List Float) → Always Known (evaluate x y cs es)
unfolding evaluate
evaluate_known x y cs es = rows_known (exp_of x) y cs es (length cs) 0 no_planar (record { nll = of_bits-fits binary64 0; x = of_bits-fits binary64 0; y = of_bits-fits binary64 0 })

-- ---- the gradient's first number is a sum of multiples of the shape
shape_number : (v : Planar) (shape log-rate : Float) (count : ℕ) (exposure : Float) (s : Rising) → is_finite_of (row_of v shape log-rate count exposure s).x ≡ true → is_nan shape ≡ false
unfolding row_of
shape_number v shape log-rate count exposure s h =
    let b = (odds_at_of (log_of exposure ⊖ log-rate)).logq ⊖ s.inverse in
    mul_number_right b shape (rw (mul_swap b shape) (add_number_right v.x (shape ⊗ b) (finite_number _ h)))

module _ (shape log-rate : Float) (cs : List ℕ) (es : List Float) where
  rows_shaped : (n i : ℕ) (v : Planar) → (is_finite_of v.x ≡ true → is_nan shape ≡ false) → Always (λ (w : Planar). is_nan shape ≡ false) (rows shape log-rate cs es n i v)
  unfolding rows
  rows_shaped zero i v k = tested (finite_of v) (λ t. holds (k (x_finite v t))) (λ t. refuses)
  rows_shaped (suc n) i v k =
      passed {P = λ s. Unit {0}} (anything (λ s. tt) (rise shape (count_at cs i) 0 no_rising))
      (λ s u. rows_shaped n (i + 1) (row_of v shape log-rate (count_at cs i) (exposure_at es i) s) (λ f. shape_number v shape log-rate (count_at cs i) (exposure_at es i) s f))

  some_rows : (n : ℕ) → 1 ≤ n → Always (λ (w : Planar). is_nan shape ≡ false) (rows shape log-rate cs es n 0 no_planar)
  unfolding rows
  some_rows zero h = absurd (omega arith)
  some_rows (suc n) h =
      passed {P = λ s. Unit {0}} (anything (λ s. tt) (rise shape (count_at cs 0) 0 no_rising))
      (λ s u. rows_shaped n (0 + 1) (row_of no_planar shape log-rate (count_at cs 0) (exposure_at es 0) s) (λ f. shape_number no_planar shape log-rate (count_at cs 0) (exposure_at es 0) s f))

pub evaluate_shaped : (x y : Float) (cs : List ℕ) (es : List Float) → 1 ≤ length cs → Always (λ (w : Planar). is_nan (exp_of x) ≡ false) (evaluate x y cs es)
unfolding evaluate
evaluate_shaped x y cs es h = some_rows (exp_of x) y cs es (length cs) h
