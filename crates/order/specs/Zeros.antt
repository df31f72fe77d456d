-- The two zeros beside other f64: what adding one, or taking the larger of one, leaves as it was. Equal here is the same datum, the sign of a zero included.
use Rattle.std.specs.Prelude.{◌≡◌, refl, Bool, true, false, ℕ, zero, suc, ◌*◌, ◌/◌, ◌^◌, ◌<◌, ℤ, pos, T, eqb, Float}
use Rattle.std.proofs.Common.{sym, ap, ◌∙◌, mul_right_comm, mul-pos, zero-lt-suc, arith, eqb-true}
use Rattle.std.proofs.lemmas.Bool.{false≢true}
use borrow.Table.Steps.{cases}
use Rattle.std.specs.Float.{nan, inf, fin, binary64}
use Rattle.std.specs.Float.Ieee.{up, down, low, neg, add, sub, lt, le, eq, is_nan, fits, to_bits, of_bits}
use Rattle.std.specs.Float.Ieee.Fits.{up_pos, down_pos, neg-fits, add-fits, mul-fits}
use Rattle.std.specs.Float.Ieee.Nearest.{div_same}
use Rattle.std.specs.Float.Ieee.Bits.{of_bits-to_bits, of_bits-fits}
use Rattle.num.specs.Both.{and_left, and_right}
use Rattle.num.specs.F64.{◌⊕◌, ◌⊖◌, ◌⊗◌, zero·}
use Rattle.num.specs.Helpers.{abs_of, max_of, clamp_of, is_finite_of}
use Rattle.order.specs.Numbers.{finite_number, zero_finite}
use Rattle.order.specs.Order.{le_both, le_not_lt, not_lt}
use Rattle.order.specs.Rounding.{rounds_own}
use Rattle.order.specs.Sums.{add_rounds, add_swap, add-zero}
use Rattle.order.specs.Products.{mul_rounds}

-- ---- two f64 of one sign and one size are one datum
module _ (s : Bool) (m n : ℕ) (e d : ℤ) (same : m * up e * down d ≡ n * up d * down e) where
  in_units : m * up e * 2 ^ low binary64 / down e ≡ n * up d * 2 ^ low binary64 / down d
  in_units =
      div_same (m * up e * 2 ^ low binary64) (down e) (n * up d * 2 ^ low binary64) (down d) (down_pos e) (down_pos d)
      (mul_right_comm (m * up e) (2 ^ low binary64) (down d) ∙ ap (λ x. x * 2 ^ low binary64) same ∙ mul_right_comm (n * up d) (down e) (2 ^ low binary64))

  same_bits : to_bits binary64 (fin s m e) ≡ to_bits binary64 (fin s n d)
  unfolding to_bits
  same_bits = rw in_units

  pub one_number : T (fits binary64 (fin s m e)) → T (fits binary64 (fin s n d)) → fin s m e ≡ fin s n d
  one_number h k = sym (of_bits-to_bits binary64 (fin s m e) h) ∙ ap (λ b. of_bits binary64 b) same_bits ∙ of_bits-to_bits binary64 (fin s n d) k

a_zero : (s : Bool) (e : ℤ) → T (fits binary64 (fin s 0 e)) → fin s 0 e ≡ fin s 0 (pos 0)
unfolding fits
a_zero s e h = one_number s 0 0 e (pos 0) (omega arith) h tt

some_size : (m : ℕ) (e d : ℤ) → 0 < suc m * up e * down d
some_size m e d = mul-pos (mul-pos (zero-lt-suc m) (up_pos e)) (down_pos d)

-- equal to an f64 that is no zero
same_number : (x : Float) (s : Bool) (m : ℕ) (e : ℤ) → T (fits binary64 x) → T (fits binary64 (fin s (suc m) e)) → eq x (fin s (suc m) e) ≡ true → x ≡ fin s (suc m) e
unfolding eq
same_number nan s m e f g h = cc
same_number (inf t) s m e f g h = cc
same_number (fin true n d) true m e f g h = one_number true n (suc m) d e (eqb-true _ _ (and_left _ _ h)) f g
same_number (fin false n d) false m e f g h = one_number false n (suc m) d e (eqb-true _ _ (and_left _ _ h)) f g
same_number (fin true n d) false m e f g h =
    absurd (omega (arith, some_size m e d, eqb-true (n * up d * down e) _ (and_left _ _ h), eqb-true (n * up d * down e) 0 (and_right (eqb (n * up d * down e) (suc m * up e * down d)) _ h)))
same_number (fin false n d) true m e f g h =
    absurd (omega (arith, some_size m e d, eqb-true (n * up d * down e) _ (and_left _ _ h), eqb-true (n * up d * down e) 0 (and_right (eqb (n * up d * down e) (suc m * up e * down d)) _ h)))

-- ---- sums
plus_zero : (s : Bool) (m : ℕ) (e : ℤ) → T (fits binary64 (fin s (suc m) e)) → fin s (suc m) e ⊕ zero· ≡ fin s (suc m) e
plus_zero s m e f = same_number _ s m e (add-fits binary64 _ _) f (add-zero (fin s (suc m) e) (unfold is_finite_of in refl) f)

zero_plus : (s : Bool) (m : ℕ) (e : ℤ) → T (fits binary64 (fin s (suc m) e)) → zero· ⊕ fin s (suc m) e ≡ fin s (suc m) e
zero_plus s m e f = add_swap zero· (fin s (suc m) e) ∙ plus_zero s m e f

add_minus_zero : (a : Float) → is_finite_of a ≡ true → T (fits binary64 a) → eq (a ⊕ neg zero·) a ≡ true
unfolding of_bits neg is_finite_of
add_minus_zero a i f = rounds_own a i f (add_rounds a (neg zero·) i refl) (omega arith)

minus_zero_plus : (s : Bool) (m : ℕ) (e : ℤ) → T (fits binary64 (fin s (suc m) e)) → neg zero· ⊕ fin s (suc m) e ≡ fin s (suc m) e
minus_zero_plus s m e f =
    add_swap (neg zero·) (fin s (suc m) e) ∙ same_number _ s m e (add-fits binary64 _ _) f (add_minus_zero (fin s (suc m) e) (unfold is_finite_of in refl) f)

steady_nan : (zero· ⊕ nan) ⊕ zero· ≡ zero· ⊕ nan
unfolding add of_bits
steady_nan = refl

steady_inf : (s : Bool) → (zero· ⊕ inf s) ⊕ zero· ≡ zero· ⊕ inf s
unfolding add of_bits
steady_inf s = refl

steady_zero : (s : Bool) → (zero· ⊕ fin s 0 (pos 0)) ⊕ zero· ≡ zero· ⊕ fin s 0 (pos 0)
unfolding add of_bits
steady_zero true = refl
steady_zero false = refl

-- a sum that began at +0 is left by another
pub steady : (a : Float) → T (fits binary64 a) → (zero· ⊕ a) ⊕ zero· ≡ zero· ⊕ a
steady nan f = steady_nan
steady (inf s) f = steady_inf s
steady (fin s zero e) f = rw (a_zero s e f) (steady_zero s)
steady (fin s (suc m) e) f = rw (zero_plus s m e f) (plus_zero s m e f)

-- the sign of a sum does not depend on whether it began at +0
le_nan : (b : Float) → le zero· ((zero· ⊕ nan) ⊕ b) ≡ le zero· (nan ⊕ b)
unfolding add of_bits
le_nan b = refl

le_inf : (s : Bool) (b : Float) → le zero· ((zero· ⊕ inf s) ⊕ b) ≡ le zero· (inf s ⊕ b)
unfolding add of_bits
le_inf s b = refl

from_plus : zero· ⊕ fin false 0 (pos 0) ≡ fin false 0 (pos 0)
unfolding add of_bits
from_plus = refl

le_plus : (b : Float) → le zero· ((zero· ⊕ fin false 0 (pos 0)) ⊕ b) ≡ le zero· (fin false 0 (pos 0) ⊕ b)
le_plus b = ap (λ x. le zero· (x ⊕ b)) from_plus

from_minus : zero· ⊕ fin true 0 (pos 0) ≡ zero·
unfolding add of_bits
from_minus = refl

minus_is : fin true 0 (pos 0) ≡ neg zero·
unfolding neg of_bits
minus_is = refl

le_minus_nan : le zero· (zero· ⊕ nan) ≡ le zero· (neg zero· ⊕ nan)
unfolding add neg of_bits
le_minus_nan = refl

le_minus_inf : (s : Bool) → le zero· (zero· ⊕ inf s) ≡ le zero· (neg zero· ⊕ inf s)
unfolding add neg of_bits
le_minus_inf s = refl

le_minus_zero : (s : Bool) → le zero· (zero· ⊕ fin s 0 (pos 0)) ≡ le zero· (neg zero· ⊕ fin s 0 (pos 0))
unfolding add neg of_bits le
le_minus_zero true = refl
le_minus_zero false = refl

le_minus : (b : Float) → T (fits binary64 b) → le zero· (zero· ⊕ b) ≡ le zero· (neg zero· ⊕ b)
le_minus nan f = le_minus_nan
le_minus (inf s) f = le_minus_inf s
le_minus (fin s zero e) f = rw (a_zero s e f) (le_minus_zero s)
le_minus (fin s (suc m) e) f = rw (zero_plus s m e f, minus_zero_plus s m e f)

pub begun_at_zero : (a b : Float) → T (fits binary64 a) → T (fits binary64 b) → le zero· ((zero· ⊕ a) ⊕ b) ≡ le zero· (a ⊕ b)
begun_at_zero nan b f g = le_nan b
begun_at_zero (inf s) b f g = le_inf s b
begun_at_zero (fin false zero e) b f g = rw (a_zero false e f) (le_plus b)
begun_at_zero (fin true zero e) b f g = rw (a_zero true e f, from_minus, minus_is) (le_minus b g)
begun_at_zero (fin s (suc m) e) b f g = rw (zero_plus s m e f)

-- ---- magnitudes, and the larger of one and +0
not_above : (s : Bool) → le (fin s 0 (pos 0)) zero· ≡ true
unfolding le of_bits
not_above true = refl
not_above false = refl

nan_plus : nan ⊕ zero· ≡ nan
unfolding add
nan_plus = refl

inf_plus : (s : Bool) → inf s ⊕ zero· ≡ inf s
unfolding add of_bits
inf_plus s = refl

steady_number : (x : Float) → T (fits binary64 x) → le x zero· ≡ false → x ⊕ zero· ≡ x
steady_number nan f h = nan_plus
steady_number (inf s) f h = inf_plus s
steady_number (fin s zero e) f h = cc (rw (a_zero s e f) at h, not_above s)
steady_number (fin s (suc m) e) f h = plus_zero s m e f

pub abs_steady : (x : Float) → T (fits binary64 x) → abs_of x ⊕ zero· ≡ abs_of x
unfolding abs_of sub
abs_steady x f = cases (le x zero·) (λ t. rw t (steady (neg x) (neg-fits binary64 x f))) (λ t. rw t (steady_number x f t))

pub zero_less_zero : zero· ⊖ zero· ≡ zero·
unfolding sub add neg of_bits
zero_less_zero = refl

pub zero_is : eq zero· zero· ≡ true
unfolding eq of_bits
zero_is = refl

module _ (y : Float) (n : is_nan y ≡ false) (h : le zero· y ≡ true) (s : y ⊕ zero· ≡ y) where
  pub zero_max : max_of zero· y ≡ y
  unfolding max_of
  zero_max =
      cases (lt zero· y) (λ t. rw t)
      (λ t. rw (t, le_not_lt zero· y h, le_both zero· y h (not_lt zero· y (finite_number zero· zero_finite) n t), zero_is) (add_swap zero· y ∙ s))

  pub max_zero : max_of y zero· ≡ y
  unfolding max_of
  max_zero =
      cases (lt zero· y) (λ t. rw (le_not_lt zero· y h, t))
      (λ t.
      let e = le_both y zero· (not_lt zero· y (finite_number zero· zero_finite) n t) h in
      rw (le_not_lt zero· y h, t, e) s)

-- ---- a finite number times a zero, added to +0 and held between +0 and +0
data Zero : Float → Type 0 where
  plus : Zero zero·
  minus : Zero (neg zero·)

kind_of_lem : (s : Bool) → Zero (fin s 0 (pos 0))
unfolding neg of_bits
kind_of_lem true = minus
kind_of_lem false = plus

zero_kind : (z : Float) → T (fits binary64 z) → eq z zero· ≡ true → Zero z
unfolding eq of_bits
zero_kind nan f h = absurd (false≢true h)
zero_kind (inf s) f h = absurd (false≢true h)
zero_kind (fin s zero e) f h = rw (a_zero s e f) (kind_of_lem s)
zero_kind (fin s (suc m) e) f h = absurd (omega (arith, some_size m e (pos 0), eqb-true (suc m * up e * down (pos 0)) _ (and_left _ _ h)))

times_zero : (a : Float) → is_finite_of a ≡ true → eq (a ⊗ zero·) zero· ≡ true
unfolding of_bits is_finite_of
times_zero a i = rounds_own zero· refl (of_bits-fits binary64 0) (mul_rounds a zero· i refl) (omega arith)

times_minus_zero : (a : Float) → is_finite_of a ≡ true → eq (a ⊗ neg zero·) zero· ≡ true
unfolding of_bits is_finite_of neg
times_minus_zero a i = rounds_own zero· refl (of_bits-fits binary64 0) (mul_rounds a (neg zero·) i refl) (omega arith)

held_zero : {z : Float} → Zero z → clamp_of (zero· ⊕ z) zero· zero· ≡ zero·
unfolding clamp_of add neg of_bits lt
held_zero plus = refl
held_zero minus = refl

pub held_plus : (a : Float) → is_finite_of a ≡ true → clamp_of (zero· ⊕ a ⊗ zero·) zero· zero· ≡ zero·
held_plus a i = held_zero (zero_kind _ (mul-fits binary64 a zero·) (times_zero a i))

pub held_minus : (a : Float) → is_finite_of a ≡ true → clamp_of (zero· ⊕ a ⊗ neg zero·) zero· zero· ≡ zero·
held_minus a i = held_zero (zero_kind _ (mul-fits binary64 a (neg zero·)) (times_minus_zero a i))
