-- What the tests of the square root tell: between zero and infinity x is positive and finite, and bits below those of infinity are no NaN's.
use Rattle.std.specs.Prelude.{◌≡◌, refl, Bool, true, false, not, ℕ, suc, ◌+◌, ◌*◌, ◌%◌, ◌<◌, T, Float, ℤ}
use Rattle.std.proofs.Common.{mul-pos, zero-lt-suc, arith, lt→ltb, ltb-true, lt-ltb, le-ltb}
use Rattle.std.proofs.Math.Arith.{le→nltb}
use Rattle.std.specs.Float.{nan, inf, fin, binary64}
use Rattle.std.specs.Float.Ieee.{up, down, odd, lt, is_nan, of_fields, of_bits, nan_bits}
use Rattle.std.specs.Float.Ieee.Fits.{up_pos}
use Rattle.std.specs.Float.Ieee.Bits.{nan_bits_above}
use Rattle.std.specs.Float.Ieee.Positive.{positive, first_pos}
use Rattle.num.specs.F64.{zero·, infinity·}

-- each test at each kind of finite f64

pub zero_not_above : (s : Bool) (e : ℤ) → lt zero· (fin s 0 e) ≡ false
unfolding lt of_bits of_fields odd
zero_not_above true e = refl
zero_not_above false e = le-ltb (0 * down e) (0 * up e * 1) (omega arith)

pub zero_not_below : (s : Bool) (e : ℤ) → lt (fin s 0 e) zero· ≡ false
unfolding lt of_bits of_fields odd
zero_not_below true e = le-ltb 0 (0 * up e * 1 + 0 * down e) (omega arith)
zero_not_below false e = le-ltb (0 * up e * 1) (0 * down e) (omega arith)

pub minus_not_above : (m : ℕ) (e : ℤ) → lt zero· (fin true m e) ≡ false
unfolding lt of_bits of_fields odd
minus_not_above m e = refl

pub minus_below : (m : ℕ) (e : ℤ) → lt (fin true (suc m) e) zero· ≡ true
unfolding lt of_bits of_fields odd
minus_below m e = lt-ltb 0 (suc m * up e * 1 + 0 * down e) (omega (arith, mul-pos (zero-lt-suc m) (up_pos e)))

pub plus_above : (m : ℕ) (e : ℤ) → lt zero· (fin false (suc m) e) ≡ true
unfolding lt of_bits of_fields odd
plus_above m e = lt-ltb (0 * down e) (suc m * up e * 1) (omega (arith, mul-pos (zero-lt-suc m) (up_pos e)))

pub finite_below : (m : ℕ) (e : ℤ) → lt (fin false m e) infinity· ≡ true
unfolding lt of_bits of_fields
finite_below m e = refl

no : {A : Type 0} → false ≡ true → A
no e = let z : ◌≡◌ {A = ℕ} 0 1 = cc in absurd (omega arith)

pub between : (x : Float) → lt zero· x ≡ true → lt x infinity· ≡ true → T (positive x)
unfolding lt of_bits of_fields odd
between nan h k = no h
between (inf true) h k = no h
between (inf false) h k = no k
between (fin true m e) h k = no h
between (fin false m e) h k = let p : 0 < m * up e = omega (arith, ltb-true (0 * down e) (m * up e * 1) h) in lt→ltb 0 m (first_pos m (up e) p)

pub no_nan : (x : Float) → T (positive x) → T (not (is_nan x))
unfolding is_nan
no_nan nan p = p
no_nan (inf s) p = tt
no_nan (fin s m e) p = tt

pub no_nan_bits : (n : ℕ) → n < 0x7ff0_0000_0000_0000 → T (not (nan_bits binary64 n))
no_nan_bits n h = rw nan_bits_above (le→nltb 0x7ff0_0000_0000_0000 (n % 0x8000_0000_0000_0000) (omega arith))
