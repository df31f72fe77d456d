-- What a test says of a float's kind: laws for `to_bits`, which asks for no NaN, and `from_bits`, which asks for no NaN's bits.
use Rattle.std.specs.Prelude.{◌≡◌, true, false, not, ℕ, suc, ◌+◌, ◌*◌, ◌%◌, ◌^◌, ◌≤◌, ◌<◌, T, Float, ℤ}
use Rattle.std.proofs.Common.{sym, subst, ◌∙◌, arith, mul-pos, zero-lt-suc, le-ltb, lt-ltb, lit<}
use Rattle.std.specs.Float.{nan, inf, fin, binary64}
use Rattle.std.specs.Float.Ieee.{neg, lt, is_nan, nan_bits, fits, to_bits, of_bits, up, down}
use Rattle.std.specs.Float.Ieee.Fits.{neg-fits, up_pos, down_pos}
use Rattle.std.specs.Float.Ieee.Bits.{nan_bits_above, to_bits-lt}
use Rattle.num.specs.F64.{bits_of}

-- a number that is below another, or above, is no NaN
pub below_number : (x y : Float) → lt x y ≡ true → T (not (is_nan x))
unfolding lt is_nan
below_number nan y h = absurd (subst T (sym h) tt)
below_number (inf s) y h = tt
below_number (fin s m e) y h = tt

pub above_number : (x y : Float) → lt x y ≡ true → T (not (is_nan y))
unfolding lt is_nan
above_number nan y h = absurd (subst T (sym h) tt)
above_number (inf s) nan h = absurd (subst T (sym h) tt)
above_number (inf s) (inf t) h = tt
above_number (inf s) (fin t n d) h = tt
above_number (fin s m e) nan h = absurd (subst T (sym h) tt)
above_number (fin s m e) (inf t) h = tt
above_number (fin s m e) (fin t n d) h = tt

-- bits up to plus infinity's are a number's
pub number_bits : (n : ℕ) → n ≤ 0x7ff0_0000_0000_0000 → T (not (nan_bits binary64 n))
number_bits n h = let m : n % 2 ^ 63 ≤ 0x7ff0_0000_0000_0000 = omega arith in rw (nan_bits_above binary64 n, le-ltb (0x7ff0_0000_0000_0000) (n % 2 ^ 63) m) tt

-- the bits of a number that is not below one above zero have no sign's bit
pub plus_bits : (m : ℕ) (e : ℤ) → T (fits binary64 (fin false m e)) → bits_of (fin false m e) < 2 ^ 63
unfolding to_bits neg
plus_bits m e f = let l = to_bits-lt binary64 (fin true m e) (neg-fits binary64 (fin false m e) f) in omega (arith, l)

pub not_below_bits : (x : Float) (n : ℕ) (d : ℤ) → T (fits binary64 x) → lt x (fin false (suc n) d) ≡ false → bits_of x < 2 ^ 63
unfolding lt to_bits of_bits
not_below_bits nan n d f h = lit< tt
not_below_bits (inf true) n d f h = absurd (subst T h tt)
not_below_bits (inf false) n d f h = lit< tt
not_below_bits (fin true m e) n d f h =
    let p : 0 < suc n * up d * down e = mul-pos (mul-pos (zero-lt-suc n) (up_pos d)) (down_pos e) in
    let q : 0 < m * up e * down d + suc n * up d * down e = omega arith in
    absurd (subst T (sym (lt-ltb 0 _ q) ∙ h) tt)
not_below_bits (fin false m e) n d f h = plus_bits m e f
