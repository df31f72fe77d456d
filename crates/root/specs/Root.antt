-- What the square root of an f64 has to be, by squares of whole numbers. The steps that find it are in `Steps`.
use Rattle.std.specs.Prelude.{◌≡◌, Bool, true, false, not, cond, ℕ, zero, suc, ◌+◌, ◌*◌, ◌/◌, ◌^◌, ◌<◌, T, Float}
use Rattle.std.specs.Float.{nan, inf, fin, binary64}
use Rattle.std.specs.Float.Ieee.{fits, up, down}

-- Every finite f64 is a whole number of units of 2^-1074, the smallest.
abbrev pub units : Float → ℕ
units nan = 0
units (inf s) = 0
units (fin s m e) = m * up e * 2 ^ 1074 / down e

-- finite, with no minus sign
abbrev pub plus : Float → Bool
plus nan = false
plus (inf s) = false
plus (fin s m e) = not s

abbrev pub square : ℕ → ℕ
square n = n * n

-- r is the f64 nearest the exact root of x: for every other f64 y the root lies on r's side of the middle of y and r. The middle is half of
-- units y + units r, and the root's square is units x · 2^1074, so four times that is compared with the square of the sum.
-- Both comparisons are strict: no root lies in the middle of two f64, and there is no tie to break.
pub record Nearest (x r : Float) : Type 0 where
  pub an_f64 : T (fits binary64 r)
  pub not_minus : T (plus r)
  pub above_lower : (y : Float) → T (fits binary64 y) → T (plus y) → units y < units r → square (units y + units r) < 4 * (units x * 2 ^ 1074)
  pub below_higher : (y : Float) → T (fits binary64 y) → T (plus y) → units r < units y → 4 * (units x * 2 ^ 1074) < square (units y + units r)

-- r is the root of x: a zero keeps its sign, a NaN and what is below zero give NaN, plus infinity stays.
abbrev pub IsRoot : Float → Float → Type 0
IsRoot nan r = r ≡ nan
IsRoot (inf s) r = r ≡ cond s nan (inf false)
IsRoot (fin s zero e) r = r ≡ fin s zero e
IsRoot (fin true (suc m) e) r = r ≡ nan
IsRoot (fin false (suc m) e) r = Nearest (fin false (suc m) e) r
