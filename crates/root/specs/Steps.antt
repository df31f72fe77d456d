-- The steps of the square root: one binary digit of the result a step, as with a pencil.
use Rattle.std.specs.Prelude.{cond, ℕ, zero, suc, ◌+◌, ◌-◌, ◌*◌, ◌/◌, ◌%◌, ◌^◌, leb, eqb, Float}
use Rattle.std.specs.Int.Count.{count_leading_zeros}
use Rattle.std.specs.Float.{nan}
use Rattle.std.specs.Float.Ieee.{lt}
use Rattle.num.specs.F64.{bits, bits_of, zero·, infinity·}
use Rattle.root.specs.declared.pencil.Row.{Row}

abbrev pub start_of : ℕ → Row
start_of m = record { coming = m; down = 0; brought = 0; trial = 0; digit = 0; rest = 0; root = 0 }

-- Bring down the next two digits of the number behind the rest. Where four times the root so far and one more goes into that, the root's next
-- digit is 1 and that much is taken away; else it is 0. `coming` holds the digits still to bring down, 54 of them, the next two on top.
abbrev pub step_of : Row → Row
step_of row =
    let down = row.coming / 2 ^ 52 in
    let brought = 4 * row.rest + down in
    let trial = 4 * row.root + 1 in
    let goes = leb trial brought in
    let digit = cond {A = ℕ} goes 1 0 in
    let taken = cond goes trial 0 in
    record { coming = row.coming % 2 ^ 52 * 4; down = down; brought = brought; trial = trial; digit = digit; rest = brought - taken; root = 2 * row.root + digit }

-- The row after so many steps.
unfoldable pub pencil_from : ℕ → Row → Row
pencil_from zero row = row
pencil_from (suc k) row = step_of (pencil_from k row)

-- The 54 digits of the root of m · 2^54, rounded down.
unfoldable pub pencil_of : ℕ → ℕ
pencil_of m = (pencil_from 54 (start_of m)).root

-- Bits b of a positive finite f64 as digits · 2^(power - 2098), the digits from 2^52 up and below 2^53, the power the exponent's field and 1023.
-- A subnormal's field stands for the same exponent as a 1; its digits are brought up by their leading zeros, each place for one off the field.
abbrev pub digits : ℕ → ℕ
digits b = cond (eqb (b / 2 ^ 52) 0) (b * 2 ^ (count_leading_zeros 64 b - 11)) (2 ^ 52 + b % 2 ^ 52)

abbrev pub power : ℕ → ℕ
power b = cond (eqb (b / 2 ^ 52) 0) (1024 - (count_leading_zeros 64 b - 11)) (b / 2 ^ 52 + 1023)

-- What stands under the root sign: an odd power leaves a factor 2 to the digits.
abbrev pub radicand_of : ℕ → ℕ → ℕ
radicand_of m p = cond (eqb (p % 2) 1) (2 * m) m

-- The last digit is dropped; where it is 1, the others go up by one.
abbrev pub rounded_of : ℕ → ℕ
rounded_of root = root / 2 + root % 2

-- The exponent's field, then the digits without the first.
abbrev pub packed_of : ℕ → ℕ → ℕ
packed_of field m = field * 2 ^ 52 + m % 2 ^ 52

-- The root's digits with one more than the 53 of an f64, rounded to those, under half the power.
abbrev pub root_bits_of : ℕ → ℕ → ℕ
root_bits_of m p = packed_of (p / 2) (rounded_of (pencil_of (radicand_of m p)))

unfoldable pub sqrt_of : Float → Float
sqrt_of x = cond (lt zero· x) (cond (lt x infinity·) (bits (root_bits_of (digits (bits_of x)) (power (bits_of x)))) x) (cond (lt x zero·) nan x)
