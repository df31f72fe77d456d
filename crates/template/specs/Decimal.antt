-- Reading an f64: a decimal, or else sixteen hexadecimal digits. A decimal is a minus or none, digits, a point, digits: at least one on each side and at most
-- seventeen in all. What follows the most that can be its digits is left: a template departs there, since none goes on with a digit.
use Rattle.std.specs.Prelude.{Bool, true, false, cond, List, ℕ, zero, suc, ◌+◌, ◌-◌, ◌*◌, ◌^◌, eqb}
use Rattle.std.specs.Float.{binary64}
use Rattle.std.specs.Float.Ieee.{round}
use Rattle.num.specs.F64.{bits_of}
use Rattle.template.specs.Template.{first, after}
use Rattle.template.specs.Field.{is_digit_of, Field, found, departs, read_hex}

-- a run of digits: the number so far with them, how many, and what is left
pub data Run : Type 0 where
  run : ℕ → ℕ → List ℕ → Run

-- at most k digits more, v and n so far
unfoldable pub read_run : ℕ → ℕ → ℕ → List ℕ → Run
read_run zero v n s = run v n s
read_run (suc k) v n s = cond (is_digit_of (first s)) (read_run k (10 * v + (first s - 48)) (n + 1) (after s)) (run v n s)

-- the bits of the f64 nearest digits / 10^places
unfoldable pub decimal_bits : Bool → ℕ → ℕ → ℕ
decimal_bits minus digits places = bits_of (round binary64 minus digits (10 ^ places))

-- behind the point
abbrev pub read_places : Bool → Run → Field
read_places minus (run v k t) = cond (eqb k 0) departs (found (decimal_bits minus v k) t)

-- at the point, before which v stands in a digits
abbrev pub read_point : Bool → Run → Field
read_point minus (run v a t) = cond (eqb a 0) departs (cond (eqb (first t) 46) (read_places minus (read_run (17 - a) v 0 (after t))) departs)

unfoldable pub read_unsigned : Bool → List ℕ → Field
read_unsigned minus s = read_point minus (read_run 16 0 0 s)

unfoldable pub read_decimal : List ℕ → Field
read_decimal s = cond (eqb (first s) 45) (read_unsigned true (after s)) (read_unsigned false s)

abbrev pub or_else : Field → Field → Field
or_else (found v t) g = found v t
or_else departs g = g

unfoldable pub read_value : List ℕ → Field
read_value s = or_else (read_decimal s) (read_hex 16 0 s)
