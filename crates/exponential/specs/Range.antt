-- What is promised of the exponential's size near zero: a number from 0.68 to 1.46.
use Rattle.std.specs.Prelude.{not, T, Float}
use Rattle.std.specs.Float.Ieee.{is_nan, le}
use Rattle.num.specs.F64.{bits}

-- 0.68 and 1.46
abbrev pub least : Float
least = bits 0x3fe5_c28f_5c28_f5c3

abbrev pub most : Float
most = bits 0x3ff7_5c28_f5c2_8f5c

pub record Between (y : Float) : Type 0 where
  pub number : T (not (is_nan y))
  pub from_least : T (le least y)
  pub to_most : T (le y most)
