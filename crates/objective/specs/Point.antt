-- What a point has to satisfy.
use Rattle.std.specs.Prelude.{Bool, ◌&&◌, List, get_or, Float}
use Rattle.std.specs.Float.{nan}
use Rattle.std.specs.Float.Ieee.{le}
use Rattle.num.specs.F64.{bits, zero·, eight·}
use Rattle.num.specs.Helpers.{abs_of, is_finite_of}

-- 9
abbrev pub nine· : Float
nine· = bits 0x4022_0000_0000_0000

unfoldable pub valid_mean_of : Float → Bool
valid_mean_of x = is_finite_of x && le (abs_of x) eight·

unfoldable pub valid_variance_of : Float → Bool
valid_variance_of x = is_finite_of x && (le zero· x && le x nine·)

-- two means within [-8, 8], then two variances within [0, 9]
unfoldable pub valid_point_of : List Float → Bool
valid_point_of x = valid_mean_of (get_or x 0 nan) && (valid_mean_of (get_or x 1 nan) && (valid_variance_of (get_or x 2 nan) && valid_variance_of (get_or x 3 nan)))
