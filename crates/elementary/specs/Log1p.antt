-- The logarithm of 1 + x, step by step.
use Rattle.std.specs.Prelude.{cond, Float}
use Rattle.std.specs.Float.{nan}
use Rattle.std.specs.Float.Ieee.{neg, lt, eq}
use Rattle.num.specs.F64.{◌⊕◌, ◌⊖◌, ◌⊘◌, bits_of, zero·, one·, infinity·}
use Rattle.elementary.specs.Log.{log_parts, log_bias, least_normal}

-- what the rounding of u = 1 ⊕ x lost: u + lost is 1 + x exactly
abbrev pub lost_of : Float → Float → Float
lost_of x u =
    let a = u ⊖ one· in
    (x ⊖ a) ⊕ (one· ⊖ (u ⊖ a))

-- log's two parts of u, and lost / u. Above -1 u is at least 2^-53; a NaN and plus infinity fail all three tests.
unfoldable pub log1p_of : Float → Float
log1p_of x =
    let u = one· ⊕ x in
    let l = log_parts (bits_of u) log_bias in
    cond (eq x zero·) x
    (cond (lt u least_normal) (cond (eq u zero·) (neg infinity·) nan)
    (cond (lt u infinity·) (l.hi ⊕ (l.lo ⊕ lost_of x u ⊘ u)) x))
