-- The logarithm of n factorial: lgamma at n + 1.
use Rattle.std.specs.Prelude.{ℕ, Float}
use Rattle.num.specs.F64.{◌⊕◌, whole, one·}
use Rattle.elementary.specs.Lgamma.{lgamma_of}

unfoldable pub log_factorial_of : ℕ → Float
log_factorial_of n = lgamma_of (whole n ⊕ one·)
