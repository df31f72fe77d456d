-- The logarithm of the binomial coefficient: of the two terms that are subtracted the larger comes first.
use Rattle.std.specs.Prelude.{ℕ, ◌-◌, Float}
use Rattle.num.specs.F64.{◌⊖◌}
use Rattle.num.specs.Helpers.{max_of, min_of}
use Rattle.factorial.specs.Factorial.{log_factorial_of}

unfoldable pub coefficient_of : ℕ → ℕ → Float
coefficient_of successes total =
    let a = log_factorial_of successes in
    let b = log_factorial_of (total - successes) in
    log_factorial_of total ⊖ max_of a b ⊖ min_of a b
