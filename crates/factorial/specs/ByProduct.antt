-- The logarithms of the factorials that `lgamma` takes by its product, from 0 to 22, computed: finite.
use Rattle.std.specs.Prelude.{◌≡◌, refl, true, ℕ, ◌≤◌}
use Rattle.std.proofs.Common.{arith}
use Rattle.std.specs.Int.Count.{count_leading_zeros}
use Rattle.std.specs.Float.Ieee.{add, sub, mul, div, neg, lt, le, eq, ne, of_bits, of_int, to_bits}
use Rattle.num.specs.Helpers.{is_finite_of}
use Rattle.num.specs.Every.{every_from, each_passes}
use Rattle.tables.specs.Log.{log_row_of, log_rows}
use Rattle.elementary.specs.Log.{log_of, log_parts}
use Rattle.elementary.specs.Lgamma.{lgamma_of, lgamma_by_product, product_of, product_from}
use Rattle.factorial.specs.Factorial.{log_factorial_of}

computed : every_from (λ n. is_finite_of (log_factorial_of n)) 23 0 ≡ true
unfolding every_from is_finite_of log_factorial_of lgamma_of lgamma_by_product product_of product_from log_of log_parts log_row_of log_rows count_leading_zeros to_bits add sub mul div neg lt le eq ne of_bits of_int
computed = refl

pub by_product_finite : (n : ℕ) → n ≤ 22 → is_finite_of (log_factorial_of n) ≡ true
by_product_finite n h = each_passes (λ m. is_finite_of (log_factorial_of m)) 23 0 n computed (omega arith) (omega arith)
