-- The logarithms of the factorials from 0 to 1000, computed: +0 at 0 and 1, then finite and above zero. In parts, as antt computes only so much in one statement.
use Rattle.std.specs.Prelude.{◌≡◌, refl, Bool, true, ◌&&◌, ℕ, zero, suc, T}
use Rattle.std.specs.Int.Count.{count_leading_zeros}
use Rattle.std.specs.Float.Ieee.{add, sub, mul, div, neg, lt, le, eq, ne, of_bits, of_int, to_bits}
use Rattle.std.specs.Float.Ieee.Positive.{positive}
use Rattle.num.specs.F64.{zero·}
use Rattle.tables.specs.Log.{log_row_of, log_rows}
use Rattle.elementary.specs.Log.{log_of, log_parts}
use Rattle.elementary.specs.Lgamma.{lgamma_of, lgamma_by_product, product_of, product_from}
use Rattle.factorial.specs.Factorial.{log_factorial_of}

-- n of them from k on are finite and above zero
unfoldable pub above : ℕ → ℕ → Bool
above k zero = true
above k (suc n) = positive (log_factorial_of k) && above (suc k) n

pub at_0 : log_factorial_of 0 ≡ zero·
unfolding log_factorial_of lgamma_of lgamma_by_product product_of product_from log_of log_parts log_row_of log_rows count_leading_zeros to_bits add sub mul div neg lt le eq ne of_bits of_int
at_0 = refl

pub at_1 : log_factorial_of 1 ≡ zero·
unfolding log_factorial_of lgamma_of lgamma_by_product product_of product_from log_of log_parts log_row_of log_rows count_leading_zeros to_bits add sub mul div neg lt le eq ne of_bits of_int
at_1 = refl

pub from_2 : T (above 2 111)
unfolding above log_factorial_of lgamma_of lgamma_by_product product_of product_from log_of log_parts log_row_of log_rows count_leading_zeros to_bits add sub mul div neg lt le eq ne of_bits of_int
from_2 = tt

pub from_113 : T (above 113 111)
unfolding above log_factorial_of lgamma_of lgamma_by_product product_of product_from log_of log_parts log_row_of log_rows count_leading_zeros to_bits add sub mul div neg lt le eq ne of_bits of_int
from_113 = tt

pub from_224 : T (above 224 111)
unfolding above log_factorial_of lgamma_of lgamma_by_product product_of product_from log_of log_parts log_row_of log_rows count_leading_zeros to_bits add sub mul div neg lt le eq ne of_bits of_int
from_224 = tt

pub from_335 : T (above 335 111)
unfolding above log_factorial_of lgamma_of lgamma_by_product product_of product_from log_of log_parts log_row_of log_rows count_leading_zeros to_bits add sub mul div neg lt le eq ne of_bits of_int
from_335 = tt

pub from_446 : T (above 446 111)
unfolding above log_factorial_of lgamma_of lgamma_by_product product_of product_from log_of log_parts log_row_of log_rows count_leading_zeros to_bits add sub mul div neg lt le eq ne of_bits of_int
from_446 = tt

pub from_557 : T (above 557 111)
unfolding above log_factorial_of lgamma_of lgamma_by_product product_of product_from log_of log_parts log_row_of log_rows count_leading_zeros to_bits add sub mul div neg lt le eq ne of_bits of_int
from_557 = tt

pub from_668 : T (above 668 111)
unfolding above log_factorial_of lgamma_of lgamma_by_product product_of product_from log_of log_parts log_row_of log_rows count_leading_zeros to_bits add sub mul div neg lt le eq ne of_bits of_int
from_668 = tt

pub from_779 : T (above 779 111)
unfolding above log_factorial_of lgamma_of lgamma_by_product product_of product_from log_of log_parts log_row_of log_rows count_leading_zeros to_bits add sub mul div neg lt le eq ne of_bits of_int
from_779 = tt

pub from_890 : T (above 890 111)
unfolding above log_factorial_of lgamma_of lgamma_by_product product_of product_from log_of log_parts log_row_of log_rows count_leading_zeros to_bits add sub mul div neg lt le eq ne of_bits of_int
from_890 = tt
