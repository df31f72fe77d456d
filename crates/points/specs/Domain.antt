-- No request of counts per exposure is known that ends in Domain; the objective at a coordinate that is no number does, with its pass counted.
use Rattle.std.specs.Prelude.{◌≡◌, refl, [], ◌∷◌, Err}
use Rattle.std.specs.Float.{nan}
use Rattle.std.specs.Float.Ieee.{add, sub, mul, div, neg, lt, le, eq, ne, of_bits, to_bits, of_int}
use Rattle.num.specs.Fold.{fold_from}
use Rattle.num.specs.Sum.{sum_from}
use Rattle.num.specs.F64.{zero·, one·}
use Rattle.num.specs.Helpers.{is_finite_of}
use Rattle.work.specs.declared.Refusal.TheVariants.{Domain}
use Rattle.elementary.specs.Exp.{exp_of}
use Rattle.elementary.specs.Log.{log_of, log_parts}
use Rattle.elementary.specs.Log1p.{log1p_of}
use Rattle.elementary.specs.Lgamma.{lgamma_of, lgamma_by_product, product_of, product_from}
use Rattle.tables.specs.Log.{log_row_of, log_rows}
use Rattle.factorial.specs.Factorial.{log_factorial_of}
use Rattle.exposure.specs.Rows.{events_of}
use Rattle.counts.specs.Share.{softplus_of, odds_at_of, row_of, risen_of, with_row_of}
use Rattle.counts.specs.Rows.{finite_of, totals_of}
use Rattle.counts.specs.Objective.{evaluated_of}

pub counts_domain : evaluated_of zero· nan (1 ∷ []) (one· ∷ []) ≡ Err (record { refusal = Domain 6; passes = record { 0 = 1 } })
unfolding evaluated_of finite_of totals_of fold_from with_row_of row_of risen_of odds_at_of softplus_of events_of sum_from is_finite_of exp_of log_of log1p_of log_parts log_row_of log_rows log_factorial_of lgamma_of lgamma_by_product product_of product_from add sub mul div neg lt le eq ne of_bits to_bits of_int
counts_domain = refl
