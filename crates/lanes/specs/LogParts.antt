-- The parts of `logs_of`, each at sixteen numbers: the places, the rows, the values by row, and which of them are chosen.
use Rattle.std.specs.Prelude.{cond, List, ℕ, get_or, Float}
use Rattle.std.specs.Float.{nan}
use Rattle.std.specs.Float.Ieee.{lt}
use Rattle.num.specs.F64.{infinity·}
use Rattle.num.specs.Values.{values}
use Rattle.tables.specs.declared.log.LogRow.{LogRow}
use Rattle.elementary.specs.Log.{log_of, log_row_at, log_place, log_by_row, least_normal}

unfoldable pub log_places : List Float → List ℕ
log_places x = values (λ i. log_place (get_or x i nan)) 16 0

abbrev pub no_log_row : LogRow
no_log_row = record { centre = nan; inverse = nan; high = nan; low = nan }

unfoldable pub log_rows_for : List ℕ → List LogRow
log_rows_for t = values (λ i. log_row_at (get_or t i 0)) 16 0

unfoldable pub logs_by_row : List ℕ → List LogRow → List Float
logs_by_row t rows = values (λ i. log_by_row (get_or t i 0) (get_or rows i no_log_row)) 16 0

-- v is the value by row, of a normal number
unfoldable pub log_chosen : Float → Float → Float
log_chosen x v = cond (lt x least_normal) (log_of x) (cond (lt x infinity·) v x)

unfoldable pub logs_chosen : List Float → List Float → List Float
logs_chosen x found = values (λ i. log_chosen (get_or x i nan) (get_or found i nan)) 16 0
