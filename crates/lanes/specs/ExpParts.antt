-- The parts of `exps_of`, each at sixteen numbers: the places, the rows, the values by row, and which of them are chosen.
use Rattle.std.specs.Prelude.{cond, List, ℕ, ◌/◌, ◌%◌, ltb, get_or, Float}
use Rattle.std.specs.Float.{nan}
use Rattle.std.specs.Float.Ieee.{neg, lt}
use Rattle.num.specs.Values.{values}
use Rattle.tables.specs.declared.exp.ExpRow.{ExpRow}
use Rattle.tables.specs.Exp.{exp_row_of}
use Rattle.elementary.specs.Exp.{exp_of, exp_small, exp_place, exp_by_row, three_eighths}

abbrev pub no_exp_row : ExpRow
no_exp_row = record { value = nan; rest = nan }

unfoldable pub exp_places : List Float → List ℕ
exp_places x = values (λ i. exp_place (get_or x i nan)) 16 0

unfoldable pub exp_rows_for : List ℕ → List ExpRow
exp_rows_for m = values (λ i. exp_row_of (get_or m i 0 % 64)) 16 0

unfoldable pub exps_by_row : List Float → List ℕ → List ExpRow → List Float
exps_by_row x m rows = values (λ i. exp_by_row (get_or x i nan) (get_or m i 0) (get_or rows i no_exp_row)) 16 0

-- the first and the last e at which `exp_finish` does not go to `exp_far`
abbrev pub first_e : ℕ
first_e = 1100

abbrev pub last_e : ℕ
last_e = 3070

-- farther than 3/8 from zero; v is the value by row
unfoldable pub exp_outside : Float → ℕ → Float → Float
exp_outside x m v = let e = m / 64 in cond (ltb e first_e) (exp_of x) (cond (ltb last_e e) (exp_of x) v)

unfoldable pub exp_chosen : Float → ℕ → Float → Float
exp_chosen x m v = cond (lt x (neg three_eighths)) (exp_outside x m v) (cond (lt three_eighths x) (exp_outside x m v) (exp_small x))

unfoldable pub exps_chosen : List Float → List ℕ → List Float → List Float
exps_chosen x m found = values (λ i. exp_chosen (get_or x i nan) (get_or m i 0) (get_or found i nan)) 16 0
