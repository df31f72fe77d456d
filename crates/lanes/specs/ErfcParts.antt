-- The parts of `erfcs_of`, each at sixteen numbers: the places, the values by row, and which of them are chosen.
use Rattle.std.specs.Prelude.{cond, List, ℕ, get_or, Float}
use Rattle.std.specs.Float.{nan}
use Rattle.num.specs.Values.{values}
use Rattle.tables.specs.Erfc.{erfc_row_of}
use Rattle.elementary.specs.Erfc.{erfc_at_row, erfc_pos_of, erfc_has_row, erfc_place}

unfoldable pub erfc_places : List Float → List ℕ
erfc_places x = values (λ i. erfc_place (get_or x i nan)) 16 0

unfoldable pub erfc_by_row : Float → ℕ → Float
erfc_by_row x m = erfc_at_row (erfc_row_of m) x

unfoldable pub erfcs_by_row : List Float → List ℕ → List Float
erfcs_by_row x m = values (λ i. erfc_by_row (get_or x i nan) (get_or m i 0)) 16 0

-- v is the value by row
unfoldable pub erfc_chosen : Float → Float → Float
erfc_chosen x v = cond (erfc_has_row x) v (erfc_pos_of x)

unfoldable pub erfcs_chosen : List Float → List Float → List Float
erfcs_chosen x found = values (λ i. erfc_chosen (get_or x i nan) (get_or found i nan)) 16 0
