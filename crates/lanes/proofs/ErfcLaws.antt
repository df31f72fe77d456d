-- The parts of `erfcs_of` together are `erfcs_of`.
use mathlib.Core.Path.{◌≡◌}
use mathlib.Core.Bool.{true}
use mathlib.Core.List.{List}
use Prim.Native.Nat.{ℕ, ◌<◌}
use borrow.Table.Steps.{cases}
use lib.ListN.{get_or}
use lib.Ieee.{Float, nan}
use Rattle.num.specs.Filled.{at_place, same_values}
use Rattle.elementary.specs.Erfc.{erfc_pos_of, erfc_has_row, erfc_place}
use Rattle.lanes.specs.Lanes.{nth, erfcs_of}
use Rattle.lanes.specs.ErfcParts.{erfc_places, erfc_by_row, erfcs_by_row, erfc_chosen, erfcs_chosen}

module _ (x : Float) where
  by_row_is : erfc_has_row x ≡ true → erfc_by_row x (erfc_place x) ≡ erfc_pos_of x
  unfolding erfc_by_row erfc_place erfc_pos_of
  by_row_is h = rw h

  chosen_is : erfc_chosen x (erfc_by_row x (erfc_place x)) ≡ erfc_pos_of x
  unfolding erfc_chosen
  chosen_is = cases (erfc_has_row x) (λ h. rw h (by_row_is h)) (λ h. rw h)

-- ---- at each of sixteen places
module _ (j : ℕ) (l : j < 16) where
  place_at : (x : List Float) → get_or (erfc_places x) j 0 ≡ erfc_place (get_or x j nan)
  unfolding erfc_places
  place_at x = at_place (λ i. erfc_place (get_or x i nan)) j 0 l

  value_at_lem : (x : List Float) (m : List ℕ) → get_or (erfcs_by_row x m) j nan ≡ erfc_by_row (get_or x j nan) (get_or m j 0)
  unfolding erfcs_by_row
  value_at_lem x m = at_place (λ i. erfc_by_row (get_or x i nan) (get_or m i 0)) j nan l

same : (x : List Float) → erfcs_chosen x (erfcs_by_row x (erfc_places x)) ≡ erfcs_of x
unfolding erfcs_chosen erfcs_of
same x =
    same_values
    (λ i. erfc_chosen (get_or x i nan) (get_or (erfcs_by_row x (erfc_places x)) i nan))
    (nth erfc_pos_of x)
    (λ j l. rw (value_at_lem j l x (erfc_places x), place_at j l x) (chosen_is (get_or x j nan)))

pub together : (x : List Float) (m : List ℕ) (v r : List Float) → m ≡ erfc_places x → v ≡ erfcs_by_row x m → r ≡ erfcs_chosen x v → r ≡ erfcs_of x
together x m v r a b c = rw (c, b, a) (same x)
