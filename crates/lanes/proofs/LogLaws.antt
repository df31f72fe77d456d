-- The parts of `logs_of` together are `logs_of`.
use mathlib.Core.Path.{◌≡◌, refl, sym, ap, ◌∙◌}
use mathlib.Core.Bool.{true, false}
use mathlib.Core.List.{List}
use Prim.Native.Nat.{ℕ, ◌+◌, ◌<◌}
use borrow.Table.Steps.{cases}
use lib.ListN.{get_or}
use lib.Ieee.{Float, nan, lt}
use Rattle.num.specs.F64.{infinity·, bits_of}
use Rattle.num.specs.Filled.{at_place, same_values}
use Rattle.tables.specs.declared.log.LogRow.{LogRow}
use Rattle.elementary.specs.Log.{log_of, log_parts, log_sum, log_row_at, log_place, log_by_row, log_d, log_bias, least_normal}
use Rattle.lanes.specs.Lanes.{nth, logs_of}
use Rattle.lanes.specs.LogParts.{no_log_row, log_places, log_rows_for, logs_by_row, log_chosen, logs_chosen}

-- ---- the value by row
by_parts : (b : ℕ) → log_by_row (b + log_d) (log_row_at (b + log_d)) ≡ log_sum (log_parts b log_bias)
unfolding log_by_row log_parts
by_parts b = refl

module _ (x : Float) where
  module _ (h : lt x least_normal ≡ false) (k : lt x infinity· ≡ true) where
    place_is : log_place x ≡ bits_of x + log_d
    unfolding log_place
    place_is = rw (h, k)

    of_parts : log_of x ≡ log_sum (log_parts (bits_of x) log_bias)
    unfolding log_of
    of_parts = rw (h, k)

    by_row_is : log_by_row (log_place x) (log_row_at (log_place x)) ≡ log_of x
    by_row_is = ap (λ t. log_by_row t (log_row_at t)) place_is ∙ by_parts (bits_of x) ∙ sym of_parts

  itself : lt x least_normal ≡ false → lt x infinity· ≡ false → x ≡ log_of x
  unfolding log_of
  itself h k = rw (h, k)

  chosen_is : log_chosen x (log_by_row (log_place x) (log_row_at (log_place x))) ≡ log_of x
  unfolding log_chosen
  chosen_is =
      cases (lt x least_normal) (λ h. rw h)
      (λ h. cases (lt x infinity·) (λ k. rw (h, k) (by_row_is h k)) (λ k. rw (h, k) (itself h k)))

-- ---- at each of sixteen places
module _ (j : ℕ) (l : j < 16) where
  place_at : (x : List Float) → get_or (log_places x) j 0 ≡ log_place (get_or x j nan)
  unfolding log_places
  place_at x = at_place (λ i. log_place (get_or x i nan)) j 0 l

  row_at : (t : List ℕ) → get_or (log_rows_for t) j no_log_row ≡ log_row_at (get_or t j 0)
  unfolding log_rows_for
  row_at t = at_place (λ i. log_row_at (get_or t i 0)) j no_log_row l

  value_at_lem : (t : List ℕ) (rows : List LogRow) → get_or (logs_by_row t rows) j nan ≡ log_by_row (get_or t j 0) (get_or rows j no_log_row)
  unfolding logs_by_row
  value_at_lem t rows = at_place (λ i. log_by_row (get_or t i 0) (get_or rows i no_log_row)) j nan l

same : (x : List Float) → logs_chosen x (logs_by_row (log_places x) (log_rows_for (log_places x))) ≡ logs_of x
unfolding logs_chosen logs_of
same x =
    same_values
    (λ i. log_chosen (get_or x i nan) (get_or (logs_by_row (log_places x) (log_rows_for (log_places x))) i nan))
    (nth log_of x)
    (λ j l. rw (value_at_lem j l (log_places x) (log_rows_for (log_places x)), row_at j l (log_places x), place_at j l x) (chosen_is (get_or x j nan)))

pub together : (x : List Float) (t : List ℕ) (rows : List LogRow) (v r : List Float) → t ≡ log_places x → rows ≡ log_rows_for t → v ≡ logs_by_row t rows → r ≡ logs_chosen x v → r ≡ logs_of x
together x t rows v r a b c d = rw (d, c, b, a) (same x)
