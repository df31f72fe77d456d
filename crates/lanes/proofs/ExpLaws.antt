-- The parts of `exps_of` together are `exps_of`.
use mathlib.Core.Path.{◌≡◌, refl, sym, ◌∙◌}
use mathlib.Core.Bool.{Bool, true, false, cond}
use mathlib.Core.List.{List}
use Prim.Native.Nat.{ℕ, ◌+◌, ◌-◌, ◌/◌, ◌%◌, ◌≤◌, ◌<◌}
use native.Mathlib.Omega.{arith}
use borrow.Author.Tests.{ltb-false, le-ltb}
use borrow.Table.Steps.{cases}
use lib.Dec.{ltb}
use lib.ListN.{get_or}
use lib.Ieee.{Float, nan, neg, lt}
use Rattle.num.specs.F64.{zero·, infinity·}
use Rattle.num.specs.Filled.{at_place, same_values}
use Rattle.tables.specs.declared.exp.ExpRow.{ExpRow}
use Rattle.tables.specs.Exp.{exp_row_of}
use Rattle.elementary.specs.Exp.{exp_of, exp_below, exp_above, exp_finish, exp_reduced, exp_sum, exp_whole, exp_place, exp_by_row, exp_low_bound, exp_high, three_eighths}
use Rattle.lanes.specs.Lanes.{nth, exps_of}
use Rattle.lanes.specs.ExpParts.{no_exp_row, exp_places, exp_rows_for, exps_by_row, first_e, last_e, exp_outside, exp_chosen, exps_chosen}

-- ---- a place that counts: both cuts were passed
abbrev cut : Bool → Bool → ℕ → ℕ
cut a b n = cond {A = ℕ} a (cond {A = ℕ} b n 0) 0

passed_low : (a b : Bool) (n : ℕ) (f : ℕ → Float) (z : Float) → 1100 ≤ cut a b n / 64 → cond a (f n) z ≡ f (cut a b n)
passed_low true true n f z l = refl
passed_low true false n f z l = absurd (omega arith)
passed_low false b n f z l = absurd (omega arith)

passed_high : (a b : Bool) (n : ℕ) (f : ℕ → Float) (z : Float) → 1100 ≤ cut a b n / 64 → cond b (f n) z ≡ f (cut a b n)
passed_high true true n f z l = refl
passed_high true false n f z l = absurd (omega arith)
passed_high false b n f z l = absurd (omega arith)

module _ (x : Float) where
  below_by : 1100 ≤ exp_place x / 64 → exp_below x ≡ exp_finish (exp_place x) (exp_reduced x (exp_sum x))
  unfolding exp_below exp_place
  below_by l = passed_low (lt exp_low_bound (exp_sum x)) (lt (exp_sum x) exp_high) (exp_whole (exp_sum x)) (λ m. exp_finish m (exp_reduced x (exp_sum x))) zero· l

  above_by : 1100 ≤ exp_place x / 64 → exp_above x ≡ exp_finish (exp_place x) (exp_reduced x (exp_sum x))
  unfolding exp_above exp_place
  above_by l = passed_high (lt exp_low_bound (exp_sum x)) (lt (exp_sum x) exp_high) (exp_whole (exp_sum x)) (λ m. exp_finish m (exp_reduced x (exp_sum x))) infinity· l

  -- ---- the value by row
  by_finish : (m : ℕ) → 1100 ≤ m / 64 → m / 64 ≤ 3070 → exp_by_row x m (exp_row_of (m % 64)) ≡ exp_finish m (exp_reduced x (exp_sum x))
  unfolding exp_by_row exp_finish
  by_finish m a b =
      let s : (m / 64 + 1023) % 2048 ≡ m / 64 - 1025 = omega arith in
      rw (le-ltb (m / 64) 1100 a, le-ltb 3070 (m / 64) b, s)

  outside_is : (m : ℕ) (y : Float) → exp_of x ≡ y → (1100 ≤ m / 64 → y ≡ exp_finish m (exp_reduced x (exp_sum x))) → exp_outside x m (exp_by_row x m (exp_row_of (m % 64))) ≡ y
  unfolding exp_outside
  outside_is m y e f =
      cases (ltb (m / 64) first_e) (λ a. rw a e)
      (λ a.
      let k : 1100 ≤ m / 64 = omega (arith, ltb-false (m / 64) first_e a) in
      cases (ltb last_e (m / 64)) (λ b. rw (a, b) e) (λ b. rw (a, b) (by_finish m k (omega (arith, ltb-false last_e (m / 64) b)) ∙ sym (f k))))

  of_below : lt x (neg three_eighths) ≡ true → exp_of x ≡ exp_below x
  unfolding exp_of
  of_below h = rw h

  of_above : lt x (neg three_eighths) ≡ false → lt three_eighths x ≡ true → exp_of x ≡ exp_above x
  unfolding exp_of
  of_above h k = rw (h, k)

  chosen_is : exp_chosen x (exp_place x) (exp_by_row x (exp_place x) (exp_row_of (exp_place x % 64))) ≡ exp_of x
  unfolding exp_chosen exp_of
  chosen_is =
      cases (lt x (neg three_eighths)) (λ h. rw h (outside_is (exp_place x) (exp_below x) (of_below h) below_by))
      (λ h. cases (lt three_eighths x) (λ k. rw (h, k) (outside_is (exp_place x) (exp_above x) (of_above h k) above_by)) (λ k. rw (h, k)))

-- ---- at each of sixteen places
module _ (j : ℕ) (l : j < 16) where
  place_at : (x : List Float) → get_or (exp_places x) j 0 ≡ exp_place (get_or x j nan)
  unfolding exp_places
  place_at x = at_place (λ i. exp_place (get_or x i nan)) j 0 l

  row_at : (m : List ℕ) → get_or (exp_rows_for m) j no_exp_row ≡ exp_row_of (get_or m j 0 % 64)
  unfolding exp_rows_for
  row_at m = at_place (λ i. exp_row_of (get_or m i 0 % 64)) j no_exp_row l

  value_at_lem : (x : List Float) (m : List ℕ) (rows : List ExpRow) → get_or (exps_by_row x m rows) j nan ≡ exp_by_row (get_or x j nan) (get_or m j 0) (get_or rows j no_exp_row)
  unfolding exps_by_row
  value_at_lem x m rows = at_place (λ i. exp_by_row (get_or x i nan) (get_or m i 0) (get_or rows i no_exp_row)) j nan l

same : (x : List Float) → exps_chosen x (exp_places x) (exps_by_row x (exp_places x) (exp_rows_for (exp_places x))) ≡ exps_of x
unfolding exps_chosen exps_of
same x =
    same_values
    (λ i. exp_chosen (get_or x i nan) (get_or (exp_places x) i 0) (get_or (exps_by_row x (exp_places x) (exp_rows_for (exp_places x))) i nan))
    (nth exp_of x)
    (λ j l. rw (value_at_lem j l x (exp_places x) (exp_rows_for (exp_places x)), row_at j l (exp_places x), place_at j l x) (chosen_is (get_or x j nan)))

pub together : (x : List Float) (m : List ℕ) (rows : List ExpRow) (v r : List Float) → m ≡ exp_places x → rows ≡ exp_rows_for m → v ≡ exps_by_row x m rows → r ≡ exps_chosen x m v → r ≡ exps_of x
together x m rows v r a b c d = rw (d, c, b, a) (same x)
