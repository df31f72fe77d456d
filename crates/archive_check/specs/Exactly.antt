-- The full check says yes exactly for an archive that is right.
use Rattle.std.specs.Prelude.{◌≡◌, refl, ◌&&◌, List, eqb}
use Rattle.std.proofs.Common.{sym, ◌∙◌, eqb-true, eq-eqb}
use Rattle.std.proofs.Math.Path.{ap}
use Rattle.std.proofs.Math.Bool.{true}
use Prim.Native.Nat.{ℕ, suc, ◌+◌, ◌-◌, ◌*◌, ◌/◌, ◌%◌, ◌<◌}
use native.Mathlib.Omega.{arith}
use borrow.Table.Steps.{cases}
use Rattle.num.specs.Both.{and_left, and_right, and_both, and_four}
use Rattle.num.specs.Every.{every_from, each_passes, all_pass}
use Rattle.summary.specs.declared.GroupCounts.{GroupCounts}
use Rattle.summary.specs.declared.Counts.{Counts}
use Rattle.archive.specs.Layout.{valid_of, count_in, shaped_of}
use Rattle.archive.specs.Shaped.{shape_holds, shape_is}
use Rattle.archive.specs.Counts.{totals_in, counts_to}
use Rattle.archive.specs.Right.{Right}
use Rattle.archive_check.specs.Check.{same_group_of, same_of, totals_hold_of, holds_at, check_of}

-- ---- counts that are the same by their eight numbers

group_same : (a b : GroupCounts) → same_group_of a b ≡ true → a ≡ b
unfolding same_group_of
group_same a b h =
    let x = eqb a.litters b.litters in
    let y = eqb a.successes b.successes in
    let z = eqb a.trials b.trials in
    let w = eqb a.extreme b.extreme in
    let each = and_four x y z w h in
    let p = eqb-true a.litters b.litters each.0 in
    let q = eqb-true a.successes b.successes each.1 in
    let r = eqb-true a.trials b.trials each.2 in
    let s = eqb-true a.extreme b.extreme each.3 in
    λ j. record { litters = p j; successes = q j; trials = r j; extreme = s j }

same : (a b : Counts) → same_of a b ≡ true → a ≡ b
unfolding same_of
same a b h =
    let x = same_group_of a.first b.first in
    let y = same_group_of a.second b.second in
    let p = group_same a.first b.first (and_left x y h) in
    let q = group_same a.second b.second (and_right x y h) in
    λ j. record { first = p j; second = q j }

group_self : (a : GroupCounts) → same_group_of a a ≡ true
unfolding same_group_of
group_self a = rw (eq-eqb a.litters a.litters refl, eq-eqb a.successes a.successes refl, eq-eqb a.trials a.trials refl, eq-eqb a.extreme a.extreme refl)

self : (a : Counts) → same_of a a ≡ true
unfolding same_of
self a = rw (group_self a.first, group_self a.second)

-- ---- totals

total_right : (b : List ℕ) (i j : ℕ) (c : Counts) → i ≡ 64 * (j + 1) → totals_hold_of b i c ≡ true → totals_in b (count_in b) j ≡ c
unfolding totals_hold_of
total_right b i j c e h =
    let r : i % 64 ≡ 0 = omega arith in
    let q : i / 64 - 1 ≡ j = omega arith in
    let t : same_of c (totals_in b (count_in b) j) ≡ true = rw (eq-eqb (i % 64) 0 r, q) at h in
    sym (same c (totals_in b (count_in b) j) t)

total_holds : (b : List ℕ) (i : ℕ) (c : Counts) → (i % 64 ≡ 0 → totals_in b (count_in b) (i / 64 - 1) ≡ c) → totals_hold_of b i c ≡ true
unfolding totals_hold_of
total_holds b i c f = cases (eqb (i % 64) 0) (λ e. rw (e, f (eqb-true (i % 64) 0 e)) (self c)) (λ e. rw e)

-- ---- both ways

module _ (b : List ℕ) where
  pub yes_right : check_of b ≡ true → Right b
  unfolding check_of holds_at
  yes_right h =
      let shape = and_left (shaped_of b) (every_from (holds_at b) (count_in b) 0) h in
      let holds = and_right (shaped_of b) (every_from (holds_at b) (count_in b) 0) h in
      let ok : (m : ℕ) → m < count_in b → (valid_of b m && totals_hold_of b (suc m) (counts_to b (suc m))) ≡ true = λ m l. each_passes (holds_at b) (count_in b) 0 m holds (omega arith) (omega arith) in
      record {
        shape = shape_holds b shape;
        litters = λ i l. and_left (valid_of b i) (totals_hold_of b (suc i) (counts_to b (suc i))) (ok i l);
        totals =
            λ j l.
            let e : suc (64 * j + 63) ≡ 64 * (j + 1) = omega arith in
            let t = and_right (valid_of b (64 * j + 63)) (totals_hold_of b (suc (64 * j + 63)) (counts_to b (suc (64 * j + 63)))) (ok (64 * j + 63) (omega arith)) in
            total_right b (suc (64 * j + 63)) j (counts_to b (suc (64 * j + 63))) e t ∙ ap (counts_to b) e;
      }

  pub right_yes : Right b → check_of b ≡ true
  unfolding check_of holds_at
  right_yes r =
      let holds =
      all_pass (holds_at b) (count_in b) 0
      (λ m l u.
      and_both (valid_of b m) (totals_hold_of b (suc m) (counts_to b (suc m))) (r.litters m (omega arith))
      (total_holds b (suc m) (counts_to b (suc m))
      (λ z.
      let e : 64 * (suc m / 64 - 1 + 1) ≡ suc m = omega arith in
      r.totals (suc m / 64 - 1) (omega arith) ∙ ap (counts_to b) e))) in
      and_both (shaped_of b) (every_from (holds_at b) (count_in b) 0) (shape_is b r.shape) holds

  -- yes exactly for an archive that is right
  pub exactly : (check_of b ≡ true → Right b) × (Right b → check_of b ≡ true)
  exactly = (yes_right, right_yes)
