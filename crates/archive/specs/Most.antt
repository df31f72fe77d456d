-- How large the counts of both groups can be: of valid litters at most 1000 a litter.
use Rattle.std.specs.Prelude.{◌≡◌, true, List}
use Prim.Native.Nat.{ℕ, zero, suc, ◌+◌, ◌*◌, ◌<◌, ◌≤◌}
use native.Mathlib.Omega.{arith}
use Rattle.summary.specs.Summary.{litter_counts_of}
use Rattle.summary.specs.Most.{Most, raise, plus_most, valid_most}
use Rattle.summary.specs.Both.{one_of, BothMost, none_both}
use Rattle.archive.specs.Layout.{valid_of, successes_in, total_in, group_in}
use Rattle.archive.specs.Counts.{litter_in, counts_to}

module _ (b : List ℕ) (n : ℕ) (valid : (i : ℕ) → i < n → valid_of b i ≡ true) where
  pub counts_most : (i : ℕ) → i ≤ n → BothMost (counts_to b i) (1000 * i)
  unfolding counts_to one_of
  counts_most zero h = none_both 0
  counts_most (suc i) h =
      let before = counts_most i (omega arith) in
      let more : 1000 * i + 1000 ≤ 1000 * suc i = omega arith in
      let one : (asked : ℕ) → Most (litter_counts_of asked (successes_in b i) (total_in b i) (group_in b i)) 1000 = λ asked. valid_most asked (successes_in b i) (total_in b i) (group_in b i) (valid i (omega arith)) in
      record {
        first = raise (counts_to b (suc i)).first (1000 * i + 1000) (1000 * suc i) more (plus_most (counts_to b i).first (litter_in b i).first (1000 * i) 1000 before.first (one 0));
        second = raise (counts_to b (suc i)).second (1000 * i + 1000) (1000 * suc i) more (plus_most (counts_to b i).second (litter_in b i).second (1000 * i) 1000 before.second (one 1));
      }
