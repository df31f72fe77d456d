-- The laws of the loops over what a running summary reads, and of the tests before a difference.
use mathlib.Core.Path.{◌≡◌, refl, ap, ◌∙◌}
use mathlib.Core.List.{List, ◌++◌}
use Prim.Native.Nat.{ℕ, zero, suc, ◌+◌, ◌-◌, ◌*◌, ◌/◌, ◌%◌}
use native.Mathlib.Nat.{zero-add}
use native.Mathlib.Omega.{arith}
use Rattle.num.specs.Every.{every_from}
use Rattle.num.specs.Fold.{fold_from}
use Rattle.summary.specs.declared.Counts.{Counts}
use Rattle.summary.specs.Both.{none, both_of}
use Rattle.archive.specs.Layout.{valid_of, count_in}
use Rattle.archive.specs.Counts.{litter_in, totals_in}
use Rattle.archive_range.specs.Reads.{litters_from, last_total, reads_of, summed, valid_reads_of, running_of}

-- ---- the litters since the last totals

start_left : (p : ℕ) → p - 64 * (p / 64) ≡ p % 64
start_left p = omega arith

-- the litters that are read, as a loop takes them
valid_litters : (b : List ℕ) (k i : ℕ) → every_from (valid_of b) k i ≡ valid_reads_of b (litters_from k i)
unfolding every_from litters_from valid_reads_of
valid_litters b zero i = refl
valid_litters b (suc k) i = rw (valid_litters b k (i + 1))

valid_after : (b : List ℕ) (q k i : ℕ) → every_from (valid_of b) k i ≡ valid_reads_of b (last_total q ++ litters_from k i)
unfolding last_total valid_reads_of
valid_after b zero k i = valid_litters b k i
valid_after b (suc j) k i = valid_litters b k i

pub valid_begin : (b : List ℕ) (p : ℕ) → every_from (valid_of b) (p - 64 * (p / 64)) (64 * (p / 64)) ≡ valid_reads_of b (reads_of p)
unfolding reads_of
valid_begin b p = rw (start_left p) (valid_after b (p / 64) (p % 64) (64 * (p / 64)))

abbrev pub with_litter : List ℕ → ℕ → Counts → Counts
with_litter b i c = both_of c (litter_in b i)

summed_litters : (b : List ℕ) (k i : ℕ) (c : Counts) → fold_from (with_litter b) k i c ≡ summed b c (litters_from k i)
unfolding fold_from litters_from summed
summed_litters b zero i c = refl
summed_litters b (suc k) i c = summed_litters b k (i + 1) (with_litter b i c)

summed_after : (b : List ℕ) (c : Counts) (q k i : ℕ) → c ≡ summed b none (last_total q) → fold_from (with_litter b) k i c ≡ summed b none (last_total q ++ litters_from k i)
unfolding last_total summed
summed_after b c zero k i e = summed_litters b k i c ∙ ap (λ d. summed b d (litters_from k i)) e
summed_after b c (suc j) k i e = summed_litters b k i c ∙ ap (λ d. summed b d (litters_from k i)) e

pub sum_begin : (b : List ℕ) (p : ℕ) (c : Counts) → c ≡ summed b none (last_total (p / 64)) → fold_from (with_litter b) (p - 64 * (p / 64)) (64 * (p / 64)) c ≡ running_of b p
unfolding running_of reads_of
sum_begin b p c e = rw (start_left p) (summed_after b c (p / 64) (p % 64) (64 * (p / 64)) e)

-- ---- the last totals

pub no_total : (b : List ℕ) (q : ℕ) (r : Counts) → q ≡ 0 → r ≡ none → r ≡ summed b none (last_total q)
unfolding last_total summed
no_total b q r h e = rw (h) e

total_sum : (b : List ℕ) (j : ℕ) → totals_in b (count_in b) j ≡ summed b none (last_total (suc j))
unfolding last_total summed totals_in
total_sum b j = simp zero-add

pub one_total : (b : List ℕ) (q : ℕ) (r : Counts) → (q ≡ 0 → ⊥) → r ≡ totals_in b (count_in b) (q - 1) → r ≡ summed b none (last_total q)
one_total b zero r h e = absurd (h refl)
one_total b (suc j) r h e =
    let k : suc j - 1 ≡ j = omega arith in
    e ∙ ap (totals_in b (count_in b)) k ∙ total_sum b j
