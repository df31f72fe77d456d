-- The counts of both groups in an archive: what a litter adds, what running totals say, and what is counted over the first litters.
use Rattle.std.specs.Prelude.{List, [], ◌∷◌, ℕ, zero, suc, ◌+◌, ◌*◌}
use Rattle.summary.specs.declared.GroupCounts.{GroupCounts}
use Rattle.summary.specs.declared.Counts.{Counts}
use Rattle.summary.specs.Both.{none, both_of, one_of}
use Rattle.archive.specs.Layout.{word_at, group_in, successes_in, total_in}

abbrev pub litter_in : List ℕ → ℕ → Counts
litter_in b i = one_of (successes_in b i) (total_in b i) (group_in b i)

abbrev pub group_totals_of : List ℕ → ℕ → GroupCounts
group_totals_of b p = record { litters = word_at b p; successes = word_at b (p + 4); trials = word_at b (p + 8); extreme = word_at b (p + 12) }

abbrev pub totals_of : List ℕ → ℕ → Counts
totals_of b p = record { first = group_totals_of b p; second = group_totals_of b (p + 16) }

-- the j-th running totals, from 0, of an archive of n litters
unfoldable pub totals_in : List ℕ → ℕ → ℕ → Counts
totals_in b n j = totals_of b (12 * n + 32 * j)

-- the first i litters counted
unfoldable pub counts_to : List ℕ → ℕ → Counts
counts_to b zero = none
counts_to b (suc i) = both_of (counts_to b i) (litter_in b i)

-- k litters from the i-th on, as the summary takes them: successes, total, group
unfoldable pub numbers_from : List ℕ → ℕ → ℕ → List ℕ
numbers_from b zero i = []
numbers_from b (suc k) i = successes_in b i ∷ total_in b i ∷ group_in b i ∷ numbers_from b k (suc i)
