-- The running summary at a position, as the list of what is read for it: the last totals at or before the position, where there are any,
-- and each litter since. It is a sum over that list, and so reads nothing else.
use Rattle.std.specs.Prelude.{Bool, true, ◌&&◌, List, [], ◌∷◌, ◌++◌, ℕ, zero, suc, ◌+◌, ◌*◌, ◌/◌, ◌%◌}
use Rattle.summary.specs.declared.Counts.{Counts}
use Rattle.summary.specs.Both.{none, both_of}
use Rattle.archive.specs.Layout.{valid_of, count_in}
use Rattle.archive.specs.Counts.{litter_in, totals_in}

-- totals and litters, counted from 0
pub data Read : Type 0 where
  total : ℕ → Read
  litter : ℕ → Read

-- k litters from the i-th on
unfoldable pub litters_from : ℕ → ℕ → List Read
litters_from zero i = []
litters_from (suc k) i = litter i ∷ litters_from k (i + 1)

-- the totals of the first q full 64 litters
unfoldable pub last_total : ℕ → List Read
last_total zero = []
last_total (suc j) = total j ∷ []

unfoldable pub reads_of : ℕ → List Read
reads_of p = last_total (p / 64) ++ litters_from (p % 64) (64 * (p / 64))

-- ---- what they come to

abbrev pub read_in : List ℕ → Read → Counts
read_in b (total j) = totals_in b (count_in b) j
read_in b (litter i) = litter_in b i

unfoldable pub summed : List ℕ → Counts → List Read → Counts
summed b c [] = c
summed b c (r ∷ rs) = summed b (both_of c (read_in b r)) rs

-- of the litters among them, each is valid
abbrev pub is_valid : List ℕ → Read → Bool
is_valid b (total j) = true
is_valid b (litter i) = valid_of b i

unfoldable pub valid_reads_of : List ℕ → List Read → Bool
valid_reads_of b [] = true
valid_reads_of b (r ∷ rs) = is_valid b r && valid_reads_of b rs

unfoldable pub running_of : List ℕ → ℕ → Counts
running_of b p = summed b none (reads_of p)
