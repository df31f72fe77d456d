-- When a litter is valid, and when a run of litters is.
use Rattle.std.specs.Prelude.{Bool, ◌&&◌, List, ℕ, ◌%◌, leb, eqb, length}
use Rattle.num.specs.Every.{every_from}
use Rattle.litters.specs.Litters.{count_of, successes_at, total_at, group_at}

-- group 0 or 1, total 1 to 1000, successes at most total
unfoldable pub valid_litter_of : ℕ → ℕ → ℕ → Bool
valid_litter_of successes total group = leb group 1 && (leb 1 total && (leb total 1000 && leb successes total))

-- the i-th litter of a run
abbrev pub valid_at : List ℕ → ℕ → Bool
valid_at ls i = valid_litter_of (successes_at ls i) (total_at ls i) (group_at ls i)

-- each litter of a run, however many they are
unfoldable pub each_valid_of : List ℕ → Bool
each_valid_of ls = every_from (λ i. valid_at ls i) (count_of ls) 0

-- 1 to 128 litters, with no number over
unfoldable pub valid_litters_of : List ℕ → Bool
valid_litters_of ls = eqb (length ls % 3) 0 && (leb 1 (count_of ls) && (leb (count_of ls) 128 && each_valid_of ls))
