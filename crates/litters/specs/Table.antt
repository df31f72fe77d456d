-- The numbers that records are kept as, and how many of a run's are handed on.
use Rattle.std.specs.Prelude.{cond, List, [], ◌∷◌, ℕ, ◌+◌, ◌*◌, ◌/◌, leb, length, set, take, replicate}
use Rattle.litters.specs.declared.Litter.{Litter}
use Rattle.litters.specs.Litters.{numbers_of}

-- a row, the three numbers of litter i, put into its place; past the last place nothing is put
abbrev pub row_in : List ℕ → ℕ → ℕ → ℕ → ℕ → List ℕ
row_in b i successes total group = set (set (set b (3 * i) successes) (3 * i + 1) total) (3 * i + 2) group

-- what is read past the end of a list
abbrev pub no_litter : Litter
no_litter = record { successes = 0; total = 0; group = 0 }

-- the places of 128 litters
abbrev pub no_rows : List ℕ
no_rows = replicate 384 0

-- each litter put into its place, the first of them into the i-th
abbrev pub with_rows : List Litter → ℕ → List ℕ → List ℕ
with_rows [] i t = t
with_rows (l ∷ ls) i t = with_rows ls (i + 1) (row_in t i l.successes l.total l.group)

-- the numbers that are handed on for records
abbrev pub lent_of : List Litter → List ℕ
lent_of ls = cond (leb (length ls) 128) (numbers_of ls) []

-- how many of the table's numbers stand for n records
abbrev pub numbers_for_of : ℕ → ℕ
numbers_for_of n = cond (leb n 128) (3 * n) 0

abbrev pub kept_of : List ℕ → ℕ → List ℕ
kept_of ns n = take (numbers_for_of n) ns

-- how many are handed on, of n that are lent as such
abbrev pub handed_on_of : ℕ → ℕ
handed_on_of n = cond (leb (n / 3) 128) n 0
