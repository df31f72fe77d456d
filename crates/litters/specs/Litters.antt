-- A litter is three numbers: successes, total, group. A run of litters is a list of numbers, three a litter, where the i-th litter's stand from 3 i on.
use Rattle.std.specs.Prelude.{List, [], ◌∷◌, ℕ, ◌+◌, ◌*◌, ◌/◌, length, get_or}
use Rattle.litters.specs.declared.Litter.{Litter}

abbrev pub count_of : List ℕ → ℕ
count_of ls = length ls / 3

abbrev pub successes_at : List ℕ → ℕ → ℕ
successes_at ls i = get_or ls (3 * i) 0

abbrev pub total_at : List ℕ → ℕ → ℕ
total_at ls i = get_or ls (3 * i + 1) 0

abbrev pub group_at : List ℕ → ℕ → ℕ
group_at ls i = get_or ls (3 * i + 2) 0

-- the i-th litter's three numbers
abbrev pub row_at : List ℕ → ℕ → List ℕ
row_at ls i = successes_at ls i ∷ total_at ls i ∷ group_at ls i ∷ []

-- three numbers as a record
abbrev pub row_litter : List ℕ → Litter
row_litter row = record { successes = get_or row 0 0; total = get_or row 1 0; group = get_or row 2 0 }

-- the run of a list of records
unfoldable pub numbers_of : List Litter → List ℕ
numbers_of [] = []
numbers_of (l ∷ ls) = l.successes ∷ l.total ∷ l.group ∷ numbers_of ls
