-- How many litters are of a group.
use Rattle.std.specs.Prelude.{cond, List, ℕ, ◌+◌, eqb}
use Rattle.num.specs.Sum.{sum_from}
use Rattle.litters.specs.Litters.{count_of, group_at}

-- 1 for a litter of group g
abbrev pub in_group : List ℕ → ℕ → ℕ → ℕ
in_group ls g i = cond (eqb (group_at ls i) g) 1 0

unfoldable pub of_group_of : List ℕ → ℕ → ℕ
of_group_of ls g = sum_from ◌+◌ 0 (in_group ls g) (count_of ls) 0
