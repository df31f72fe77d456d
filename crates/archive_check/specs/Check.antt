-- The full check, litter by litter: each is valid, and where a full 64 litters end, the totals there are what was counted up to there.
use Rattle.std.specs.Prelude.{Bool, true, ◌&&◌, cond, List, ℕ, suc, ◌-◌, ◌/◌, ◌%◌, eqb}
use Rattle.num.specs.Every.{every_from}
use Rattle.summary.specs.declared.GroupCounts.{GroupCounts}
use Rattle.summary.specs.declared.Counts.{Counts}
use Rattle.archive.specs.Layout.{valid_of, count_in, shaped_of}
use Rattle.archive.specs.Counts.{totals_in, counts_to}

unfoldable pub same_group_of : GroupCounts → GroupCounts → Bool
same_group_of a b = (eqb a.litters b.litters && eqb a.successes b.successes) && (eqb a.trials b.trials && eqb a.extreme b.extreme)

unfoldable pub same_of : Counts → Counts → Bool
same_of a b = same_group_of a.first b.first && same_group_of a.second b.second

-- the totals after the first i litters, where there are any, are c
unfoldable pub totals_hold_of : List ℕ → ℕ → Counts → Bool
totals_hold_of b i c = cond (eqb (i % 64) 0) (same_of c (totals_in b (count_in b) (i / 64 - 1))) true

unfoldable pub holds_at : List ℕ → ℕ → Bool
holds_at b i = valid_of b i && totals_hold_of b (suc i) (counts_to b (suc i))

unfoldable pub check_of : List ℕ → Bool
check_of b = shaped_of b && every_from (holds_at b) (count_in b) 0
