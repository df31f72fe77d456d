-- What it is for an archive to be right: its shape, each litter, and each of the totals, which are the counts of the litters before them.
use Rattle.std.specs.Prelude.{◌≡◌, true, List, ℕ, ◌+◌, ◌*◌, ◌/◌, ◌<◌}
use Rattle.archive.specs.Layout.{valid_of, count_in}
use Rattle.archive.specs.Shaped.{Shaped}
use Rattle.archive.specs.Counts.{totals_in, counts_to}

pub record Right (b : List ℕ) : Type 0 where
  pub shape : Shaped b
  pub litters : (i : ℕ) → i < count_in b → valid_of b i ≡ true
  pub totals : (j : ℕ) → j < count_in b / 64 → totals_in b (count_in b) j ≡ counts_to b (64 * (j + 1))
