-- Rows of counts, each with its exposure: two lent lists of one length. What a request has to satisfy of them.
use Rattle.std.specs.Prelude.{Bool, ◌&&◌, List, ℕ, ◌+◌, leb, eqb, length, get_or, Float}
use Rattle.std.specs.Float.{nan}
use Rattle.std.specs.Float.Ieee.{lt}
use Rattle.num.specs.Every.{every_from}
use Rattle.num.specs.Sum.{sum_from}
use Rattle.num.specs.F64.{zero·}
use Rattle.num.specs.Helpers.{is_finite_of}

abbrev pub count_at : List ℕ → ℕ → ℕ
count_at cs i = get_or cs i 0

abbrev pub exposure_at : List Float → ℕ → Float
exposure_at es i = get_or es i nan

-- as an exposure or a rate has to be
unfoldable pub is_positive_of : Float → Bool
is_positive_of x = is_finite_of x && lt zero· x

-- of n rows from the i-th on
abbrev pub events_from : List ℕ → ℕ → ℕ → ℕ
events_from cs n i = sum_from ◌+◌ 0 (count_at cs) n i

unfoldable pub events_of : List ℕ → ℕ
events_of cs = events_from cs (length cs) 0

unfoldable pub all_positive_of : List Float → Bool
all_positive_of es = every_from (λ i. is_positive_of (exposure_at es i)) (length es) 0

-- 1 to 4,096 rows, at most a million events in all
unfoldable pub valid_rows_of : List ℕ → List Float → Bool
valid_rows_of cs es = leb 1 (length cs) && (leb (length cs) 4096 && (eqb (length es) (length cs) && (leb (events_of cs) 1000000 && all_positive_of es)))
