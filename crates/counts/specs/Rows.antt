-- `evaluate` of the source: the rows' shares in their order, then the test.
use Rattle.std.specs.Prelude.{Bool, cond, ◌&&◌, List, ℕ, zero, suc, ◌+◌, length, Float}
use Rattle.num.specs.Fold.{fold_from}
use Rattle.num.specs.Helpers.{is_finite_of}
use Rattle.elementary.specs.Exp.{exp_of}
use Rattle.work.specs.Ended.{domain}
use Rattle.work.specs.Work.{Work, ret, stop, ◌>>=◌}
use Rattle.planar.specs.declared.Planar.{Planar}
use Rattle.planar.specs.Planar.{no_planar}
use Rattle.exposure.specs.Rows.{count_at, exposure_at}
use Rattle.counts.specs.Share.{no_rising, rise, row_of, with_row_of}

unfoldable pub finite_of : Planar → Bool
finite_of v = is_finite_of v.nll && (is_finite_of v.x && (is_finite_of v.y && (is_finite_of v.xx && (is_finite_of v.xy && is_finite_of v.yy))))

-- n rows from the i-th on; reason 6, total not finite: an entry of their sum
unfoldable pub rows : Float → Float → List ℕ → List Float → ℕ → ℕ → Planar → Work Float Float Planar
rows shape log-rate cs es zero i v = cond (finite_of v) (ret v) (stop (domain 6))
rows shape log-rate cs es (suc n) i v = do
  s ← rise shape (count_at cs i) 0 no_rising
  rows shape log-rate cs es n (i + 1) (row_of v shape log-rate (count_at cs i) (exposure_at es i) s)

-- x and y are the logarithms of shape and rate
unfoldable pub evaluate : Float → Float → List ℕ → List Float → Work Float Float Planar
evaluate x y cs es = rows (exp_of x) y cs es (length cs) 0 no_planar

-- ---- as code has it

abbrev pub with_row_at : Float → Float → List ℕ → List Float → ℕ → Planar → Planar
with_row_at shape log-rate cs es i v = with_row_of v shape log-rate (count_at cs i) (exposure_at es i)

abbrev pub rows_from : Float → Float → List ℕ → List Float → ℕ → ℕ → Planar → Planar
rows_from shape log-rate cs es n i v = fold_from (with_row_at shape log-rate cs es) n i v

unfoldable pub totals_of : Float → Float → List ℕ → List Float → Planar
totals_of x y cs es = rows_from (exp_of x) y cs es (length cs) 0 no_planar
