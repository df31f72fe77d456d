-- The sums of the litters' shares: gradient by coordinate, Hessian by rows of the four coordinates.
use Rattle.std.specs.Prelude.{Bool, cond, ◌&&◌, List, ℕ, ◌+◌, ◌*◌, ltb, get_or, set, Float}
use Rattle.std.specs.Float.{nan}
use Rattle.num.specs.F64.{◌⊕◌}
use Rattle.num.specs.Helpers.{is_finite_of, max_of}
use Rattle.finite.specs.Finite.{all_finite_of}
use Rattle.row.specs.declared.share.Share.{Share}
use Rattle.value.specs.declared.Totals.{Totals}

-- a litter's mean is coordinate 0 or 1, its variance two further on
abbrev pub index_of : ℕ → ℕ
index_of group = cond (ltb group 1) 0 1

abbrev pub raised : List Float → ℕ → Float → List Float
raised v i x = set v i (get_or v i nan ⊕ x)

-- the Hessian's row i and column j stand at 4 i + j
abbrev pub summed_hessian : List Float → ℕ → List Float → List Float
summed_hessian v i h =
    raised (raised (raised (raised v (5 * i) (get_or h 0 nan)) (5 * i + 2) (get_or h 1 nan)) (5 * i + 8) (get_or h 2 nan)) (5 * i + 10) (get_or h 3 nan)

abbrev pub accumulated_of : Totals → ℕ → Float → List Float → List Float → Float → Totals
accumulated_of t i nll gradient hessian refinement =
    record {
      nll = t.nll ⊕ nll;
      gradient = raised (raised t.gradient i (get_or gradient 0 nan)) (i + 2) (get_or gradient 1 nan);
      hessian = summed_hessian t.hessian i hessian;
      refinement = max_of t.refinement refinement;
    }

-- the likelihood, and every entry of the gradient and of the Hessian
unfoldable pub finite_totals : Totals → Bool
finite_totals t = is_finite_of t.nll && (all_finite_of t.gradient && all_finite_of t.hessian)

abbrev pub with_share : Totals → ℕ → Share → Totals
with_share t i s = accumulated_of t i s.nll s.gradient s.hessian s.refinement
