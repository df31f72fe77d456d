-- The normal distribution at sixteen places, from its values there.
use Rattle.std.specs.Prelude.{cond, List, ℕ, get_or, Float}
use Rattle.std.specs.Float.{nan}
use Rattle.std.specs.Float.Ieee.{neg, lt}
use Rattle.num.specs.F64.{◌⊖◌, ◌⊗◌, ◌⊘◌, half·, eight·}
use Rattle.num.specs.Values.{values}
use Rattle.elementary.specs.Erfc.{erfc_of}
use Rattle.lanes.specs.Lanes.{nth}
use Rattle.normal.specs.declared.mills.LogMills.{LogMills}
use Rattle.normal.specs.Normal.{log_phi_of, sqrt_two, normal_tail}
use Rattle.normal.specs.Twins.{size_of, by_cdf_of}
use Rattle.conditionals.specs.declared.normals.Ratios.{Ratios}
use Rattle.conditionals.specs.declared.normals.Pairs.{Pairs}

unfoldable pub across_of : List Float → List Float
across_of x = values (nth neg x) 16 0

-- where erfc is asked for, and of what size that is
unfoldable pub turned_of : List Float → List Float
turned_of x = values (λ i. neg (get_or x i nan) ⊘ sqrt_two) 16 0

unfoldable pub sizes_of : List Float → List Float
sizes_of t = values (nth size_of t) 16 0

-- half of erfc there, and across zero
unfoldable pub halves_of : List Float → Pairs
halves_of t = record { at = values (λ i. half· ⊗ erfc_of (get_or t i nan)) 16 0; across = values (λ i. half· ⊗ erfc_of (neg (get_or t i nan))) 16 0 }

abbrev pub cdf_of : Float → Float
cdf_of x = half· ⊗ erfc_of (neg x ⊘ sqrt_two)

unfoldable pub cdfs_of : List Float → Pairs
cdfs_of x = record { at = values (nth cdf_of x) 16 0; across = values (nth (λ y. cdf_of (neg y)) x) 16 0 }

unfoldable pub gaps_of : List Float → List Float → List Float
gaps_of x log = values (λ i. log_phi_of (get_or x i nan) ⊖ get_or log i nan) 16 0

-- at x, where the distribution is cdf
abbrev pub normal_at : Float → Float → LogMills
normal_at x cdf = cond (lt x (neg eight·)) (normal_tail x) (by_cdf_of (log_phi_of x) cdf)

-- the arrays, from what is at each place
abbrev pub ratios_of : (ℕ → LogMills) → Ratios
ratios_of at = record { log = values (λ i. (at i).log) 16 0; mills = values (λ i. (at i).mills) 16 0 }

unfoldable pub normals_of : List Float → List Float → Ratios
normals_of x cdf = ratios_of (λ i. normal_at (get_or x i nan) (get_or cdf i nan))
