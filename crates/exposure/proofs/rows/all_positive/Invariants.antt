-- `rows::all_positive` meets its contract, as the exposures still to come decide the whole.
use mathlib.Core.Path.{◌≡◌}
use Prim.Native.Nat.{◌-◌}
use lib.ListN.{length}
use Rattle.num.specs.Every.{every_from}
use Rattle.exposure.specs.Rows.{exposure_at, is_positive_of, all_positive_of}
use Rattle.exposure.proofs.rows.all_positive.Given as goal

abbrev pub invariant-loop-exposure : goal.invariant-loop-exposure
invariant-loop-exposure l = every_from (λ i. is_positive_of (exposure_at l.exposures i)) (length l.exposures - l.exposure-index) l.exposure-index ≡ all_positive_of l.exposures

abbrev pub decreases-loop-exposure : goal.decreases-loop-exposure
decreases-loop-exposure l = length l.exposures - l.exposure-index
