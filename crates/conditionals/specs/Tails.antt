-- The far tail at sixteen places.
use Rattle.std.specs.Prelude.{Bool, false, cond, ◌||◌, List, ℕ, get_or, Float}
use Rattle.std.specs.Float.{nan}
use Rattle.std.specs.Float.Ieee.{neg, lt}
use Rattle.num.specs.F64.{◌⊕◌, ◌⊖◌, ◌⊘◌, eight·}
use Rattle.num.specs.Sum.{sum_from}
use Rattle.num.specs.Values.{values}
use Rattle.elementary.specs.Log.{log_of}
use Rattle.lanes.specs.Lanes.{nth}
use Rattle.normal.specs.declared.mills.LogMills.{LogMills}
use Rattle.normal.specs.Normal.{fraction_of, log_phi_of}
use Rattle.conditionals.specs.declared.normals.Ratios.{Ratios}
use Rattle.conditionals.specs.Normals.{across_of, ratios_of}

unfoldable pub deeper_of : List Float → List Float → Float → List Float
deeper_of t f term = values (λ i. term ⊘ (get_or t i nan ⊕ get_or f i nan)) 16 0

unfoldable pub fractions_of : List Float → List Float
fractions_of t = values (nth fraction_of t) 16 0

-- whether place i lies beyond -8
abbrev pub beyond_at : List Float → ℕ → Bool
beyond_at x i = lt (get_or x i nan) (neg eight·)

-- whether one of sixteen does
unfoldable pub beyond_of : List Float → Bool
beyond_of x = sum_from ◌||◌ false (beyond_at x) 16 0

-- beyond -8 by the fraction, else what is there
abbrev pub tail_at_of : Float → Float → Float → Float → LogMills
tail_at_of x fraction log mills =
    let ratio = neg x ⊕ fraction in
    cond (lt x (neg eight·)) (record { log = log_phi_of x ⊖ log_of ratio; mills = ratio }) (record { log = log; mills = mills })

-- sixteen, with the fraction f of each
abbrev pub tails_at : List Float → List Float → Ratios → ℕ → LogMills
tails_at x f n i = tail_at_of (get_or x i nan) (get_or f i nan) (get_or n.log i nan) (get_or n.mills i nan)

unfoldable pub tails_of : List Float → Ratios → Ratios
tails_of x n = ratios_of (tails_at x (fractions_of (across_of x)) n)
