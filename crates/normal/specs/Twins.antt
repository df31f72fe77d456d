-- The normal distribution at x and at -x, both by erfc.
use Rattle.std.specs.Prelude.{◌≡◌, Bool, false, cond, Float}
use Rattle.std.specs.Float.Ieee.{neg, lt}
use Rattle.num.specs.F64.{◌⊖◌, zero·, six·}
use Rattle.elementary.specs.Erfc.{erfc_of}
use Rattle.elementary.specs.Log.{log_of}
use Rattle.elementary.specs.Exp.{exp_of}
use Rattle.normal.specs.declared.mills.LogMills.{LogMills}
use Rattle.normal.specs.declared.twins.Twins.{Twins}
use Rattle.normal.specs.declared.twins.Erfcs.{Erfcs}
use Rattle.normal.specs.Normal.{normal_centre, normal_of}

abbrev pub size_of : Float → Float
size_of x = cond (lt x zero·) (neg x) x

-- erfc across zero from x serves x too: where x is below zero, and there the first two tests are never met
unfoldable pub serves_of : Float → Bool
serves_of x = cond (lt (neg x) (neg six·)) false (cond (lt (neg x) zero·) false (lt x zero·))

abbrev pub by_cdf_of : Float → Float → LogMills
by_cdf_of phi cdf = let l = log_of cdf in record { log = l; mills = exp_of (phi ⊖ l) }

unfoldable pub centres_of : Float → Twins
centres_of x = record { low = normal_centre x; high = normal_centre (neg x) }

-- erfc at x, and across zero
abbrev pub HasErfcs : Float → Erfcs → Type 0
HasErfcs x e = (e.at ≡ erfc_of x) × (e.across ≡ erfc_of (neg x))

-- the normal distribution at x, and across zero
abbrev pub HasNormals : Float → Twins → Type 0
HasNormals x t = (t.low ≡ normal_of x) × (t.high ≡ normal_of (neg x))
