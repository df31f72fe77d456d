-- What another tool claims of a fit, and what the objective at the claimed point decides of it.
use Rattle.std.specs.Prelude.{Bool, cond, ◌&&◌, List, [], ◌∷◌, ℕ, eqb, get_or, Float, Result, Ok, Err}
use Rattle.std.specs.Float.{nan}
use Rattle.std.specs.Float.Ieee.{le}
use Rattle.num.specs.F64.{bits_of}
use Rattle.work.specs.Refusal as work
use Rattle.objective.specs.declared.sum.Objective.{Objective}
use Rattle.objective.specs.declared.sum.Refused as objective
use Rattle.trial.specs.Judged.{norm_at_of}
use Rattle.claim.specs.declared.Claim.{Claim}
use Rattle.claim.specs.declared.Refusal.{Refusal}
use Rattle.claim.specs.declared.Refusal.TheVariants.{InvalidInput, Domain, OutsideBox, LikelihoodDiffers, NormAbove}
use Rattle.claim.specs.declared.Refused.{Refused}
use Rattle.claim.specs.declared.Vetted.{Vetted}

-- 0 is an acceptance; 3 and 4, a limit met and Form, refuse no claim
abbrev pub number_of : Refusal → ℕ
number_of InvalidInput = 1
number_of (Domain r) = 2
number_of OutsideBox = 5
number_of LikelihoodDiffers = 6
number_of NormAbove = 7

abbrev pub reason_of : Refusal → ℕ
reason_of InvalidInput = 0
reason_of (Domain r) = r
reason_of OutsideBox = 0
reason_of LikelihoodDiffers = 0
reason_of NormAbove = 0

-- of five numbers: two means, two variances, the likelihood
abbrev pub claim_from : List Float → Claim
claim_from l = record { means = get_or l 0 nan ∷ get_or l 1 nan ∷ []; variances = get_or l 2 nan ∷ get_or l 3 nan ∷ []; nll = get_or l 4 nan }

-- two means, then two variances
abbrev pub point_in : Claim → List Float
point_in c = get_or c.means 0 nan ∷ get_or c.means 1 nan ∷ get_or c.variances 0 nan ∷ get_or c.variances 1 nan ∷ []

-- A coordinate is compared as a number: its box has its ends, -0 lies at +0, and a NaN is outside.
abbrev pub within_of : Float → Float → Float → Bool
within_of x lo hi = le lo x && le x hi

abbrev within_at : List Float → List Float → List Float → ℕ → Bool
within_at x lo hi i = within_of (get_or x i nan) (get_or lo i nan) (get_or hi i nan)

unfoldable pub in_box_of : List Float → List Float → List Float → Bool
in_box_of x lo hi = let at = within_at x lo hi in at 0 && (at 1 && (at 2 && at 3))

-- A likelihood is compared by its bits: -0 and +0 differ, and any NaN, which has the bits 7ff8000000000000 here, is the same as any other.
unfoldable pub same_bits_of : Float → Float → Bool
same_bits_of a b = eqb (bits_of a) (bits_of b)

-- a refusal: why, and its count
abbrev pub refusal_of : Refusal → ℕ → Result Vetted Refused
refusal_of refusal used = Err (record { refusal = refusal; used = record { 0 = used } })

abbrev pub accepted_of : ℕ → Float → Float → Result Vetted Refused
accepted_of used nll norm = Ok (record { used = record { 0 = used }; nll = nll; norm = norm })

-- the objective's own refusal is a Domain with its reason, and its count
abbrev pub by_objective : objective.Refused → Refused
by_objective e = record { refusal = Domain (work.reason_of e.refusal); used = e.used }

-- By the objective at x: its own refusal, then the likelihood, then the norm that the fit stops by.
unfoldable pub judged_of : List Float → List Float → Float → List Float → Float → Result Objective objective.Refused → Result Vetted Refused
judged_of lo hi tolerance x claimed (Err e) = Err (by_objective e)
judged_of lo hi tolerance x claimed (Ok o) =
    let norm = norm_at_of lo hi x o.v in
    cond (same_bits_of o.v.nll claimed)
    (cond (le norm tolerance) (accepted_of o.used.0 o.v.nll norm) (refusal_of NormAbove o.used.0))
    (refusal_of LikelihoodDiffers o.used.0)
