-- What a trial comes to, in four coordinates: by its slope alone, or by the value at its candidate.
use Rattle.std.specs.Prelude.{cond, List, Float}
use Rattle.std.specs.Float.Ieee.{le}
use Rattle.num.specs.F64.{◌⊖◌, zero·}
use Rattle.descent.specs.declared.Trial.{Trial}
use Rattle.descent.specs.declared.Trial.TheVariants.{NotDownhill, NotMoved, TooLittle, ByDecrease, ByRounding}
use Rattle.descent.specs.Descent.{decreases, rounds, allowance_of, bound_of}
use Rattle.value.specs.declared.Totals.{Totals}
use Rattle.step.specs.Step.{project_of, norm_of, slope_of}

abbrev pub norm_at_of : List Float → List Float → List Float → Totals → Float
norm_at_of lo hi x v = norm_of (project_of x v.gradient lo hi)

unfoldable pub idle_of : Float → Trial
idle_of slope = cond (le zero· slope) (NotDownhill slope) NotMoved

-- what the value c at the candidate decides, from x with its value v
unfoldable pub judged_of : List Float → List Float → List Float → Totals → List Float → Totals → Trial
judged_of lo hi x v next c =
    let slope = slope_of v.gradient next x in
    cond (decreases v.nll slope c.nll) (ByDecrease slope)
    (cond (rounds v.nll slope c.nll (norm_at_of lo hi x v) (norm_at_of lo hi next c)) (ByRounding (allowance_of v.nll))
    (TooLittle (c.nll ⊖ bound_of v.nll slope)))
