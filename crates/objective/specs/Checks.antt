-- What a point must satisfy (docs/RULES.md), check by check. With the litters' checks they are what is tested, so one that fails is enough for a refusal.
use Rattle.std.specs.Prelude.{◌≡◌, Bool, true, false, List, [], ◌∷◌, ◌++◌, ℕ, get_or, Err, Float}
use Rattle.std.proofs.Common.{◌∙◌}
use Rattle.std.specs.Float.{nan}
use Rattle.std.specs.Float.Ieee.{le}
use Rattle.num.specs.F64.{zero·, eight·}
use Rattle.num.specs.Helpers.{abs_of, is_finite_of}
use Rattle.work.specs.declared.Refusal.TheVariants.{InvalidInput}
use Rattle.litters.specs.Valid.{valid_litters_of}
use Rattle.litters.specs.All.{all, and_assoc, and-true, and_false, both_all, one_fails}
use Rattle.litters.specs.Checks.{litter_checks, litters_all}
use Rattle.objective.specs.Point.{nine·, valid_mean_of, valid_variance_of, valid_point_of}
use Rattle.objective.specs.Objective.{refused_of, objective_of}
use Rattle.objective.specs.Reasons.{objective_fails}

abbrev mean_checks : Float → List Bool
mean_checks x = is_finite_of x ∷ le (abs_of x) eight· ∷ []

abbrev variance_checks : Float → List Bool
variance_checks x = is_finite_of x ∷ le zero· x ∷ le x nine· ∷ []

abbrev pub point_checks : List Float → List Bool
point_checks x = mean_checks (get_or x 0 nan) ++ (mean_checks (get_or x 1 nan) ++ (variance_checks (get_or x 2 nan) ++ variance_checks (get_or x 3 nan)))

pub point_all : (x : List Float) → valid_point_of x ≡ all (point_checks x)
unfolding valid_point_of valid_mean_of valid_variance_of
point_all x = simp (and_assoc, and-true)

-- A point or litters of which any check fails are InvalidInput, with count 0.
pub any_fails : (x : List Float) (ls : List ℕ) (i : ℕ) → get_or (point_checks x ++ litter_checks ls) i true ≡ false → objective_of x ls ≡ Err (refused_of InvalidInput 0)
any_fails x ls i h =
    let e = both_all (valid_point_of x) (valid_litters_of ls) (point_checks x) (litter_checks ls) (point_all x) (litters_all ls) in
    objective_fails x ls (e ∙ one_fails (point_checks x ++ litter_checks ls) i h)

-- litters that are not valid, wherever the point lies
pub invalid_refused : (x : List Float) (ls : List ℕ) → valid_litters_of ls ≡ false → objective_of x ls ≡ Err (refused_of InvalidInput 0)
invalid_refused x ls h = objective_fails x ls (rw h (and_false (valid_point_of x)))
