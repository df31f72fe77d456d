-- What the exported functions put into a host's buffers.
use Rattle.std.specs.Prelude.{Bool, false, cond, ◌&&◌, List, [], ◌∷◌, ◌++◌, ℕ, ◌+◌, eqb, leb, length, take, get_or, replicate, Float, Result, Ok, Err}
use Rattle.std.specs.Float.{nan}
use Rattle.num.specs.F64.{zero·}
use Rattle.summary.specs.Summary.{listed_of}
use Rattle.work.specs.Refusal.{number_of, reason_of}
use Rattle.descent.specs.Status.{number_of as Status·number_of}
use Rattle.objective.specs.declared.sum.Objective.{Objective}
use Rattle.objective.specs.declared.sum.Refused as objective
use Rattle.summary.specs.declared.Counts.{Counts}
use Rattle.work.specs.declared.Refusal.{Refusal}
use Rattle.fit.specs.declared.report.Fit.{Fit}
use Rattle.fit.specs.declared.report.Refused as fit
use Rattle.store.specs.Stored.{stored}
use Rattle.store.specs.Given.{Given, given}

-- where the length of an argument is wrong or a buffer is too short: 1, and nothing is written
abbrev unwritten : List Float → List ℕ → Given
unwritten numbers counts = given 1 numbers counts

abbrev four : List Float → ℕ → List Float
four l i = get_or l i nan ∷ get_or l (i + 1) nan ∷ get_or l (i + 2) nan ∷ get_or l (i + 3) nan ∷ []

-- a Hessian by rows
abbrev rows_of : List Float → List Float
rows_of h = four h 0 ++ (four h 4 ++ (four h 8 ++ four h 12))

-- ---- a fit

-- twelve bounds, room for the first six numbers and ten counts
unfoldable pub fit_room_of : ℕ → ℕ → ℕ → Bool
fit_room_of bounds numbers counts = eqb bounds 12 && (leb 6 numbers && leb 10 counts)

-- means, SDs, negative log-likelihood, norm of the projected gradient
abbrev pub first_numbers_of : Fit → List Float
first_numbers_of f = get_or f.means 0 nan ∷ get_or f.means 1 nan ∷ get_or f.sds 0 nan ∷ get_or f.sds 1 nan ∷ f.nll ∷ f.norm ∷ []

-- after them the variances, the gradient, the Hessian by rows
abbrev pub all_numbers_of : Fit → List Float
all_numbers_of f = first_numbers_of f ++ ((get_or f.variances 0 nan ∷ get_or f.variances 1 nan ∷ four f.gradient 0) ++ rows_of f.hessian)

-- of a buffer with n places: the first six of all 28 where there is no room for all
abbrev pub placed_of : List Float → ℕ → List Float
placed_of all n = cond (leb 28 n) all (take 6 all)

abbrev mark_at : Fit → ℕ → ℕ
mark_at f i = cond (get_or f.active i false) 1 0

-- status, fit evaluations, iterations, quadrature evaluations, litters, reason, a mark for each coordinate on a bound
unfoldable pub fit_counts_of : Fit → List ℕ
fit_counts_of f =
    Status·number_of f.status ∷ f.evaluations.0 ∷ f.iterations.0 ∷ f.quadrature.0 ∷ f.litters ∷ 0 ∷ mark_at f 0 ∷ mark_at f 1 ∷
    mark_at f 2 ∷ mark_at f 3 ∷ []

-- a refusal: its quadrature evaluations and its reason
unfoldable pub refused_counts_of : fit.Refused → List ℕ
refused_counts_of e = 0 ∷ 0 ∷ 0 ∷ e.quadrature.0 ∷ 0 ∷ reason_of e.refusal ∷ 0 ∷ 0 ∷ 0 ∷ 0 ∷ []

-- 0 and the fit, or the refusal's number and zeros
unfoldable pub put_fit_of : Result Fit fit.Refused → List Float → List ℕ → Given
put_fit_of (Ok f) numbers counts = given 0 (stored numbers (placed_of (all_numbers_of f) (length numbers))) (stored counts (fit_counts_of f))
put_fit_of (Err e) numbers counts = given (number_of e.refusal) (stored numbers (placed_of (replicate 28 zero·) (length numbers))) (stored counts (refused_counts_of e))

unfoldable pub fit_given : Result Fit fit.Refused → List Float → List Float → List ℕ → Given
fit_given f bounds numbers counts = cond (fit_room_of (length bounds) (length numbers) (length counts)) (put_fit_of f numbers counts) (unwritten numbers counts)

-- ---- an objective

-- four coordinates, room for twenty-two numbers and two counts
unfoldable pub objective_room_of : ℕ → ℕ → ℕ → Bool
objective_room_of point numbers counts = eqb point 4 && (leb 22 numbers && leb 2 counts)

-- value, gradient, Hessian by rows, refinement
abbrev pub objective_numbers_of : Objective → List Float
objective_numbers_of o = (o.v.nll ∷ four o.v.gradient 0) ++ (rows_of o.v.hessian ++ (o.v.refinement ∷ []))

-- 0 and the objective, or the refusal's number and zeros; the counts are the evaluations and the reason
unfoldable pub put_objective_of : Result Objective objective.Refused → List Float → List ℕ → Given
put_objective_of (Ok o) numbers counts = given 0 (stored numbers (objective_numbers_of o)) (stored counts (o.used.0 ∷ 0 ∷ []))
put_objective_of (Err e) numbers counts = given (number_of e.refusal) (stored numbers (replicate 22 zero·)) (stored counts (e.used.0 ∷ reason_of e.refusal ∷ []))

unfoldable pub objective_given : Result Objective objective.Refused → List Float → List Float → List ℕ → Given
objective_given o point numbers counts =
    cond (objective_room_of (length point) (length numbers) (length counts)) (put_objective_of o numbers counts) (unwritten numbers counts)

-- ---- a summary, which has no numbers

-- 0 and both groups' counts, or the refusal's number and zeros
unfoldable pub put_summary_of : Result Counts Refusal → List ℕ → Given
put_summary_of (Ok s) counts = given 0 [] (stored counts (listed_of s.first s.second))
put_summary_of (Err e) counts = given (number_of e) [] (stored counts (replicate 8 0))

unfoldable pub summary_given : Result Counts Refusal → List ℕ → Given
summary_given s counts = cond (leb 8 (length counts)) (put_summary_of s counts) (unwritten [] counts)
