-- What a host's calls on counts per exposure answer, and what they leave in its buffers.
use Rattle.std.specs.Prelude.{Bool, false, cond, ◌&&◌, List, [], ◌∷◌, ℕ, eqb, leb, length, get_or, Float, Result, Ok, Err}
use Rattle.std.specs.Float.{nan}
use Rattle.num.specs.F64.{zero·}
use Rattle.work.specs.Refusal.{number_of, reason_of}
use Rattle.descent.specs.Status.{number_of as Status·number_of}
use Rattle.store.specs.Stored.{stored}
use Rattle.store.specs.Given.{Given, given}
use Rattle.exposure.specs.declared.request.Request.{Request}
use Rattle.counts.specs.declared.sum.Objective.{Objective}
use Rattle.counts.specs.declared.sum.Refused.{Refused}
use Rattle.counts_fit.specs.declared.report.Fit.{Fit}

-- ---- the objective

-- room for seven numbers and two counts
unfoldable pub objective_room_of : ℕ → ℕ → Bool
objective_room_of numbers counts = leb 7 numbers && leb 2 counts

-- negative log-likelihood, gradient, Hessian by rows; zeros of a refusal
abbrev pub objective_numbers_of : Result Objective Refused → List Float
objective_numbers_of (Ok o) =
    o.nll ∷ get_or o.gradient 0 nan ∷ get_or o.gradient 1 nan ∷ get_or o.hessian 0 nan ∷ get_or o.hessian 1 nan ∷ get_or o.hessian 2 nan ∷
    get_or o.hessian 3 nan ∷ []
objective_numbers_of (Err e) = zero· ∷ zero· ∷ zero· ∷ zero· ∷ zero· ∷ zero· ∷ zero· ∷ []

-- passes, reason
abbrev pub objective_counts_of : Result Objective Refused → List ℕ
objective_counts_of (Ok o) = o.passes.0 ∷ 0 ∷ []
objective_counts_of (Err e) = e.passes.0 ∷ reason_of e.refusal ∷ []

abbrev pub objective_number_of : Result Objective Refused → ℕ
objective_number_of (Ok o) = 0
objective_number_of (Err e) = number_of e.refusal

unfoldable pub put_objective_of : Result Objective Refused → List Float → List ℕ → Given
put_objective_of o numbers counts = given (objective_number_of o) (stored numbers (objective_numbers_of o)) (stored counts (objective_counts_of o))

unfoldable pub objective_given : Result Objective Refused → List Float → List ℕ → Given
objective_given o numbers counts = cond (objective_room_of (length numbers) (length counts)) (put_objective_of o numbers counts) (given 1 numbers counts)

-- ---- the fit

-- six bounds, room for four numbers and eight counts
unfoldable pub fit_room_of : ℕ → ℕ → ℕ → Bool
fit_room_of bounds numbers counts = eqb bounds 6 && (leb 4 numbers && leb 8 counts)

-- low, high and start of the shape, then of the rate
abbrev pub request_of : List Float → Float → ℕ → ℕ → Request
request_of b tolerance evaluations iterations =
    record {
      shape = record { low = get_or b 0 nan; high = get_or b 1 nan; start = get_or b 2 nan };
      rate = record { low = get_or b 3 nan; high = get_or b 4 nan; start = get_or b 5 nan };
      evaluations = record { 0 = evaluations };
      iterations = record { 0 = iterations };
      tolerance = tolerance;
    }

-- zeros of a refusal
abbrev pub fit_numbers_of : Result Fit Refused → List Float
fit_numbers_of (Ok f) = f.shape ∷ f.rate ∷ f.nll ∷ f.norm ∷ []
fit_numbers_of (Err e) = zero· ∷ zero· ∷ zero· ∷ zero· ∷ []

abbrev mark_at : Fit → ℕ → ℕ
mark_at f i = cond (get_or f.active i false) 1 0

-- status, fit evaluations, iterations, passes, rows, reason, a mark for shape and rate on a bound; of a refusal its passes and its reason
abbrev pub fit_counts_of : Result Fit Refused → List ℕ
fit_counts_of (Ok f) =
    Status·number_of f.status ∷ f.evaluations.0 ∷ f.iterations.0 ∷ f.passes.0 ∷ f.rows ∷ 0 ∷ mark_at f 0 ∷ mark_at f 1 ∷ []
fit_counts_of (Err e) = 0 ∷ 0 ∷ 0 ∷ e.passes.0 ∷ 0 ∷ reason_of e.refusal ∷ 0 ∷ 0 ∷ []

abbrev pub fit_number_of : Result Fit Refused → ℕ
fit_number_of (Ok f) = 0
fit_number_of (Err e) = number_of e.refusal

unfoldable pub put_fit_of : Result Fit Refused → List Float → List ℕ → Given
put_fit_of f numbers counts = given (fit_number_of f) (stored numbers (fit_numbers_of f)) (stored counts (fit_counts_of f))

unfoldable pub fit_given : Result Fit Refused → List Float → List Float → List ℕ → Given
fit_given f bounds numbers counts = cond (fit_room_of (length bounds) (length numbers) (length counts)) (put_fit_of f numbers counts) (given 1 numbers counts)
