-- `gamma_poisson_objective` of the source, in one unit.
use Rattle.std.specs.Prelude.{Bool, cond, ◌&&◌, List, [], ◌∷◌, ℕ, length, Float, Result, Ok, Err}
use Rattle.elementary.specs.Log.{log_of}
use Rattle.work.specs.declared.Refusal.{Refusal}
use Rattle.work.specs.declared.Refusal.TheVariants.{Domain}
use Rattle.work.specs.Answer.{outcome}
use Rattle.work.specs.Ended.{invalid}
use Rattle.work.specs.Work.{Work, stop, Metered, run, listed}
use Rattle.planar.specs.declared.Planar.{Planar}
use Rattle.exposure.specs.Rows.{is_positive_of, events_of, valid_rows_of}
use Rattle.exposure.specs.Request.{valid_shape_of}
use Rattle.counts.specs.declared.sum.Value.{Value}
use Rattle.counts.specs.declared.sum.Objective.{Objective}
use Rattle.counts.specs.declared.sum.Refused.{Refused}
use Rattle.counts.specs.Rows.{finite_of, evaluate, totals_of}

abbrev pub admits : Float → Float → List ℕ → List Float → Bool
admits shape rate cs es = (valid_shape_of shape && is_positive_of rate) && valid_rows_of cs es

unfoldable pub objective : Float → Float → List ℕ → List Float → Work Float Float Planar
objective shape rate cs es = cond (admits shape rate cs es) (evaluate (log_of shape) (log_of rate) cs es) (stop invalid)

-- the whole of a computation, without a limit: its ending, and the passes that it asked for
unfoldable pub in_full : {A : Type 0} → Work Float Float A → Metered A
in_full w = record { ended = run log_of w; used = length (listed log_of w) }

abbrev pub to_objective : ℕ → Planar → Objective
to_objective n v = record { passes = record { 0 = n }; nll = v.nll; gradient = v.x ∷ v.y ∷ []; hessian = v.xx ∷ v.xy ∷ v.xy ∷ v.yy ∷ [] }

abbrev pub refused_of : Refusal → ℕ → Refused
refused_of r n = record { refusal = r; passes = record { 0 = n } }

-- the answer after n passes: the value as an objective, or the refusal with its count
abbrev pub answered : ℕ → Result Planar Refusal → Result Objective Refused
answered n (Ok v) = Ok (to_objective n v)
answered n (Err r) = Err (refused_of r n)

unfoldable pub objective_of : Float → Float → List ℕ → List Float → Result Objective Refused
objective_of shape rate cs es = let m = in_full (objective shape rate cs es) in answered m.used (outcome m.ended)

-- ---- as code has it

unfoldable pub evaluated_of : Float → Float → List ℕ → List Float → Result Value Refused
evaluated_of x y cs es =
    let v = totals_of x y cs es in
    cond (finite_of v) (Ok (record { passes = record { 0 = events_of cs }; v = v })) (Err (refused_of (Domain 6) (events_of cs)))

abbrev pub told_of : Result Value Refused → Result Objective Refused
told_of (Ok o) = Ok (to_objective o.passes.0 o.v)
told_of (Err e) = Err e
