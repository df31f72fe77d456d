-- The same as code has it: among four coordinates, of which the second and the fourth move.
use Rattle.std.specs.Prelude.{List, [], ◌∷◌, ℕ, get_or, Float, None, Result, Ok, Err}
use Rattle.std.specs.Float.{nan}
use Rattle.elementary.specs.Log.{log_of}
use Rattle.work.specs.Work.{Work, ret, ◌>>=◌, metered}
use Rattle.value.specs.declared.Totals.{Totals}
use Rattle.planar.specs.Planar.{widened_of}
use Rattle.exposure.specs.declared.request.Request.{Request}
use Rattle.counts.specs.Rows.{evaluate}
use Rattle.counts.specs.declared.sum.Value.{Value}
use Rattle.step.specs.declared.Region.{Region}
use Rattle.trial.specs.Judged.{norm_at_of}
use Rattle.stepper.specs.declared.Plan.{Plan}
use Rattle.plane.specs.Among.{placed}
use Rattle.course.specs.declared.Answer.{Answer}
use Rattle.course.specs.declared.Stopped.{Stopped}
use Rattle.course.specs.declared.Refused as course
use Rattle.course.specs.declared.Course.{Course}
use Rattle.course.specs.Course.{answer_in}
use Rattle.course.specs.Drives.{course_of}
use Rattle.counts_fit.specs.declared.report.Fit.{Fit}
use Rattle.counts.specs.declared.sum.Refused.{Refused}
use Rattle.counts_fit.specs.Fit.{Report, low_of, high_of, natural_of, on_bound_of, to_fit}
use Rattle.counts.specs.Objective.{refused_of}

abbrev pub value_among : List ℕ → List Float → List Float → Work Float Float Totals
value_among cs es x = evaluate (get_or x 1 nan) (get_or x 3 nan) cs es >>= λ v. ret (widened_of v)

-- as a descent is told of it, under a limit
abbrev pub answer_at : List ℕ → List Float → ℕ → List Float → Answer
answer_at cs es l x = answer_in (metered log_of l 0 (value_among cs es x)) None

-- as code evaluates it
abbrev pub answered_of : Result Value Refused → Answer
answered_of (Ok o) = record { used = o.passes.0; value = Ok (widened_of o.v) }
answered_of (Err e) = record { used = e.passes.0; value = Err (record { refusal = e.refusal; part = None }) }

-- the passes that every admitted fit keeps within, so that no limit is met
abbrev pub enough : ℕ
enough = 20000000

unfoldable pub run_of : List ℕ → List Float → Plan → List Float → Course
run_of cs es p x = course_of log_of (value_among cs es) enough 0 p None x

abbrev pub region_of : Request → Region
region_of r = record { lo = placed (low_of r); hi = placed (high_of r) }

abbrev pub report_among : Request → ℕ → Stopped → Report
report_among r n d =
    record {
      status = d.status;
      shape = natural_of (get_or d.x 1 nan) r.shape;
      rate = natural_of (get_or d.x 3 nan) r.rate;
      nll = d.v.nll;
      norm = norm_at_of (placed (low_of r)) (placed (high_of r)) d.x d.v;
      evaluations = d.evaluations.0;
      iterations = d.iterations.0;
      rows = n;
      active = on_bound_of (get_or d.x 1 nan) r.shape ∷ on_bound_of (get_or d.x 3 nan) r.rate ∷ [];
    }

abbrev pub report_from : Request → ℕ → ℕ → Stopped → Fit
report_from r n used d = to_fit used (report_among r n d)

abbrev pub end_reported : Request → ℕ → ℕ → Result Stopped course.Refused → Result Fit Refused
end_reported r n used (Ok d) = Ok (report_from r n used d)
end_reported r n used (Err e) = Err (refused_of e.refusal used)

abbrev pub reported_of : Request → ℕ → Course → Result Fit Refused
reported_of r n d = end_reported r n d.used d.end
