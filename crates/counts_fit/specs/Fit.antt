-- `fit_gamma_poisson` of the source, in one unit: a request's checks, the descent in the logarithms of shape and rate, and the report.
use Rattle.std.specs.Prelude.{Bool, cond, ◌||◌, List, [], ◌∷◌, ℕ, length, Float, Result, Ok, Err}
use Rattle.std.specs.Float.Ieee.{eq}
use Rattle.num.specs.Helpers.{clamp_of}
use Rattle.elementary.specs.Log.{log_of}
use Rattle.elementary.specs.Exp.{exp_of}
use Rattle.work.specs.declared.Refusal.TheVariants.{WorkBudget}
use Rattle.work.specs.Answer.{refusal_of}
use Rattle.work.specs.Ended.{invalid, Ended, done, stopped, short}
use Rattle.work.specs.Work.{Work, ret, stop, ◌>>=◌, Metered}
use Rattle.work.specs.Through.{through}
use Rattle.planar.specs.declared.Planar.{Planar}
use Rattle.descent.specs.declared.Status.{Status}
use Rattle.descent.specs.Descent.{Descended, descent}
use Rattle.exposure.specs.declared.request.Bounds.{Bounds}
use Rattle.exposure.specs.declared.request.Request.{Request}
use Rattle.exposure.specs.Request.{admitted_of}
use Rattle.counts.specs.Rows.{evaluate}
use Rattle.counts.specs.Objective.{in_full, refused_of}
use Rattle.plane.specs.Plane.{Spot, Course, norm_of, projected_of, plane_of}
use Rattle.counts_fit.specs.declared.report.Fit.{Fit}
use Rattle.counts.specs.declared.sum.Refused.{Refused}

-- ---- the request in the plane of the logarithms

abbrev pub low_of : Request → Spot
low_of r = record { x = log_of r.shape.low; y = log_of r.rate.low }

abbrev pub high_of : Request → Spot
high_of r = record { x = log_of r.shape.high; y = log_of r.rate.high }

abbrev pub start_of : Request → Spot
start_of r = record { x = log_of r.shape.start; y = log_of r.rate.start }

abbrev pub plane_for : Request → Course
plane_for r = record { low = low_of r; high = high_of r; tolerance = r.tolerance; most = r.evaluations.0; turns = r.iterations.0 }

abbrev pub value_at : List ℕ → List Float → Spot → Work Float Float Planar
value_at cs es s = evaluate s.x s.y cs es

-- ---- the report

pub record Report : Type 0 where
  pub status : Status
  pub shape : Float
  pub rate : Float
  pub nll : Float
  pub norm : Float
  pub evaluations : ℕ
  pub iterations : ℕ
  pub rows : ℕ
  pub active : List Bool

-- the exponential of a coordinate, clamped to the bounds
unfoldable pub natural_of : Float → Bounds → Float
natural_of x r = clamp_of (exp_of x) r.low r.high

unfoldable pub on_bound_of : Float → Bounds → Bool
on_bound_of x r = eq x (log_of r.low) || eq x (log_of r.high)

abbrev pub report_of : Request → ℕ → Descended Spot Planar → Report
report_of r n d =
    record {
      status = d.status;
      shape = natural_of d.x.x r.shape;
      rate = natural_of d.x.y r.rate;
      nll = d.v.nll;
      norm = norm_of (projected_of d.x d.v (low_of r) (high_of r));
      evaluations = d.evaluations;
      iterations = d.iterations;
      rows = n;
      active = on_bound_of d.x.x r.shape ∷ on_bound_of d.x.y r.rate ∷ [];
    }

-- The fit as one computation: each pass of each objective call is asked for here.
unfoldable pub fit : Request → List ℕ → List Float → Work Float Float Report
fit r cs es =
    cond (admitted_of r cs es)
    (through (λ q. value_at cs es q.at) (descent (plane_of (plane_for r)) (start_of r)) >>= λ d. ret (report_of r (length cs) d))
    (stop invalid)

-- ---- the code's answers

abbrev pub to_fit : ℕ → Report → Fit
to_fit n p =
    record {
      status = p.status;
      shape = p.shape;
      rate = p.rate;
      nll = p.nll;
      norm = p.norm;
      evaluations = record { 0 = p.evaluations };
      iterations = record { 0 = p.iterations };
      passes = record { 0 = n };
      rows = p.rows;
      active = p.active;
    }

-- what a run with its count comes to
abbrev pub fit_at : Ended Report → ℕ → Result Fit Refused
fit_at (done p) n = Ok (to_fit n p)
fit_at (stopped r) n = Err (refused_of (refusal_of r) n)
fit_at short n = Err (refused_of WorkBudget n)

abbrev pub fit_by : Metered Report → Result Fit Refused
fit_by m = fit_at m.ended m.used

unfoldable pub fit_of : Request → List ℕ → List Float → Result Fit Refused
fit_of r cs es = fit_by (in_full (fit r cs es))

-- the count, of an answer or a refusal
abbrev pub passes_in : Result Fit Refused → ℕ
passes_in (Ok f) = f.passes.0
passes_in (Err e) = e.passes.0
