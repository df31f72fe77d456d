-- `fit_probit_normal_binomial` of the source: a request's checks, the descent from its start, and the report.
use Rattle.std.specs.Prelude.{Bool, cond, ◌||◌, List, [], ◌∷◌, ℕ, get_or, Float, None, Result, Ok, Err}
use Rattle.std.specs.Float.{nan}
use Rattle.std.specs.Float.Ieee.{eq}
use Rattle.num.specs.Helpers.{clamp_of}
use Rattle.root.specs.Steps.{sqrt_of}
use Rattle.work.specs.declared.Refusal.{Refusal}
use Rattle.work.specs.declared.Refusal.TheVariants.{InvalidInput, WorkBudget}
use Rattle.work.specs.Answer.{refusal_of}
use Rattle.work.specs.Ended.{invalid, Ended, done, stopped, short}
use Rattle.work.specs.Work.{Work, ret, stop, ◌>>=◌, Metered, metered}
use Rattle.legendre.specs.declared.Pair.{Pair}
use Rattle.legendre.specs.Legendre.{legendre_of}
use Rattle.posterior.specs.declared.integrand.Point.{Point}
use Rattle.posterior.specs.Integrand.{Eval, at}
use Rattle.descent.specs.declared.Status.{Status}
use Rattle.work.specs.Through.{through}
use Rattle.descent.specs.Descent.{descent}
use Rattle.value.specs.declared.Totals.{Totals}
use Rattle.litters.specs.Litters.{count_of}
use Rattle.request.specs.declared.Request.{Request}
use Rattle.stepper.specs.declared.Plan.{Plan}
use Rattle.step.specs.declared.Region.{Region}
use Rattle.course.specs.declared.Stopped.{Stopped}
use Rattle.course.specs.declared.Refused as course
use Rattle.course.specs.declared.Course.{Course}
use Rattle.fit.specs.declared.report.Fit.{Fit}
use Rattle.fit.specs.declared.report.Refused.{Refused}
use Rattle.fit.specs.declared.report.Seen.{Seen}
use Rattle.request.specs.Request.{admitted_of, valid_limit, start_of, low_of, high_of}
use Rattle.trial.specs.Judged.{norm_at_of}
use Rattle.stepper.specs.Machine.{problem_of}
use Rattle.drive.specs.Drive.{value_at, run_of}
use Rattle.why.specs.declared.Test.{Test}
use Rattle.why.specs.declared.Refused as why
use Rattle.why.specs.Why.{Why, refusal_at, why_in, stop_in}

abbrev pub region_of : Request → Region
region_of r = record { lo = low_of r; hi = high_of r }

abbrev pub plan_of : Request → Plan
plan_of r = record { region = region_of r; tolerance = r.tolerance; most = r.evaluations; turns = r.iterations }

pub record Report : Type 0 where
  pub status : Status
  pub means : List Float
  pub sds : List Float
  pub variances : List Float
  pub nll : Float
  pub norm : Float
  pub gradient : List Float
  pub hessian : List Float
  pub evaluations : ℕ
  pub iterations : ℕ
  pub litters : ℕ
  pub active : List Bool

-- the reported SD is the clamped root of the variance
abbrev pub sd_of : Request → List Float → ℕ → ℕ → Float
sd_of r x i j = clamp_of (sqrt_of (get_or x j nan)) (get_or r.sd.low i nan) (get_or r.sd.high i nan)

-- a coordinate on one of its bounds
abbrev pub on_bound_of : Float → Float → Float → Bool
on_bound_of x lo hi = eq x lo || eq x hi

abbrev active_at : List Float → List Float → List Float → ℕ → Bool
active_at x lo hi i = on_bound_of (get_or x i nan) (get_or lo i nan) (get_or hi i nan)

unfoldable pub active_of : List Float → List Float → List Float → List Bool
active_of x lo hi = let at = active_at x lo hi in at 0 ∷ at 1 ∷ at 2 ∷ at 3 ∷ []

unfoldable pub sds_of : Request → List Float → List Float
sds_of r x = sd_of r x 0 2 ∷ sd_of r x 1 3 ∷ []

abbrev pub report_of : Request → ℕ → Status → List Float → Totals → ℕ → ℕ → Report
report_of r n status x v e k =
    record {
      status = status;
      means = get_or x 0 nan ∷ get_or x 1 nan ∷ [];
      sds = sds_of r x;
      variances = get_or x 2 nan ∷ get_or x 3 nan ∷ [];
      nll = v.nll;
      norm = norm_at_of (low_of r) (high_of r) x v;
      gradient = v.gradient;
      hessian = v.hessian;
      evaluations = e;
      iterations = k;
      litters = n;
      active = active_of x (low_of r) (high_of r);
    }

-- The fit as one computation: each evaluation of each objective call is asked for here. It reads every number of the request but the work limit.
unfoldable pub fit : List Pair → Request → List ℕ → Work Eval Point Report
fit rule r ls =
    cond (admitted_of r ls)
    (through (λ q. value_at rule ls q.at) (descent (problem_of (plan_of r)) (start_of r)) >>= λ d. ret (report_of r (count_of ls) d.status d.x d.v d.evaluations d.iterations))
    (stop invalid)

-- ---- the code's answers

abbrev pub to_fit : ℕ → Report → Fit
to_fit n p =
    record {
      status = p.status;
      means = p.means;
      sds = p.sds;
      variances = p.variances;
      nll = p.nll;
      norm = p.norm;
      gradient = p.gradient;
      hessian = p.hessian;
      evaluations = record { 0 = p.evaluations };
      iterations = record { 0 = p.iterations };
      quadrature = record { 0 = n };
      litters = p.litters;
      active = p.active;
    }

-- a refusal with its count
abbrev pub refused_of : Refusal → ℕ → Refused
refused_of r used = record { refusal = r; quadrature = record { 0 = used } }

-- what a run with its count comes to
abbrev pub fit_at : Ended Report → ℕ → Result Fit Refused
fit_at (done p) n = Ok (to_fit n p)
fit_at (stopped r) n = Err (refused_of (refusal_of r) n)
fit_at short n = Err (refused_of WorkBudget n)

abbrev pub fit_by : Metered Report → Result Fit Refused
fit_by m = fit_at m.ended m.used

-- the descent under the request's limit, with the n-th trial watched
unfoldable pub whole_of : Request → List ℕ → ℕ → Course
whole_of r ls n = run_of legendre_of ls (plan_of r) r.quadrature.0 n (start_of r)

abbrev pub report_from : Request → ℕ → ℕ → Stopped → Fit
report_from r n used d = to_fit used (report_of r n d.status d.x d.v d.evaluations.0 d.iterations.0)

abbrev pub end_reported : Request → ℕ → ℕ → Result Stopped course.Refused → Result Fit Refused
end_reported r n used (Ok d) = Ok (report_from r n used d)
end_reported r n used (Err e) = Err (refused_of e.refusal used)

abbrev pub reported_of : Request → ℕ → Course → Result Fit Refused
reported_of r n d = end_reported r n d.used d.end

unfoldable pub limited_fit : ℕ → Request → List ℕ → Result Fit Refused
limited_fit limit r ls = fit_by (metered at limit 0 (fit legendre_of r ls))

-- a work limit that is out of range is refused as every other fault is
unfoldable pub fit_of : Request → List ℕ → Result Fit Refused
fit_of r ls = cond (valid_limit r.quadrature.0) (limited_fit r.quadrature.0 r ls) (Err (refused_of InvalidInput 0))

-- ---- with a trial watched: the fit is the same, whichever it is, and so is what stopped it

unfoldable pub fit_admitted_of : Request → List ℕ → ℕ → Seen
fit_admitted_of r ls n = record { fit = reported_of r (count_of ls) (whole_of r ls n); why = why_in (whole_of r ls n); stop = stop_in (whole_of r ls n) }

-- of a request that fails a check
abbrev pub unfit_stop : Result Test why.Refused
unfit_stop = refusal_at InvalidInput None

abbrev pub unfit_of : Seen
unfit_of = record { fit = Err (refused_of InvalidInput 0); why = None; stop = unfit_stop }

unfoldable pub why_for : Request → List ℕ → ℕ → Why
why_for r ls n = cond (valid_limit r.quadrature.0) (cond (admitted_of r ls) (why_in (whole_of r ls n)) None) None

unfoldable pub stop_for : Request → List ℕ → ℕ → Result Test why.Refused
stop_for r ls n = cond (valid_limit r.quadrature.0) (cond (admitted_of r ls) (stop_in (whole_of r ls n)) unfit_stop) unfit_stop

unfoldable pub watched_of : Request → List ℕ → ℕ → Seen
watched_of r ls n = record { fit = fit_of r ls; why = why_for r ls n; stop = stop_for r ls n }
