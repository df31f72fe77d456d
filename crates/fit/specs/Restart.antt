-- A fit can be taken up where it stopped: the objective at the reported means and variances, called by itself, is answered, and gives the reported
-- likelihood, gradient and Hessian.
use Rattle.std.specs.Prelude.{◌≡◌, List, [], ◌∷◌, ℕ, length, get_or, Float, Result, Ok}
use Rattle.std.proofs.Math.Path.{refl}
use Rattle.std.proofs.Common.{ap, ◌∙◌}
use Rattle.std.specs.Float.{nan}
use Rattle.work.specs.Ended.{done}
use Rattle.work.specs.Work.{run, listed}
use Rattle.legendre.specs.Legendre.{legendre_of}
use Rattle.posterior.specs.Integrand.{at}
use Rattle.descent.specs.declared.Status.{Status}
use Rattle.value.specs.declared.Totals.{Totals}
use Rattle.objective.specs.declared.sum.Objective.{Objective}
use Rattle.objective.specs.declared.sum.Refused.{Refused}
use Rattle.litters.specs.Litters.{count_of}
use Rattle.objective.specs.Objective.{objective, answered_of, objective_of}
use Rattle.objective.specs.Bound.{objective_in_full}
use Rattle.objective.specs.Coordinates.{point_of, objective_reads}
use Rattle.request.specs.declared.Request.{Request}
use Rattle.request.specs.Request.{low_of, high_of}
use Rattle.step.specs.Step.{project_of}
use Rattle.trial.specs.Judged.{norm_at_of}
use Rattle.fit.specs.declared.report.Fit.{Fit}
use Rattle.fit.specs.Fit.{to_fit, report_of, fit_of}
use Rattle.fit.specs.Evaluated.{fit_evaluated}

-- the point that a fit reports: its means, then its variances
abbrev pub reported_point : Fit → List Float
reported_point f = get_or f.means 0 nan ∷ get_or f.means 1 nan ∷ get_or f.variances 0 nan ∷ get_or f.variances 1 nan ∷ []

-- an objective that is answered, by o, and gives what the fit f reports; its count is its own, of the evaluations that it lists there
pub record Gives (r : Request) (ls : List ℕ) (f : Fit) (a : Result Objective Refused) : Type 0 where
  pub o : Objective
  pub answered : a ≡ Ok o
  pub nll : o.v.nll ≡ f.nll
  pub gradient : o.v.gradient ≡ f.gradient
  pub hessian : o.v.hessian ≡ f.hessian
  pub norm : norm_at_of (low_of r) (high_of r) (reported_point f) o.v ≡ f.norm
  pub count : o.used.0 ≡ length (listed at (objective legendre_of (reported_point f) ls))

module _ (r : Request) (ls : List ℕ) where
  alone : (x : List Float) (v : Totals) → run at (objective legendre_of x ls) ≡ done v → objective_of (point_of x) ls ≡ Ok (answered_of (length (listed at (objective legendre_of (point_of x) ls))) v)
  alone x v e = rw (objective_in_full, objective_reads, e)

  by_report :
      (f : Fit) (n : ℕ) (s : Status) (x : List Float) (v : Totals) (e k : ℕ) → run at (objective legendre_of x ls) ≡ done v → f ≡ to_fit n (report_of r (count_of ls) s x v e k) →
      Gives r ls f (objective_of (reported_point f) ls)
  unfolding project_of
  by_report f n s x v e k value is = rw (is, alone x v value) (record { o = _; answered = refl; nll = refl; gradient = refl; hessian = refl; norm = refl; count = refl })

  -- Where the fit is answered, the objective at the reported point is, and gives what is reported to the bit.
  pub fit_restarts : (f : Fit) → fit_of r ls ≡ Ok f → Gives r ls f (objective_of (reported_point f) ls)
  fit_restarts f h =
      let a = fit_evaluated r ls f h in
      let e = a.has in
      by_report f a.count a.report.status e.x e.v a.report.evaluations a.report.iterations e.value (a.is ∙ ap (to_fit a.count) e.report)
