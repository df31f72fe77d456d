-- How a fit stops: crates/descent's rule, of what the code returns.
use Rattle.std.specs.Prelude.{◌≡◌, List, ℕ, Float, Ok}
use Rattle.std.proofs.Common.{sym, subst}
use Rattle.work.specs.Given.{Always, holds, refuses, tested, passed}
use Rattle.descent.specs.Stopping.{ByRule, by_rule, stops}
use Rattle.exposure.specs.declared.request.Request.{Request}
use Rattle.exposure.specs.Request.{admitted_of}
use Rattle.exposure.specs.Passed.{admitted_passed}
use Rattle.plane.specs.Plane.{plane_of}
use Rattle.counts_fit.specs.declared.report.Fit.{Fit}
use Rattle.counts_fit.specs.Fit.{Report, start_of, plane_for, value_at, fit, fit_of}
use Rattle.counts_fit.specs.Answers.{answered}

abbrev pub Stopped : Request → Report → Type 0
Stopped r p = ByRule p.status p.norm r.tolerance p.evaluations r.evaluations.0 p.iterations r.iterations.0

module _ (r : Request) (cs : List ℕ) (es : List Float) where
  pub fit_stops : Always (Stopped r) (fit r cs es)
  unfolding fit
  fit_stops =
      tested (admitted_of r cs es)
      (λ t. passed (stops (plane_of (plane_for r)) (λ q. value_at cs es q.at) (admitted_passed r cs es t).controls.some (start_of r)) (λ d s. holds (by_rule _ _ _ _ _ _ _ s.status s.within_evaluations s.within_iterations)))
      (λ t. refuses)

  -- Every answered fit: Converged exactly if its norm is at most the tolerance, and so on; both counts within their limits.
  pub answered_stops : (f : Fit) → fit_of r cs es ≡ Ok f → ByRule f.status f.norm r.tolerance f.evaluations.0 r.evaluations.0 f.iterations.0 r.iterations.0
  answered_stops f h =
      let a = answered r cs es (λ t. tt) fit_stops f h in
      subst (λ g. ByRule g.status g.norm r.tolerance g.evaluations.0 r.evaluations.0 g.iterations.0 r.iterations.0) (sym a.is) a.has
