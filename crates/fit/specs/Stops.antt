-- How a fit stops: crates/descent's rule, of what the code returns.
use Rattle.std.specs.Prelude.{◌≡◌, Bool, true, ◌&&◌, List, ℕ, ◌≤◌, leb, Ok}
use Rattle.std.proofs.Common.{sym, subst, arith, leb-true}
use Rattle.std.specs.Float.Ieee.{lt}
use Rattle.num.specs.F64.{zero·}
use Rattle.num.specs.Helpers.{is_finite_of}
use Rattle.work.specs.Metered.{split}
use Rattle.work.specs.Given.{Always, holds, refuses, tested, passed}
use Rattle.legendre.specs.Legendre.{legendre_of}
use Rattle.descent.specs.Stopping.{ByRule, by_rule, stops}
use Rattle.litters.specs.Valid.{valid_litters_of}
use Rattle.request.specs.declared.Request.{Request}
use Rattle.request.specs.Request.{admitted_of, valid_boxes_of, valid_controls_of, up_to_of, two_each_of, start_of}
use Rattle.stepper.specs.Machine.{problem_of}
use Rattle.drive.specs.Drive.{value_at}
use Rattle.fit.specs.declared.report.Fit.{Fit}
use Rattle.fit.specs.Fit.{Report, plan_of, fit, fit_of}
use Rattle.fit.specs.Answers.{answered}

least : (n : ℕ) (boxes most rest litters : Bool) → (boxes && (((leb 1 n && most) && rest) && litters)) ≡ true → 1 ≤ n
least n boxes most rest litters h =
    split (leb 1 n) (λ b. leb-true 1 n b)
    (λ b. split boxes (λ a. let e = rw (a, b) at h in let z : ◌≡◌ {A = ℕ} 0 1 = cc in absurd (omega arith)) (λ a. let e = rw a at h in let z : ◌≡◌ {A = ℕ} 0 1 = cc in absurd (omega arith)))

-- an admitted request may evaluate its start
some : (r : Request) (ls : List ℕ) → admitted_of r ls ≡ true → 1 ≤ r.evaluations.0
unfolding admitted_of valid_controls_of
some r ls t = least r.evaluations.0 (valid_boxes_of r) (leb r.evaluations.0 1000) (up_to_of 1000 r.iterations.0 && (is_finite_of r.tolerance && lt zero· r.tolerance)) (valid_litters_of ls && two_each_of ls) t

abbrev pub Stopped : Request → Report → Type 0
Stopped r p = ByRule p.status p.norm r.tolerance p.evaluations r.evaluations.0 p.iterations r.iterations.0

module _ (r : Request) (ls : List ℕ) where
  pub fit_stops : Always (Stopped r) (fit legendre_of r ls)
  unfolding fit
  fit_stops =
      tested (admitted_of r ls)
      (λ t. passed (stops (problem_of (plan_of r)) (λ q. value_at legendre_of ls q.at) (some r ls t) (start_of r)) (λ d s. holds (by_rule _ _ _ _ _ _ _ s.status s.within_evaluations s.within_iterations)))
      (λ t. refuses)

  -- Every answered fit: Converged exactly if its norm is at most the tolerance, and so on; both counts within their limits.
  pub answered_stops : (f : Fit) → fit_of r ls ≡ Ok f → ByRule f.status f.norm r.tolerance f.evaluations.0 r.evaluations.0 f.iterations.0 r.iterations.0
  answered_stops f h =
      let a = answered r ls (λ e. tt) fit_stops f h in
      subst (λ g. ByRule g.status g.norm r.tolerance g.evaluations.0 r.evaluations.0 g.iterations.0 r.iterations.0) (sym a.is) a.has
