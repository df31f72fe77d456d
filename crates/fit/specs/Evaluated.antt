-- What a fit reports was evaluated: the objective's definition, by itself and without a limit, gives the reported likelihood and norm at the reported point.
use Rattle.std.specs.Prelude.{◌≡◌, List, ℕ, Float, Ok}
use Rattle.std.proofs.Math.Path.{refl}
use Rattle.work.specs.Ended.{done}
use Rattle.work.specs.Work.{run}
use Rattle.work.specs.Given.{Truly, holds, refuses, tested, passed, own_answer_lem}
use Rattle.legendre.specs.Legendre.{legendre_of}
use Rattle.posterior.specs.Integrand.{at}
use Rattle.value.specs.declared.Totals.{Totals}
use Rattle.litters.specs.Litters.{count_of}
use Rattle.objective.specs.Objective.{objective}
use Rattle.descent.specs.Stopping.{reports_evaluated}
use Rattle.request.specs.declared.Request.{Request}
use Rattle.request.specs.Request.{admitted_of, start_of}
use Rattle.stepper.specs.Machine.{problem_of}
use Rattle.drive.specs.Drive.{value_at}
use Rattle.fit.specs.declared.report.Fit.{Fit}
use Rattle.fit.specs.Fit.{Report, plan_of, report_of, fit, fit_of}
use Rattle.fit.specs.Answers.{Answers, answered}

-- a report of a point x and the value v that the objective's definition has there
pub record Evaluated (r : Request) (ls : List ℕ) (p : Report) : Type 0 where
  pub x : List Float
  pub v : Totals
  pub value : run at (objective legendre_of x ls) ≡ done v
  pub report : p ≡ report_of r (count_of ls) p.status x v p.evaluations p.iterations

module _ (r : Request) (ls : List ℕ) where
  reports : Truly at (Evaluated r ls) (fit legendre_of r ls)
  unfolding fit
  reports =
      tested (admitted_of r ls)
      (λ t. passed (reports_evaluated (problem_of (plan_of r)) (λ q. value_at legendre_of ls q.at) (λ x v. run at (objective legendre_of x ls) ≡ done v) (λ q. own_answer_lem at (objective legendre_of q.at ls)) (start_of r)) (λ d h. holds (record { x = d.x; v = d.v; value = h; report = refl })))
      (λ t. refuses)

  pub fit_evaluated : (f : Fit) → fit_of r ls ≡ Ok f → Answers (Evaluated r ls) f
  fit_evaluated f h = answered r ls (λ e. refl) reports f h
