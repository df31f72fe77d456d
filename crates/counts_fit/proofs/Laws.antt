-- The laws that the proofs of the fit go by: f is what the code answers.
use Rattle.std.proofs.Common.{◌≡◌, sym, ◌∙◌, Bool, true, false, List, ℕ, ◌*◌, ◌≤◌, length, Float, Result}
use Rattle.std.specs.Prelude.{Err}
use Rattle.work.specs.declared.Refusal.TheVariants.{InvalidInput}
use Rattle.exposure.specs.declared.request.Request.{Request}
use Rattle.exposure.specs.Rows.{events_of}
use Rattle.exposure.specs.Request.{admitted_of}
use Rattle.exposure.specs.Passed.{admitted_passed}
use Rattle.stepper.specs.declared.Plan.{Plan}
use Rattle.plane.specs.Among.{placed, plan_of}
use Rattle.course.specs.declared.Course.{Course}
use Rattle.counts_fit.specs.declared.report.Fit.{Fit}
use Rattle.counts.specs.declared.sum.Refused.{Refused}
use Rattle.counts_fit.specs.Fit.{start_of, plane_for, fit_of}
use Rattle.counts.specs.Objective.{refused_of}
use Rattle.counts_fit.specs.Among.{run_of, reported_of}
use Rattle.counts_fit.specs.Whole.{within_enough, admitted_is, unfit_refused}

module _ (r : Request) (cs : List ℕ) (es : List Float) where
  -- ---- what passed the checks
  module _ (h : admitted_of r cs es ≡ true) (p : Plan) (e : p ≡ plan_of (plane_for r)) where
    pub some : 1 ≤ p.most.0
    some = rw e (admitted_passed r cs es h).controls.some

    pub within : p.most.0 * events_of cs ≤ 20000000
    within = rw e (within_enough r cs es h)

    pub gives : (x : List Float) (d : Course) (f : Result Fit Refused) → x ≡ placed (start_of r) → d ≡ run_of cs es p x → f ≡ reported_of r (length cs) d → f ≡ fit_of r cs es
    gives x d f ex ed ef = rw (← admitted_is r cs es h, ef, ed, ex, e)

  -- ---- the checks
  pub refuses : (t : Bool) → t ≡ admitted_of r cs es → t ≡ false → (e : Refused) → e ≡ refused_of InvalidInput 0 → ◌≡◌ {A = Result Fit Refused} (Err e) (fit_of r cs es)
  refuses t g h e u = rw u (sym (unfit_refused r cs es (sym g ∙ h)))
