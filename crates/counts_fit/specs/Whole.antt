-- The fit that code drives among four coordinates is the fit of the definition, in two, and without a limit.
use Rattle.std.specs.Prelude.{◌≡◌, refl, true, false, List, ℕ, ◌*◌, ◌≤◌, length, Float, None, Ok, Err}
use Rattle.std.proofs.Math.Path.{ap, sym}
use Rattle.std.proofs.Common.{◌∙◌}
use Rattle.std.proofs.Math.Nat.{add-zero}
use native.Mathlib.Omega.{arith}
use Rattle.elementary.specs.Log.{log_of}
use Rattle.work.specs.declared.Refusal.TheVariants.{InvalidInput}
use Rattle.work.specs.Ended.{Ended, done, stopped, short}
use Rattle.work.specs.Work.{Work, ret, ◌>>=◌, metered, run, listed}
use Rattle.work.specs.Metered.{after, metered_bind}
use Rattle.work.specs.AtMost.{AtMost, rets, stops, either, both}
use Rattle.work.specs.Given.{Always, of_metered}
use Rattle.work.specs.Through.{through, Open, Driven, driven, driven_is}
use Rattle.planar.specs.declared.Planar.{Planar}
use Rattle.planar.specs.Planar.{widened_of}
use Rattle.value.specs.declared.Totals.{Totals}
use Rattle.descent.specs.Descent.{Asked, Descended, descent}
use Rattle.descent.specs.Stopping.{reports_evaluated}
use Rattle.exposure.specs.declared.request.Request.{Request}
use Rattle.exposure.specs.Rows.{events_of}
use Rattle.exposure.specs.Request.{product_of, admitted_of}
use Rattle.exposure.specs.Passed.{admitted_passed}
use Rattle.counts.specs.Objective.{in_full, refused_of}
use Rattle.counts.specs.Counted.{evaluate_most, whole_is}
use Rattle.stepper.specs.Machine.{problem_of}
use Rattle.plane.specs.Plane.{Spot, plane_of}
use Rattle.plane.specs.Among.{placed, Good, plan_of, alike}
use Rattle.plane.specs.Mirror.{across, end_across, metered_across, descents, mirrored}
use Rattle.plane.specs.Spends.{asks_most, through_most}
use Rattle.course.specs.Course.{shown}
use Rattle.course.specs.Drives.{course_of}
use Rattle.counts_fit.specs.Fit.{start_of, plane_for, value_at, report_of, fit, to_fit, fit_by, fit_of}
use Rattle.counts_fit.specs.Among.{value_among, enough, run_of, reported_of}
use Rattle.counts_fit.specs.Valued.{same_across, good_values}

-- what an answered descent reports, its value good
report_across : (r : Request) (n u : ℕ) (d : Descended Spot Planar) (q : Open (Asked (List Float))) → Good d.v → reported_of r n (shown 0 None (record { ended = done (across placed widened_of d); used = u; asked = q })) ≡ Ok (to_fit u (report_of r n d))
report_across r n u d q g = rw ((alike (plane_for r)).norm d.x d.v g)

module _ (r : Request) (cs : List ℕ) (es : List Float) where
  abbrev pub planar : Work Float Float (Descended Spot Planar)
  planar = through (λ q. value_at cs es q.at) (descent (plane_of (plane_for r)) (start_of r))

  abbrev among : Work Float Float (Descended (List Float) Totals)
  among = through (λ q. value_among cs es q.at) (descent (problem_of (plan_of (plane_for r))) (placed (start_of r)))

  abbrev driving : Driven (Asked (List Float)) (Descended (List Float) Totals)
  driving = driven log_of (λ q. value_among cs es q.at) enough 0 (descent (problem_of (plan_of (plane_for r))) (placed (start_of r)))

  mirror : metered log_of enough 0 among ≡ metered_across (across placed widened_of) (metered log_of enough 0 planar)
  mirror =
      mirrored (plane_of (plane_for r)) (problem_of (plan_of (plane_for r))) placed widened_of Good log_of enough (λ q. value_at cs es q.at) (λ q. value_among cs es q.at) (same_across cs es enough) (good_values cs es) (across placed widened_of) 0
      (descents (plane_of (plane_for r)) (problem_of (plan_of (plane_for r))) placed widened_of Good (alike (plane_for r)) (start_of r))

  good_report : Always (λ d. Good d.v) planar
  good_report = reports_evaluated (plane_of (plane_for r)) (λ q. value_at cs es q.at) (λ x v. Good v) (good_values cs es) (start_of r)

  -- ---- how many passes

  pub fit_most : 1 ≤ r.evaluations.0 → AtMost (r.evaluations.0 * events_of cs) (fit r cs es)
  unfolding fit
  fit_most h =
      rw (← add-zero (r.evaluations.0 * events_of cs))
      (either (admitted_of r cs es) (both 0 (through_most (events_of cs) (λ q. value_at cs es q.at) (λ q. evaluate_most q.at.x q.at.y cs es) (asks_most (plane_of (plane_for r)) h (start_of r))) (λ d. rets)) stops)

  pub within_product : r.evaluations.0 * events_of cs ≤ product_of (events_of cs) (length cs) r.evaluations.0
  unfolding product_of
  within_product = omega arith

  pub within_enough : admitted_of r cs es ≡ true → r.evaluations.0 * events_of cs ≤ enough
  within_enough h = omega (arith, within_product, (admitted_passed r cs es h).work)

  -- ---- the whole

  by_ending : (e : Ended (Descended Spot Planar)) (u : ℕ) (e' : Ended (Descended (List Float) Totals)) (u' : ℕ) (q : Open (Asked (List Float))) → ((d : Descended Spot Planar) → e ≡ done d → Good d.v) → e' ≡ end_across (across placed widened_of) e → u' ≡ u → reported_of r (length cs) (shown 0 None (record { ended = e'; used = u'; asked = q })) ≡ fit_by (after e u (λ d n. metered log_of enough n (ret (report_of r (length cs) d))))
  unfolding metered
  by_ending (done d) u e' u' q g h k = rw (h, k) (report_across r (length cs) u d q (g d refl))
  by_ending (stopped i) u e' u' q g h k = rw (h, k)
  by_ending short u e' u' q g h k = rw (h, k)

  fit_is : admitted_of r cs es ≡ true → (planar >>= λ d. ret (report_of r (length cs) d)) ≡ fit r cs es
  unfolding fit
  fit_is h = rw h

  -- an admitted fit is the report of what its descent came to
  pub fit_after : admitted_of r cs es ≡ true → fit_of r cs es ≡ fit_by (after (metered log_of enough 0 planar).ended (metered log_of enough 0 planar).used (λ d n. metered log_of enough n (ret (report_of r (length cs) d))))
  unfolding fit_of
  fit_after h =
      let b = whole_is enough (fit r cs es) (fit_most (admitted_passed r cs es h).controls.some) (within_enough h) in
      ap (λ w. fit_by w) b
      ∙ (ap (λ w. fit_by (metered log_of enough 0 w)) (sym (fit_is h)) ∙ ap (λ w. fit_by w) (metered_bind log_of enough 0 planar (λ d. ret (report_of r (length cs) d))))

  pub admitted_is : admitted_of r cs es ≡ true → reported_of r (length cs) (run_of cs es (plan_of (plane_for r)) (placed (start_of r))) ≡ fit_of r cs es
  unfolding run_of course_of
  admitted_is h =
      let m = metered log_of enough 0 planar in
      let c = sym (driven_is log_of (λ q. value_among cs es q.at) enough 0 (descent (problem_of (plan_of (plane_for r))) (placed (start_of r)))) ∙ mirror in
      by_ending m.ended m.used driving.ended driving.used driving.asked (λ d e. of_metered log_of (λ q. tt) enough 0 d good_report e) (ap (λ w. w.ended) c) (ap (λ w. w.used) c)
      ∙ sym (fit_after h)

  -- A request or rows that fail any check: InvalidInput, with count 0.
  pub unfit_refused : admitted_of r cs es ≡ false → fit_of r cs es ≡ Err (refused_of InvalidInput 0)
  unfolding fit_of fit in_full run listed
  unfit_refused h = rw h
