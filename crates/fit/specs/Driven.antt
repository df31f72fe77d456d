-- An answered fit is the report of where its descent ended. The trials of that descent, and the points at which it had the objective evaluated.
use Rattle.std.specs.Prelude.{◌≡◌, Bool, true, false, List, ℕ, Float, Option, Ok, Err}
use Rattle.std.proofs.Math.Path.{refl, ap, sym}
use Rattle.std.proofs.Common.{◌∙◌}
use Rattle.work.specs.Impossible.{impossible}
use Rattle.work.specs.declared.Refusal.TheVariants.{InvalidInput}
use Rattle.work.specs.Ended.{Ended, done, stopped, short}
use Rattle.work.specs.Work.{Work, ret, metered}
use Rattle.work.specs.Metered.{split, after, metered_bind}
use Rattle.work.specs.Through.{Open, Driven, through, driven, driven_is}
use Rattle.legendre.specs.Legendre.{legendre_of}
use Rattle.posterior.specs.declared.integrand.Point.{Point}
use Rattle.posterior.specs.Integrand.{Eval, at}
use Rattle.value.specs.declared.Totals.{Totals}
use Rattle.litters.specs.Litters.{count_of}
use Rattle.descent.specs.declared.Trial.{Trial}
use Rattle.descent.specs.Descent.{Asked, Descended, descent}
use Rattle.descent.specs.Points.{Place, points_in}
use Rattle.request.specs.declared.Request.{Request}
use Rattle.request.specs.Request.{admitted_of, valid_limit, start_of}
use Rattle.trial.specs.declared.watch.Watch.{Watch}
use Rattle.stepper.specs.Machine.{problem_of}
use Rattle.course.specs.Course.{trials_in, ended_at, shown}
use Rattle.course.specs.Drives.{course_of}
use Rattle.drive.specs.Drive.{value_at, refused_litter, run_of}
use Rattle.fit.specs.declared.report.Fit.{Fit}
use Rattle.fit.specs.declared.report.Refused.{Refused}
use Rattle.fit.specs.Fit.{Report, plan_of, report_of, fit, to_fit, refused_of, fit_by, whole_of, reported_of, limited_fit, fit_of}

-- the descent under the request's limit, as code drives it
unfoldable pub descent_of : Request → List ℕ → Driven (Asked (List Float)) (Descended (List Float) Totals)
descent_of r ls = driven at (λ q. value_at legendre_of ls q.at) r.quadrature.0 0 (descent (problem_of (plan_of r)) (start_of r))

-- its trials before the end, the newest first: what `fit_watched` shows one of
unfoldable pub trials_of : Request → List ℕ → List Trial
trials_of r ls = trials_in (descent_of r ls).ended (descent_of r ls).asked

-- the points at which the objective was evaluated, in their order, each with the value that the objective's definition has there
unfoldable pub points_of : Request → List ℕ → List (Place (List Float) Totals)
points_of r ls = points_in at (value_at legendre_of ls) (descent (problem_of (plan_of r)) (start_of r))

-- the litter at which it is refused, counted from 1, where it is
unfoldable pub litter_of : Request → List ℕ → Option ℕ
litter_of r ls = refused_litter legendre_of ls (plan_of r) r.quadrature.0 (start_of r)

-- where d stands for what an answered descent came to
pub record Ends (r : Request) (ls : List ℕ) (f : Fit) (e : Ended (Descended (List Float) Totals)) : Type 0 where
  pub d : Descended (List Float) Totals
  pub used : ℕ
  pub ended : e ≡ done d
  pub is : f ≡ to_fit used (report_of r (count_of ls) d.status d.x d.v d.evaluations d.iterations)

module _ (r : Request) (ls : List ℕ) where
  abbrev Reached : Type 0
  Reached = Ended (Descended (List Float) Totals)

  abbrev reports : Descended (List Float) Totals → Work Eval Point Report
  reports d = ret (report_of r (count_of ls) d.status d.x d.v d.evaluations d.iterations)

  -- the descent as one computation
  abbrev one_descent : Work Eval Point (Descended (List Float) Totals)
  one_descent = through (λ q. value_at legendre_of ls q.at) (descent (problem_of (plan_of r)) (start_of r))

  by_end : (part : Option ℕ) (w : Watch) (t : Bool) (e : Reached) (u : ℕ) → fit_by (after e u (λ d n. metered at r.quadrature.0 n (reports d))) ≡ reported_of r (count_of ls) (ended_at u w t part e)
  unfolding metered
  by_end part w t (done d) u = refl
  by_end part w t (stopped i) u = refl
  by_end part w t short u = refl

  -- what the descent comes to, whichever trial is watched
  pub whole_is : (n : ℕ) → whole_of r ls n ≡ shown n (litter_of r ls) (descent_of r ls)
  unfolding whole_of run_of course_of descent_of litter_of
  whole_is n = refl

  descent_is : metered at r.quadrature.0 0 one_descent ≡ record { ended = (descent_of r ls).ended; used = (descent_of r ls).used }
  unfolding descent_of
  descent_is = driven_is at (λ (q : Asked (List Float)). value_at legendre_of ls q.at) r.quadrature.0 0 (descent (problem_of (plan_of r)) (start_of r))

  -- ---- the fit of a request that passes the checks, and of one that does not
  pub admitted_is : (n : ℕ) → admitted_of r ls ≡ true → limited_fit r.quadrature.0 r ls ≡ reported_of r (count_of ls) (whole_of r ls n)
  unfolding limited_fit fit
  admitted_is n h =
      let l = r.quadrature.0 in
      let d = descent_of r ls in
      let m = metered_bind at l 0 one_descent reports ∙ ap (λ m. after m.ended m.used (λ d n. metered at l n (reports d))) descent_is in
      rw h (ap (λ m. fit_by m) m ∙ by_end (litter_of r ls) _ _ d.ended d.used ∙ ap (λ c. reported_of r (count_of ls) c) (sym (whole_is n)))

  pub not_admitted_is : admitted_of r ls ≡ false → limited_fit r.quadrature.0 r ls ≡ Err (refused_of InvalidInput 0)
  unfolding limited_fit fit metered
  not_admitted_is h = rw h

  by_ending : (f : Fit) (e : Reached) (u : ℕ) (q : Open (Asked (List Float))) → reported_of r (count_of ls) (shown 0 (litter_of r ls) (record { ended = e; used = u; asked = q })) ≡ Ok f → Ends r ls f e
  by_ending f (done d) u q h = record { d = d; used = u; ended = refl; is = cc }
  by_ending f (stopped i) u q h = impossible (cc)
  by_ending f short u q h = impossible (cc)

  fit_is : valid_limit r.quadrature.0 ≡ true → admitted_of r ls ≡ true → fit_of r ls ≡ reported_of r (count_of ls) (shown 0 (litter_of r ls) (descent_of r ls))
  unfolding fit_of
  fit_is t a = rw t (admitted_is 0 a ∙ ap (λ c. reported_of r (count_of ls) c) (whole_is 0))

  refused : (e : Refused) (f : Fit) → fit_of r ls ≡ Err e → fit_of r ls ≡ Ok f → {Z : Type 0} → Z
  refused e f h k = impossible (cc)

  pub ends : (f : Fit) → fit_of r ls ≡ Ok f → Ends r ls f (descent_of r ls).ended
  ends f k =
      split (valid_limit r.quadrature.0)
      (λ t.
      split (admitted_of r ls)
      (λ a. by_ending f (descent_of r ls).ended (descent_of r ls).used (descent_of r ls).asked (sym (fit_is t a) ∙ k))
      (λ a. refused (refused_of InvalidInput 0) f (unfold fit_of in rw t (not_admitted_is a)) k))
      (λ t. refused (refused_of InvalidInput 0) f (unfold fit_of in rw t) k)
