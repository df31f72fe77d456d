-- What a host is shown of a fit is the definition's: the trial of a number, what stopped the fit, and the litter that was refused. A trial that was shown as taken by
-- the rounding rule is one of the fit's trials: what is claimed of these is claimed of it.
use Rattle.std.specs.Prelude.{◌≡◌, Bool, true, false, cond, ◌&&◌, List, [], ◌∷◌, ℕ, ◌+◌, ◌≤◌, leb, ltb, length, Float, None}
use Rattle.std.proofs.Math.Path.{refl, sym, ap, fun_ext}
use Rattle.std.proofs.Common.{◌∙◌, arith, leb-true, ltb-false, le-ltb}
use Rattle.work.specs.Impossible.{impossible}
use Rattle.work.specs.Ended.{Ended, done, stopped, short}
use Rattle.work.specs.Work.{Work, metered}
use Rattle.work.specs.Given.{of_metered, anything}
use Rattle.work.specs.Through.{through, Driven, driven, driven_is, counted, answered}
use Rattle.work.specs.Metered.{split}
use Rattle.legendre.specs.Legendre.{legendre_of}
use Rattle.posterior.specs.declared.integrand.Point.{Point}
use Rattle.posterior.specs.Integrand.{Eval, at}
use Rattle.value.specs.declared.Totals.{Totals}
use Rattle.objective.specs.Named.{Litter, share_for, asked, numbered, asked_is}
use Rattle.descent.specs.declared.Trial.{Trial}
use Rattle.descent.specs.Descent.{Asked, Descended, descent}
use Rattle.descent.specs.declared.Trial.TheVariants.{ByRounding}
use Rattle.descent.specs.Claims.{Among, newest, older, Rounded}
use Rattle.request.specs.declared.Request.{Request}
use Rattle.request.specs.Request.{admitted_of, valid_limit, start_of}
use Rattle.trial.specs.Watch.{trial_at}
use Rattle.stepper.specs.Machine.{problem_of}
use Rattle.course.specs.Course.{trial_in, trials_in}
use Rattle.course.specs.Nested.{nested}
use Rattle.drive.specs.Drive.{value_at, asked_descent, refused_litter}
use Rattle.why.specs.Why.{Why, made, refused_in, why_in, why_of, why_is, test_of, stop_in, stop_of, stop_is}
use Rattle.why.specs.Stopped.{StoppedBy, stopped_by}
use Rattle.fit.specs.Fit.{plan_of, whole_of, why_for}
use Rattle.fit.specs.Driven.{descent_of, trials_of, litter_of, whole_is}
use Rattle.fit.specs.Claims.{Visited, fit_rounding_step}

among_at : (n : ℕ) (ts : List Trial) → 1 ≤ n → n ≤ length ts → Among (trial_at n ts) ts
unfolding trial_at
among_at n [] h k = absurd (omega arith)
among_at n (t ∷ ts) h k = split (ltb (length ts) n) (λ b. rw b (newest refl)) (λ b. rw b (older (among_at n ts h (ltb-false (length ts) n b))))

same_trial : (s t : Trial) (ts : List Trial) → made s ≡ made t → Among s ts → Among t ts
same_trial s t ts e m = let q : s ≡ t = cc in rw q at m

not_made : (e : Ended (Descended (List Float) Totals)) (b : Bool) (t : Trial) → refused_in e b ≡ made t → {Z : Type 0} → Z
not_made (done d) b t h = impossible (cc)
not_made (stopped r) true t h = impossible (cc)
not_made (stopped r) false t h = impossible (cc)
not_made short true t h = impossible (cc)
not_made short false t h = impossible (cc)

made_among : (n : ℕ) (ts : List Trial) (e : Ended (Descended (List Float) Totals)) (b : Bool) (t : Trial) → 1 ≤ n → cond (leb n (length ts)) (made (trial_at n ts)) (refused_in e b) ≡ made t → Among t ts
made_among n ts e b t h g =
    split (leb n (length ts))
    (λ c. same_trial (trial_at n ts) t ts (rw c at g) (among_at n ts h (leb-true n (length ts) c)))
    (λ c. not_made e b t (rw c at g))

-- ---- what is shown is the definition's
module _ (r : Request) (ls : List ℕ) where
  -- the trial of a number, 0 among them
  pub whole_why : (n : ℕ) → why_in (whole_of r ls n) ≡ why_of n (descent_of r ls)
  whole_why n = ap (λ c. why_in c) (whole_is r ls n) ∙ why_is n (litter_of r ls) (descent_of r ls)

  -- what stopped the fit, whichever trial is watched
  pub whole_stop : (n : ℕ) → stop_in (whole_of r ls n) ≡ stop_of (descent_of r ls) (litter_of r ls)
  whole_stop n = ap (λ c. stop_in c) (whole_is r ls n) ∙ stop_is n (descent_of r ls) (litter_of r ls)

  -- the test that is named is the one by which the definition took that branch
  pub fit_stopped_by : (d : Descended (List Float) Totals) → (descent_of r ls).ended ≡ done d → StoppedBy (problem_of (plan_of r)) d (test_of d)
  unfolding descent_of
  fit_stopped_by d e =
      let p = problem_of (plan_of r) in
      let ev : Asked (List Float) → Work Eval Point Totals = λ q. value_at legendre_of ls q.at in
      of_metered {G = λ q v. Unit {0}} at (λ q. tt) r.quadrature.0 0 d (answered ev (λ q. anything (λ v. tt) (ev q)) (stopped_by p (start_of r)))
      (ap (λ m. m.ended) (driven_is at ev r.quadrature.0 0 (descent p (start_of r))) ∙ e)

  -- The fit as one computation that asks for the litters' shares: its refused question names the litter.
  unfoldable pub by_litters : Driven Litter (Descended (List Float) Totals)
  by_litters = driven at (share_for legendre_of ls) r.quadrature.0 0 (asked_descent ls (plan_of r) (start_of r))

  pub litter_is : litter_of r ls ≡ numbered by_litters.asked
  unfolding litter_of refused_litter by_litters
  litter_is = refl

  asked_values : ◌≡◌ {A = Asked (List Float) → Work Eval Point Totals} (λ q. through (share_for legendre_of ls) (asked q.at ls)) (λ q. value_at legendre_of ls q.at)
  asked_values = fun_ext (λ q. sym (asked_is legendre_of q.at ls))

  one_fit : through (share_for legendre_of ls) (asked_descent ls (plan_of r) (start_of r)) ≡ through (λ q. value_at legendre_of ls q.at) (descent (problem_of (plan_of r)) (start_of r))
  unfolding asked_descent
  one_fit = nested (share_for legendre_of ls) (λ (q : Asked (List Float)). asked q.at ls) (descent (problem_of (plan_of r)) (start_of r)) ∙ ap (λ ev. through ev (descent (problem_of (plan_of r)) (start_of r))) asked_values

  -- its ending and its count are the fit's
  pub litters_fit : counted at (share_for legendre_of ls) r.quadrature.0 by_litters ≡ counted at (λ (q : Asked (List Float)). value_at legendre_of ls q.at) r.quadrature.0 (descent_of r ls)
  unfolding by_litters descent_of
  litters_fit =
      sym (driven_is at (share_for legendre_of ls) r.quadrature.0 0 (asked_descent ls (plan_of r) (start_of r)))
      ∙ (ap (λ w. metered at r.quadrature.0 0 w) one_fit ∙ driven_is at (λ q. value_at legendre_of ls q.at) r.quadrature.0 0 (descent (problem_of (plan_of r)) (start_of r)))

module _ (r : Request) (ls : List ℕ) (n : ℕ) (h : 1 ≤ n) where
  shown_why : (w : Why) (v a : Bool) (t : Trial) → cond v (cond a w None) None ≡ made t → w ≡ made t
  shown_why w true true t e = e
  shown_why w true false t e = impossible (cc)
  shown_why w false a t e = impossible (cc)

  watched_among : (t : Trial) → why_for r ls n ≡ made t → Among t (trials_of r ls)
  unfolding why_for trials_of
  watched_among t e =
      let d = descent_of r ls in
      let ts = trials_in d.ended d.asked in
      let k = sym (whole_why r ls n) ∙ shown_why (why_in (whole_of r ls n)) (valid_limit r.quadrature.0) (admitted_of r ls) t e in
      made_among n ts d.ended (leb n (length ts + 1) && trial_in d.asked) t h (rw (le-ltb n 1 h) at k)

  pub watched_rounding_step : (a : Float) → why_for r ls n ≡ made (ByRounding a) → Rounded (problem_of (plan_of r)) (Visited r ls) a
  watched_rounding_step a e = fit_rounding_step r ls a (watched_among (ByRounding a) e)
