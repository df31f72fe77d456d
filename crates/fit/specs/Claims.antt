-- Whether a fit may come out worse than its start: said of what the code returns and of its own list of trials.
use Rattle.std.specs.Prelude.{◌≡◌, true, List, ℕ, T, Float, Result, Ok, Err}
use Rattle.std.proofs.Math.Path.{refl, ap}
use Rattle.std.proofs.Common.{◌∙◌}
use Rattle.std.specs.Float.{binary64}
use Rattle.std.specs.Float.Ieee.{le, fits}
use Rattle.num.specs.Helpers.{is_finite_of}
use Rattle.order.specs.Numbers.{finite_number}
use Rattle.work.specs.Ended.{Ended, done, stopped, short}
use Rattle.work.specs.Work.{run}
use Rattle.work.specs.Given.{of_run}
use Rattle.work.specs.Asks.{answers}
use Rattle.work.specs.Through.{Open, none, refused}
use Rattle.legendre.specs.Legendre.{legendre_of}
use Rattle.posterior.specs.Integrand.{at}
use Rattle.value.specs.declared.Totals.{Totals}
use Rattle.num.specs.F64.{zero·}
use Rattle.litters.specs.Litters.{count_of}
use Rattle.objective.specs.declared.sum.Objective.{Objective}
use Rattle.objective.specs.declared.sum.Refused as alone
use Rattle.objective.specs.Objective.{objective, told_objective, objective_of}
use Rattle.objective.specs.Finite.{Known, objective_known}
use Rattle.objective.specs.Bound.{objective_in_full}
use Rattle.descent.specs.declared.Trial.TheVariants.{ByRounding}
use Rattle.descent.specs.Claims.{roundings_of, raised_by, Among, Descends, Rounded, unraised, carried, led_evaluated, rounding_step, none_among, at_most_raised, descends_by_trials}
use Rattle.descent.specs.Descent.{Asked, Descended}
use Rattle.descent.specs.Points.{place, point_value, of_driven, of_refused}
use Rattle.request.specs.declared.Request.{Request}
use Rattle.request.specs.Request.{start_of}
use Rattle.stepper.specs.Machine.{problem_of}
use Rattle.course.specs.Course.{trials_in}
use Rattle.drive.specs.Drive.{value_at}
use Rattle.fit.specs.declared.report.Fit.{Fit}
use Rattle.fit.specs.Fit.{plan_of, report_of, to_fit, fit_of}
use Rattle.fit.specs.Driven.{descent_of, trials_of, points_of, ends}

-- a likelihood, 0 where there is none
abbrev pub nll_in : Result Objective alone.Refused → Float
nll_in (Ok o) = o.v.nll
nll_in (Err e) = zero·

nll_told : (e : Ended Totals) (n : ℕ) (v : Totals) → e ≡ done v → nll_in (told_objective (record { ended = e; used = n })) ≡ v.nll
nll_told e n v h = rw h

-- the starting likelihood: the objective's, called alone at the start
abbrev pub starting_of : Request → List ℕ → Float
starting_of r ls = nll_in (objective_of (start_of r) ls)

counted_so : (r : Request) (m : ℕ) (f : Fit) (n : ℕ) (d : Descended (List Float) Totals) → f ≡ to_fit n (report_of r m d.status d.x d.v d.evaluations d.iterations) → f ≡ to_fit f.quadrature.0 (report_of r m f.status d.x d.v f.evaluations.0 f.iterations.0)
counted_so r m f n d e = rw e

module _ (r : Request) (ls : List ℕ) where
  -- a point at which the fit had its objective evaluated, and its value there
  abbrev pub Visited : List Float → Totals → Type 0
  Visited x v = Among (place x v) (points_of r ls)

  visited_value : (x : List Float) (v : Totals) → Visited x v → run at (objective legendre_of x ls) ≡ done v
  unfolding points_of
  visited_value x v m = point_value at (value_at legendre_of ls) _ (place x v) m

  visited_known : (x : List Float) (v : Totals) → Visited x v → Known v
  visited_known x v m = of_run at (λ e. tt) v (objective_known legendre_of x ls) (visited_value x v m)

  visited_fits : (x : List Float) (v : Totals) → Visited x v → T (fits binary64 v.nll)
  visited_fits x v m = (visited_known x v m).value

  starting_is : (v : Totals) → Visited (start_of r) v → starting_of r ls ≡ v.nll
  starting_is v m = ap (λ a. nll_in a) (objective_in_full (start_of r) ls) ∙ nll_told _ _ v (visited_value (start_of r) v m)

  -- a report of a point and its value that are among those
  pub record Reports (f : Fit) : Type 0 where
    pub x : List Float
    pub v : Totals
    pub visited : Visited x v
    pub value : run at (objective legendre_of x ls) ≡ done v
    pub report : f ≡ to_fit f.quadrature.0 (report_of r (count_of ls) f.status x v f.evaluations.0 f.iterations.0)

  -- ---- of every descent, refused or not
  led_to : (d : Descended (List Float) Totals) → (descent_of r ls).ended ≡ done d → Descends (problem_of (plan_of r)) Visited (start_of r) d
  unfolding descent_of points_of
  led_to d e = of_driven at (value_at legendre_of ls) r.quadrature.0 (points_of r ls) 0 d (answers (descends_by_trials (problem_of (plan_of r)) Visited (start_of r))) (λ y m. m) e

  refused_rounding : (q : Asked (List Float)) → (descent_of r ls).asked ≡ refused q → (a : Float) → Among (ByRounding a) q.trials → Rounded (problem_of (plan_of r)) Visited a
  unfolding descent_of points_of
  refused_rounding q e = of_refused at (value_at legendre_of ls) r.quadrature.0 (points_of r ls) 0 q (descends_by_trials (problem_of (plan_of r)) Visited (start_of r)) (λ y m. m) e

  by_ended : (e : Ended (Descended (List Float) Totals)) (q : Open (Asked (List Float))) → (descent_of r ls).ended ≡ e → (descent_of r ls).asked ≡ q → (a : Float) → Among (ByRounding a) (trials_in e q) → Rounded (problem_of (plan_of r)) Visited a
  by_ended (done d) q h k a m = let l = led_to d h in rounding_step (problem_of (plan_of r)) Visited (start_of r) l.start l.evaluated a l.led m
  by_ended (stopped w) none h k a m = none_among (ByRounding a) _ refl m
  by_ended (stopped w) (refused q) h k a m = refused_rounding q k a m
  by_ended short none h k a m = none_among (ByRounding a) _ refl m
  by_ended short (refused q) h k a m = refused_rounding q k a m

  -- A step by the rounding rule, of allowance a, was between two evaluated points, and ends at no more than the f64 sum of the likelihood before it and a;
  -- of a refused fit too, whose trials are those before its refusal.
  pub fit_rounding_step : (a : Float) → Among (ByRounding a) (trials_of r ls) → Rounded (problem_of (plan_of r)) Visited a
  unfolding trials_of
  fit_rounding_step a m = by_ended (descent_of r ls).ended (descent_of r ls).asked refl refl a m

  module _ (f : Fit) (h : fit_of r ls ≡ Ok f) where
    led : Descends (problem_of (plan_of r)) Visited (start_of r) (ends r ls f h).d
    led = led_to (ends r ls f h).d (ends r ls f h).ended

    trials_are : trials_of r ls ≡ (ends r ls f h).d.trials
    unfolding trials_of
    trials_are = ap (λ e. trials_in e (descent_of r ls).asked) (ends r ls f h).ended

    nll_is : f.nll ≡ (ends r ls f h).d.v.nll
    nll_is = ap (λ g. g.nll) (ends r ls f h).is

    start_is : starting_of r ls ≡ led.start.nll
    start_is = starting_is led.start led.evaluated

    start_known : Known led.start
    start_known = visited_known (start_of r) led.start led.evaluated

    -- the starting likelihood of an answered fit is finite
    pub start_finite : is_finite_of (starting_of r ls) ≡ true
    start_finite = ap (λ y. is_finite_of y) start_is ∙ start_known.finite.likelihood

    -- The reported likelihood is at most the start's, raised by the allowance of each step by the rounding rule.
    pub fit_at_most : le f.nll (raised_by (trials_of r ls) (starting_of r ls)) ≡ true
    fit_at_most =
        carried nll_is trials_are start_is
        (at_most_raised (problem_of (plan_of r)) Visited (start_of r) led.start led.evaluated visited_fits (finite_number led.start.nll start_known.finite.likelihood) led.led)

    -- Where no step was taken by the rounding rule, it is at most the start's.
    pub fit_not_worse : roundings_of (trials_of r ls) ≡ 0 → le f.nll (starting_of r ls) ≡ true
    fit_not_worse z = let k = fit_at_most in rw (unraised (trials_of r ls) (starting_of r ls) z) at k

    -- The reported point is one that was evaluated, with the value it had.
    pub fit_visited : Reports f
    fit_visited =
        let e = ends r ls f h in
        let m = led_evaluated (problem_of (plan_of r)) Visited (start_of r) led.start led.evaluated led.led in
        record { x = e.d.x; v = e.d.v; visited = m; value = visited_value e.d.x e.d.v m; report = counted_so r (count_of ls) f e.used e.d e.is }
