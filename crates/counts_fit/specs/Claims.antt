-- Whether a fit may come out worse than its start: crates/descent's claims, of what the code returns and of its own list of trials.
use Rattle.std.specs.Prelude.{◌≡◌, true, List, [], ℕ, T, length, Float, Ok}
use Rattle.std.proofs.Math.Path.{refl, ap, sym}
use Rattle.std.proofs.Common.{◌∙◌}
use Rattle.std.specs.Float.{binary64}
use Rattle.std.specs.Float.Ieee.{le, fits}
use Rattle.num.specs.Helpers.{is_finite_of}
use Rattle.work.specs.Impossible.{impossible}
use Rattle.order.specs.Numbers.{finite_number}
use Rattle.elementary.specs.Log.{log_of}
use Rattle.work.specs.Ended.{Ended, done, stopped, short, value_or}
use Rattle.work.specs.Work.{ret, run, metered}
use Rattle.work.specs.Metered.{split, after}
use Rattle.work.specs.Given.{of_run}
use Rattle.work.specs.Asks.{answers}
use Rattle.work.specs.Through.{Open, none, refused, Driven, driven, driven_is}
use Rattle.planar.specs.declared.Planar.{Planar}
use Rattle.planar.specs.Planar.{no_planar}
use Rattle.descent.specs.declared.Trial.{Trial}
use Rattle.descent.specs.declared.Trial.TheVariants.{ByRounding}
use Rattle.descent.specs.Descent.{Asked, Descended, descent}
use Rattle.descent.specs.Claims.{roundings_of, raised_by, Among, Descends, Rounded, unraised, carried, led_evaluated, rounding_step, none_among, at_most_raised, descends_by_trials}
use Rattle.descent.specs.Points.{Place, place, points_in, point_value, of_driven, of_refused}
use Rattle.exposure.specs.declared.request.Request.{Request}
use Rattle.exposure.specs.Request.{admitted_of}
use Rattle.counts.specs.Known.{Known, nll_finite, evaluate_known}
use Rattle.plane.specs.Plane.{Spot, plane_of}
use Rattle.counts_fit.specs.declared.report.Fit.{Fit}
use Rattle.counts_fit.specs.Fit.{start_of, plane_for, value_at, report_of, to_fit, fit_by, fit_of}
use Rattle.counts_fit.specs.Among.{enough}
use Rattle.counts_fit.specs.Whole.{planar, fit_after, unfit_refused}

-- the starting likelihood: the objective's, evaluated alone at the start
abbrev pub starting_of : Request → List ℕ → List Float → Float
starting_of r cs es = (value_or no_planar (run log_of (value_at cs es (start_of r)))).nll

unfoldable pub descent_of : Request → List ℕ → List Float → Driven (Asked Spot) (Descended Spot Planar)
descent_of r cs es = driven log_of (λ q. value_at cs es q.at) enough 0 (descent (plane_of (plane_for r)) (start_of r))

abbrev trials_at : Ended (Descended Spot Planar) → Open (Asked Spot) → List Trial
trials_at (done d) q = d.trials
trials_at (stopped r) none = []
trials_at (stopped r) (refused q) = q.trials
trials_at short none = []
trials_at short (refused q) = q.trials

-- its trials before the end, the newest first
unfoldable pub trials_of : Request → List ℕ → List Float → List Trial
trials_of r cs es = trials_at (descent_of r cs es).ended (descent_of r cs es).asked

-- the points at which the objective was evaluated, each with the value that its definition has there
unfoldable pub points_of : Request → List ℕ → List Float → List (Place Spot Planar)
points_of r cs es = points_in log_of (value_at cs es) (descent (plane_of (plane_for r)) (start_of r))

-- where d stands for what an answered descent came to
pub record Ends (r : Request) (cs : List ℕ) (f : Fit) (e : Ended (Descended Spot Planar)) : Type 0 where
  pub d : Descended Spot Planar
  pub used : ℕ
  pub ended : e ≡ done d
  pub is : f ≡ to_fit used (report_of r (length cs) d)

counted_so : (r : Request) (m : ℕ) (f : Fit) (n : ℕ) (d : Descended Spot Planar) → f ≡ to_fit n (report_of r m d) → f ≡ to_fit f.passes.0 (report_of r m d)
counted_so r m f n d e = rw e

module _ (r : Request) (cs : List ℕ) (es : List Float) where
  by_ending : (f : Fit) (e : Ended (Descended Spot Planar)) (u : ℕ) → fit_by (after e u (λ d n. metered log_of enough n (ret (report_of r (length cs) d)))) ≡ Ok f → Ends r cs f e
  unfolding metered
  by_ending f (done d) u h = record { d = d; used = u; ended = refl; is = cc }
  by_ending f (stopped i) u h = impossible (cc)
  by_ending f short u h = impossible (cc)

  descent_is : (metered log_of enough 0 (planar r cs es)).ended ≡ (descent_of r cs es).ended
  unfolding descent_of
  descent_is = ap (λ m. m.ended) (driven_is log_of (λ q. value_at cs es q.at) enough 0 (descent (plane_of (plane_for r)) (start_of r)))

  pub ends : (f : Fit) → fit_of r cs es ≡ Ok f → Ends r cs f (descent_of r cs es).ended
  ends f k =
      split (admitted_of r cs es)
      (λ t. rw (← descent_is) (by_ending f (metered log_of enough 0 (planar r cs es)).ended (metered log_of enough 0 (planar r cs es)).used (sym (fit_after r cs es t) ∙ k)))
      (λ t. let z = sym (unfit_refused r cs es t) ∙ k in impossible (cc))

  -- a point at which the fit had its objective evaluated, and its value there
  abbrev pub Visited : Spot → Planar → Type 0
  Visited s v = Among (place s v) (points_of r cs es)

  visited_value : (s : Spot) (v : Planar) → Visited s v → run log_of (value_at cs es s) ≡ done v
  unfolding points_of
  visited_value s v m = point_value log_of (value_at cs es) _ (place s v) m

  visited_known : (s : Spot) (v : Planar) → Visited s v → Known v
  visited_known s v m = of_run log_of (λ e. tt) v (evaluate_known s.x s.y cs es) (visited_value s v m)

  visited_fits : (s : Spot) (v : Planar) → Visited s v → T (fits binary64 v.nll)
  visited_fits s v m = (visited_known s v m).nll_fits

  starting_is : (v : Planar) → Visited (start_of r) v → starting_of r cs es ≡ v.nll
  starting_is v m = ap (λ (e : Ended Planar). (value_or no_planar e).nll) (visited_value (start_of r) v m)

  -- a report of a point and its value that are among those
  pub record Reports (f : Fit) : Type 0 where
    pub d : Descended Spot Planar
    pub visited : Visited d.x d.v
    pub value : run log_of (value_at cs es d.x) ≡ done d.v
    pub report : f ≡ to_fit f.passes.0 (report_of r (length cs) d)

  -- ---- of every descent, refused or not
  led_to : (d : Descended Spot Planar) → (descent_of r cs es).ended ≡ done d → Descends (plane_of (plane_for r)) Visited (start_of r) d
  unfolding descent_of points_of
  led_to d e = of_driven log_of (value_at cs es) enough (points_of r cs es) 0 d (answers (descends_by_trials (plane_of (plane_for r)) Visited (start_of r))) (λ y m. m) e

  refused_rounding : (q : Asked Spot) → (descent_of r cs es).asked ≡ refused q → (a : Float) → Among (ByRounding a) q.trials → Rounded (plane_of (plane_for r)) Visited a
  unfolding descent_of points_of
  refused_rounding q e = of_refused log_of (value_at cs es) enough (points_of r cs es) 0 q (descends_by_trials (plane_of (plane_for r)) Visited (start_of r)) (λ y m. m) e

  by_ended : (e : Ended (Descended Spot Planar)) (q : Open (Asked Spot)) → (descent_of r cs es).ended ≡ e → (descent_of r cs es).asked ≡ q → (a : Float) → Among (ByRounding a) (trials_at e q) → Rounded (plane_of (plane_for r)) Visited a
  by_ended (done d) q h k a m = let l = led_to d h in rounding_step (plane_of (plane_for r)) Visited (start_of r) l.start l.evaluated a l.led m
  by_ended (stopped w) none h k a m = none_among (ByRounding a) _ refl m
  by_ended (stopped w) (refused q) h k a m = refused_rounding q k a m
  by_ended short none h k a m = none_among (ByRounding a) _ refl m
  by_ended short (refused q) h k a m = refused_rounding q k a m

  -- A step by the rounding rule, of allowance a, was between two evaluated points, and ends at no more than the f64 sum of the likelihood before it and a;
  -- of a refused fit too, whose trials are those before its refusal.
  pub fit_rounding_step : (a : Float) → Among (ByRounding a) (trials_of r cs es) → Rounded (plane_of (plane_for r)) Visited a
  unfolding trials_of
  fit_rounding_step a m = by_ended (descent_of r cs es).ended (descent_of r cs es).asked refl refl a m

  module _ (f : Fit) (h : fit_of r cs es ≡ Ok f) where
    led : Descends (plane_of (plane_for r)) Visited (start_of r) (ends f h).d
    led = led_to (ends f h).d (ends f h).ended

    trials_are : trials_of r cs es ≡ (ends f h).d.trials
    unfolding trials_of
    trials_are = ap (λ e. trials_at e (descent_of r cs es).asked) (ends f h).ended

    nll_is : f.nll ≡ (ends f h).d.v.nll
    nll_is = ap (λ g. g.nll) (ends f h).is

    start_is : starting_of r cs es ≡ led.start.nll
    start_is = starting_is led.start led.evaluated

    start_finite_value : is_finite_of led.start.nll ≡ true
    start_finite_value = nll_finite led.start (visited_known (start_of r) led.start led.evaluated).finite

    -- the starting likelihood of an answered fit is finite
    pub start_finite : is_finite_of (starting_of r cs es) ≡ true
    start_finite = ap (λ y. is_finite_of y) start_is ∙ start_finite_value

    -- The reported likelihood is at most the start's, raised by the allowance of each step by the rounding rule.
    pub fit_at_most : le f.nll (raised_by (trials_of r cs es) (starting_of r cs es)) ≡ true
    fit_at_most =
        carried nll_is trials_are start_is
        (at_most_raised (plane_of (plane_for r)) Visited (start_of r) led.start led.evaluated visited_fits (finite_number led.start.nll start_finite_value) led.led)

    -- Where no step was taken by the rounding rule, it is at most the start's.
    pub fit_not_worse : roundings_of (trials_of r cs es) ≡ 0 → le f.nll (starting_of r cs es) ≡ true
    fit_not_worse z = let k = fit_at_most in rw (unraised (trials_of r cs es) (starting_of r cs es) z) at k

    -- The reported point is one that was evaluated, with the value it had.
    pub fit_visited : Reports f
    fit_visited =
        let e = ends f h in
        let m = led_evaluated (plane_of (plane_for r)) Visited (start_of r) led.start led.evaluated led.led in
        record { d = e.d; visited = m; value = visited_value e.d.x e.d.v m; report = counted_so r (length cs) f e.used e.d e.is }

    -- An answered fit's likelihood is finite.
    pub likelihood_finite : is_finite_of f.nll ≡ true
    likelihood_finite = ap (λ y. is_finite_of y) nll_is ∙ nll_finite (ends f h).d.v (visited_known (ends f h).d.x (ends f h).d.v (led_evaluated (plane_of (plane_for r)) Visited (start_of r) led.start led.evaluated led.led)).finite
