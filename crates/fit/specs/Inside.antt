-- Every point that a fit asks for lies in its box, so no candidate is InvalidInput: after its checks a fit ends answered, Domain or WorkBudget.
use Rattle.std.proofs.Math.Path.{◌≡◌}
use Rattle.std.specs.Prelude.{refl, Bool, true, false, ◌&&◌, List, ◌↔◌, ℕ, ◌≤◌, T, get_or, Float, Err}
use Rattle.std.proofs.Common.{◌∙◌, ap, lit<}
use Rattle.work.specs.Impossible.{impossible}
use Rattle.std.specs.Float.{nan, binary64}
use Rattle.std.specs.Float.Ieee.{fits}
use Rattle.std.specs.Float.Ieee.Fits.{mul-fits}
use Rattle.num.specs.Both.{and_both}
use Rattle.order.specs.Boxes.{Inside, inside_finite}
use Rattle.work.specs.declared.Refusal.TheVariants.{InvalidInput, Domain, WorkBudget}
use Rattle.work.specs.Answer.{refusal_of}
use Rattle.work.specs.Ended.{Why, invalid, domain, Ended, done, stopped, short}
use Rattle.work.specs.Metered.{split}
use Rattle.work.specs.Stops.{Stops, answers, refuses, others, passed, Reasoned, OrInvalid, or_invalid, of_metered}
use Rattle.work.specs.Asks.{refused_by}
use Rattle.legendre.specs.Legendre.{legendre_of}
use Rattle.posterior.specs.Integrand.{at}
use Rattle.value.specs.declared.Totals.{Totals}
use Rattle.litters.specs.Valid.{valid_litters_of}
use Rattle.objective.specs.Point.{valid_point_of}
use Rattle.objective.specs.Reasons.{admitted_reasons}
use Rattle.objective.specs.Finite.{Known, objective_known}
use Rattle.descent.specs.Descent.{descent}
use Rattle.descent.specs.Asking.{share_of, share_finite, Only, Reports, descent_asks}
use Rattle.request.specs.declared.Request.{Request}
use Rattle.request.specs.Request.{admitted_of, valid_limit, start_of, low_of, high_of}
use Rattle.request.specs.Box.{admitted_litters, the_box, start_inside, start_fits}
use Rattle.step.specs.Step.{project_of, candidate_of}
use Rattle.step.specs.Inside.{project_finite, direction_finite, candidate_inside, candidate_fits}
use Rattle.stepper.specs.Machine.{direction_at_of, problem_of}
use Rattle.drive.specs.Drive.{value_at}
use Rattle.fit.specs.declared.report.Refused.{Refused}
use Rattle.fit.specs.Fit.{Report, plan_of, fit, refused_of, fit_at, limited_fit, fit_of}
use Rattle.fit.specs.Answers.{counted, unfit_refused}
use Rattle.fit.specs.Valid.{inside_valid}

-- a point in the request's box, its variances f64
pub record Boxed (r : Request) (x : List Float) : Type 0 where
  pub inside : Inside (low_of r) (high_of r) x
  pub third : T (fits binary64 (get_or x 2 nan))
  pub fourth : T (fits binary64 (get_or x 3 nan))

-- a refusal that is one of the definition's own is what stopped it
same_why : (a b : Why) → refusal_of a ≡ refusal_of b → a ≡ b
same_why invalid invalid h = refl
same_why invalid (domain i) h = impossible (cc)
same_why (domain i) invalid h = impossible (cc)
same_why (domain i) (domain j) h = let q : i ≡ j = cc in rw q

not_short : (b : Why) → WorkBudget ≡ refusal_of b → {Z : Type 0} → Z
not_short invalid h = impossible (cc)
not_short (domain i) h = impossible (cc)

by_refusal : (a : Ended Report) (n : ℕ) (e : Refused) (b : Why) → fit_at a n ≡ Err e → e.refusal ≡ refusal_of b → a ≡ stopped b
by_refusal (done p) n e b h k = impossible (cc)
by_refusal (stopped a) n e b h k = let g : refused_of (refusal_of a) n ≡ e = cc in rw (same_why a b (ap (λ o. o.refusal) g ∙ k))
by_refusal short n e b h k = let g : refused_of WorkBudget n ≡ e = cc in not_short b (ap (λ o. o.refusal) g ∙ k)

abbrev pub KnownAt : List Float → Totals → Type 0
KnownAt x v = Known v

module _ (r : Request) (ls : List ℕ) where
  module _ (h : admitted_of r ls ≡ true) where
    pub start_boxed : Boxed r (start_of r)
    start_boxed = record { inside = start_inside r ls h; third = start_fits _; fourth = start_fits _ }

    -- a candidate from a point in the box, where the value is finite, lies in the box
    pub kept : (x : List Float) (v : Totals) → Boxed r x → Known v → (k : ℕ) → Boxed r (candidate_of x (direction_at_of (low_of r) (high_of r) x v) (share_of k) (low_of r) (high_of r))
    kept x v b q k =
        let lo = low_of r in
        let hi = high_of r in
        let d = direction_at_of lo hi x v in
        let slopes = project_finite x v.gradient lo hi q.finite.slopes in
        record {
          inside = candidate_inside lo hi x d (share_of k) (the_box r ls h) (inside_finite lo hi x (the_box r ls h) b.inside) (direction_finite x (project_of x v.gradient lo hi) v.hessian lo hi slopes) (share_finite k);
          third = candidate_fits lo hi x d (share_of k) 2 (lit< tt) (mul-fits binary64 _ _) (mul-fits binary64 _ _);
          fourth = candidate_fits lo hi x d (share_of k) 3 (lit< tt) (mul-fits binary64 _ _) (mul-fits binary64 _ _);
        }

    -- every point that is asked for lies in the box; what is reported does, with a finite value
    pub fit_asks : Only (problem_of (plan_of r)) KnownAt (Boxed r) (Reports (problem_of (plan_of r)) KnownAt (Boxed r)) (descent (problem_of (plan_of r)) (start_of r))
    fit_asks = descent_asks (problem_of (plan_of r)) KnownAt (Boxed r) kept (start_of r) start_boxed

    -- no such point is refused by the objective's own checks
    valued : (x : List Float) → Boxed r x → Stops (Reasoned 6) (value_at legendre_of ls x)
    valued x b = admitted_reasons legendre_of x ls (and_both (valid_point_of x) (valid_litters_of ls) (inside_valid r ls h x b.inside) (admitted_litters r ls h))

    -- an admitted request's fit stops by itself for a reason from 1 to 6 alone
    pub fit_reasons : Stops (Reasoned 6) (fit legendre_of r ls)
    unfolding fit
    fit_reasons = rw h (passed (refused_by (λ q. value_at legendre_of ls q.at) (λ q b. valued q.at b) (λ q b. objective_known legendre_of q.at ls) fit_asks) (λ d. answers))

  -- A Domain's reason is 1 to 6.
  any_reasons : Stops (OrInvalid (Reasoned 6)) (fit legendre_of r ls)
  any_reasons = split (admitted_of r ls) (λ t. others (or_invalid (Reasoned 6)) (fit_reasons t)) (λ t. unfold fit in rw t (refuses {r = invalid} tt))

  pub fit_domain : (e : Refused) (reason : ℕ) → fit_of r ls ≡ Err e → e.refusal ≡ Domain reason → (1 ≤ reason) × (reason ≤ 6)
  unfolding fit_of limited_fit
  fit_domain e reason h k =
      split (valid_limit r.quadrature.0)
      (λ t. of_metered at r.quadrature.0 0 (domain reason) any_reasons (by_refusal (counted r ls).ended (counted r ls).used e (domain reason) (rw t at h) k))
      (λ t. let q = rw t at h in let g : InvalidInput ≡ Domain reason = cc in impossible (cc))

  -- A fit whose checks pass is never InvalidInput.
  never_invalid : valid_limit r.quadrature.0 ≡ true → admitted_of r ls ≡ true → (e : Refused) → fit_of r ls ≡ Err e → e.refusal ≡ InvalidInput → ⊥
  unfolding fit_of limited_fit
  never_invalid t h e g k = of_metered at r.quadrature.0 0 invalid (fit_reasons h) (by_refusal (counted r ls).ended (counted r ls).used e invalid (rw t at g) k)

  checks_fail : (a b : Bool) → (a ≡ true → b ≡ true → ⊥) → (a && b) ≡ false
  checks_fail true true h = absurd (h refl refl)
  checks_fail true false h = refl
  checks_fail false b h = refl

  -- A fit is InvalidInput exactly if a check of its request fails, and then its count is 0.
  pub invalid_exactly : ((e : Refused) × (fit_of r ls ≡ Err e) × (e.refusal ≡ InvalidInput)) ↔ ((valid_limit r.quadrature.0 && admitted_of r ls) ≡ false)
  invalid_exactly = (λ e. checks_fail (valid_limit r.quadrature.0) (admitted_of r ls) (λ t h. never_invalid t h e.0 e.1 e.2), λ f. (refused_of InvalidInput 0, unfit_refused r ls f, refl))

  pub invalid_counts_nothing : (e : Refused) → fit_of r ls ≡ Err e → e.refusal ≡ InvalidInput → fit_of r ls ≡ Err (refused_of InvalidInput 0)
  invalid_counts_nothing e h k = unfit_refused r ls (invalid_exactly.0 (e, h, k))
