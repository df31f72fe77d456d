-- What is known of a fit that is answered, and of one that is refused: said of what the code returns.
use Rattle.std.specs.Prelude.{◌≡◌, true, false, List, ◌↔◌, ℕ, ◌≤◌, Float, Ok, Err}
use Rattle.std.proofs.Math.Path.{refl, ap}
use Rattle.std.proofs.Common.{sym, ◌∙◌, zero-le, arith}
use Rattle.std.proofs.Math.ListN.{length}
use Rattle.work.specs.Impossible.{impossible}
use Rattle.elementary.specs.Log.{log_of}
use Rattle.work.specs.declared.Refusal.TheVariants.{InvalidInput, Domain, WorkBudget}
use Rattle.work.specs.Answer.{refusal_of, outcome}
use Rattle.work.specs.Ended.{Why, invalid, domain, Ended, done, stopped, short}
use Rattle.work.specs.Work.{run, listed}
use Rattle.work.specs.AtMost.{at_most_listed}
use Rattle.work.specs.Given.{Given, of_run}
use Rattle.work.specs.Metered.{split}
use Rattle.work.specs.Stops.{Stops, answers, passed, run_not_short}
use Rattle.work.specs.Stops as stops
use Rattle.work.specs.Through.{refused_by}
use Rattle.descent.specs.Refusals.{never_refuses}
use Rattle.exposure.specs.declared.request.Request.{Request}
use Rattle.exposure.specs.Rows.{events_of}
use Rattle.exposure.specs.Request.{product_of, admitted_of}
use Rattle.exposure.specs.Passed.{admitted_passed}
use Rattle.plane.specs.Plane.{plane_of}
use Rattle.counts.specs.Objective.{in_full, refused_of}
use Rattle.counts.specs.Refusals.{NotFinite, evaluate_stops}
use Rattle.counts_fit.specs.declared.report.Fit.{Fit}
use Rattle.counts.specs.declared.sum.Refused.{Refused}
use Rattle.counts_fit.specs.Fit.{Report, start_of, plane_for, value_at, fit, to_fit, fit_at, fit_of, passes_in}
use Rattle.counts_fit.specs.Whole.{fit_most, within_product, unfit_refused}

-- a fit that is answered with a report that has P
pub record Answers (P : Report → Type 0) (f : Fit) : Type 0 where
  pub count : ℕ
  pub report : Report
  pub has : P report
  pub is : f ≡ to_fit count report

by_end : {P : Report → Type 0} (e : Ended Report) (n : ℕ) (f : Fit) → fit_at e n ≡ Ok f → ((p : Report) → e ≡ done p → P p) → Answers P f
by_end (done p) n f h g = record { count = n; report = p; has = g p refl; is = cc }
by_end (stopped r) n f h g = impossible (cc)
by_end short n f h g = impossible (cc)

-- ---- a refusal is the definition's own
same_why : (a b : Why) → refusal_of a ≡ refusal_of b → a ≡ b
same_why invalid invalid h = refl
same_why invalid (domain i) h = impossible (cc)
same_why (domain i) invalid h = impossible (cc)
same_why (domain i) (domain j) h = let q : i ≡ j = cc in rw q

not_short : (b : Why) → WorkBudget ≡ refusal_of b → {Z : Type 0} → Z
not_short invalid h = impossible (cc)
not_short (domain i) h = impossible (cc)

by_refusal : (a : Ended Report) (n : ℕ) (e : Refused) (b : Why) → fit_at a n ≡ Err e → e.refusal ≡ refusal_of b → a ≡ stopped b
by_refusal (done p) n e b h k = impossible (cc)
by_refusal (stopped a) n e b h k = let g : refused_of (refusal_of a) n ≡ e = cc in rw (same_why a b (ap (λ o. o.refusal) g ∙ k))
by_refusal short n e b h k = let g : refused_of WorkBudget n ≡ e = cc in not_short b (ap (λ o. o.refusal) g ∙ k)

by_budget : (a : Ended Report) (n : ℕ) (e : Refused) → fit_at a n ≡ Err e → e.refusal ≡ WorkBudget → a ≡ short
by_budget (done p) n e h k = impossible (cc)
by_budget (stopped a) n e h k = let g : refused_of (refusal_of a) n ≡ e = cc in not_short a (sym (ap (λ o. o.refusal) g ∙ k))
by_budget short n e h k = refl

passes_are : (a : Ended Report) (n : ℕ) → passes_in (fit_at a n) ≡ n
passes_are (done p) n = refl
passes_are (stopped r) n = refl
passes_are short n = refl

module _ (r : Request) (cs : List ℕ) (es : List Float) where
  abbrev ended : Ended Report
  ended = run log_of (fit r cs es)

  abbrev count : ℕ
  count = length (listed log_of (fit r cs es))

  -- what every answer of the definition has, an answered fit has
  pub answered : {G : Float → Float → Type 0} {P : Report → Type 0} → ((t : Float) → G t (log_of t)) → Given G P (fit r cs es) → (f : Fit) → fit_of r cs es ≡ Ok f → Answers P f
  unfolding fit_of in_full
  answered known g f h = by_end ended count f h (λ p e. of_run log_of known p g e)

  -- A refused fit is its refusal and its count.
  pub refused_is : (e : Refused) → fit_of r cs es ≡ Err e → fit_of r cs es ≡ Err (refused_of e.refusal e.passes.0)
  refused_is e h = h

  -- The passes, of an answer or a refusal, are at most the product that was checked.
  pub passes_within : passes_in (fit_of r cs es) ≤ product_of (events_of cs) (length cs) r.evaluations.0
  passes_within =
      split (admitted_of r cs es)
      (λ t. let b = at_most_listed log_of (fit_most r cs es (admitted_passed r cs es t).controls.some) in unfold fit_of in_full in rw (passes_are ended count) (omega (arith, b, within_product r cs es)))
      (λ t. rw (unfit_refused r cs es t) zero-le)

  module _ (t : admitted_of r cs es ≡ true) where
    stops_so : Stops NotFinite (fit r cs es)
    unfolding fit
    stops_so = rw t (passed (refused_by (λ q. value_at cs es q.at) (λ q. evaluate_stops q.at.x q.at.y cs es) (never_refuses (plane_of (plane_for r)) (start_of r))) (λ d. answers))

    own_refusal : (e : Refused) → fit_of r cs es ≡ Err e → (b : Why) → e.refusal ≡ refusal_of b → NotFinite b
    unfolding fit_of in_full
    own_refusal e h b k = stops.of_run log_of b stops_so (by_refusal ended count e b h k)

  other_refusal : (e : Refused) → admitted_of r cs es ≡ false → fit_of r cs es ≡ Err e → InvalidInput ≡ e.refusal
  other_refusal e t h = let g : refused_of InvalidInput 0 ≡ e = (let z = sym (unfit_refused r cs es t) ∙ h in cc) in ap (λ o. o.refusal) g

  -- A Domain's reason is 6.
  pub domain_reason : (e : Refused) (i : ℕ) → fit_of r cs es ≡ Err e → e.refusal ≡ Domain i → i ≡ 6
  domain_reason e i h k = split (admitted_of r cs es) (λ t. own_refusal t e h (domain i) k) (λ t. let z = other_refusal e t h ∙ k in impossible (cc))

  -- InvalidInput exactly if a check fails.
  pub invalid_exactly : ((e : Refused) × (fit_of r cs es ≡ Err e) × (e.refusal ≡ InvalidInput)) ↔ (admitted_of r cs es ≡ false)
  invalid_exactly = (λ e. split (admitted_of r cs es) (λ t. absurd (own_refusal t e.0 e.1 invalid e.2)) (λ t. t), λ t. (refused_of InvalidInput 0, unfit_refused r cs es t, refl))

  -- There is no work limit to meet.
  pub no_budget : (e : Refused) → fit_of r cs es ≡ Err e → e.refusal ≡ WorkBudget → ⊥
  unfolding fit_of in_full
  no_budget e h k = run_not_short log_of (fit r cs es) (ap outcome (by_budget ended count e h k))
