-- A litter's share stops by itself for a reason from 1 to 5 alone. A refusal has no value beside it: an answer is a Result.
use Rattle.std.specs.Prelude.{◌≡◌, List, ℕ, ◌≤◌, Result, Err, Float}
use Rattle.std.specs.Float.Ieee.{eq}
use Rattle.num.specs.F64.{zero·}
use Rattle.std.proofs.Common.{ap, sym, ◌∙◌}
use Rattle.work.specs.declared.Refusal.{Refusal}
use Rattle.work.specs.declared.Refusal.TheVariants.{Domain}
use Rattle.work.specs.declared.QuadratureEvaluations.{QuadratureEvaluations}
use Rattle.work.specs.declared.Meter.{Meter}
use Rattle.work.specs.Ended.{Ended, done, stopped, short, invalid, domain}
use Rattle.work.specs.Impossible.{impossible}
use Rattle.work.specs.Answer.{outcome, leaves, by, Did}
use Rattle.work.specs.Meter.{meter_of}
use Rattle.work.specs.Work.{◌>>=◌, metered}
use Rattle.work.specs.Stops.{Stops, answers, hears, chosen, passed, Reasoned, of_metered}
use Rattle.legendre.specs.declared.Pair.{Pair}
use Rattle.posterior.specs.declared.integrand.Posterior.{Posterior}
use Rattle.posterior.specs.Integrand.{Eval, at}
use Rattle.mode.specs.Reasons.{ends_reasons, check_ends_reasons, peak_reasons}
use Rattle.tail.specs.Reasons.{goal_reasons, span_reasons}
use Rattle.quadrature.specs.Reasons.{rules_reasons}
use Rattle.row.specs.declared.share.Share.{Share}
use Rattle.row.specs.Peak.{peaked, spanned}
use Rattle.row.specs.Share.{spread, share, row_of}

module _ (here : Float → Eval) where
  peaked_reasons : Stops (Reasoned 5) (peaked here)
  unfolding peaked
  peaked_reasons = passed (ends_reasons here) (λ e. passed (check_ends_reasons here e) (λ c. peak_reasons here c.left c.right))

  spanned_reasons : (p : Posterior) (mode log delta : Float) → Stops (Reasoned 5) (spanned here p mode log delta)
  unfolding spanned
  spanned_reasons p mode log delta = passed (goal_reasons here mode log delta) (λ g. span_reasons here _)

  spread_reasons : (rule : List Pair) (p : Posterior) (choose : Float) → Stops (Reasoned 5) (spread here rule p choose)
  unfolding spread
  spread_reasons rule p choose =
      passed peaked_reasons (λ m. passed (spanned_reasons p m.at m.log _) (λ s. passed (rules_reasons here rule _ 10 0 _ _) (λ i. answers)))

is_domain : {A : Type 0} (e : Ended A) (r : ℕ) → outcome e ≡ Err (Domain r) → e ≡ stopped (domain r)
is_domain (done a) r h = impossible (cc)
is_domain (stopped invalid) r h = impossible (cc)
is_domain (stopped (domain s)) r h = let q : s ≡ r = cc in rw q
is_domain short r h = impossible (cc)

module _ (litter successes total : ℕ) (rule : List Pair) (mean variance : Float) where
  pub share_reasons : Stops (Reasoned 5) (share litter successes total rule mean variance)
  unfolding share ◌>>=◌
  share_reasons = chosen (eq variance zero·) (hears (λ v. answers)) (spread_reasons _ rule _ _)

  pub row_domain : (limit : QuadratureEvaluations) (r : ℕ) → row_of litter successes total rule mean variance limit ≡ Err (Domain r) → (1 ≤ r) × (r ≤ 5)
  unfolding by
  row_domain limit r e = of_metered at limit.0 0 (domain r) share_reasons (is_domain (metered at limit.0 0 (share litter successes total rule mean variance)).ended r e)

  -- a refusal is why there is no share, beside the meter alone
  pub row_refused : (limit : QuadratureEvaluations) (e : Refusal) → row_of litter successes total rule mean variance limit ≡ Err e →
      (let w = by at (meter_of limit) (share litter successes total rule mean variance) in w ≡ leaves (Err e) w.meter)
  row_refused limit e h = ap (λ a. leaves a (by at (meter_of limit) (share litter successes total rule mean variance)).meter) h

-- ---- of each call, which was lent the meter m, answered r and left the meter at n
module _ (litter successes total : ℕ) (rule : List Pair) (mean variance : Float) (m n : Meter) (r : Result Share Refusal) (did : Did at (share litter successes total rule mean variance) m r n) where
  pub call_domain : (reason : ℕ) → r ≡ Err (Domain reason) → (1 ≤ reason) × (reason ≤ 5)
  unfolding by
  call_domain reason e =
      of_metered at m.limit.0 m.used.0 (domain reason)
      (share_reasons litter successes total rule mean variance)
      (is_domain (metered at m.limit.0 m.used.0 (share litter successes total rule mean variance)).ended reason (sym (ap (λ s. s.answer) did) ∙ e))
