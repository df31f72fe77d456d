-- `limited_objective` and `probit_normal_binomial_objective` of the source.
use Rattle.std.specs.Prelude.{◌≡◌, refl, Bool, ◌&&◌, cond, List, ℕ, zero, suc, ◌+◌, get_or, Result, Ok, Err, Float}
use Rattle.std.proofs.Common.{ap}
use Rattle.std.specs.Float.{nan}
use Rattle.work.specs.declared.Refusal.{Refusal}
use Rattle.work.specs.declared.Refusal.TheVariants.{Domain, WorkBudget}
use Rattle.work.specs.declared.QuadratureEvaluations.{QuadratureEvaluations}
use Rattle.work.specs.Impossible.{impossible}
use Rattle.work.specs.Ended.{Ended, done, stopped, short, invalid, domain}
use Rattle.work.specs.Work.{Work, ret, stop, Metered, metered, ◌>>=◌}
use Rattle.work.specs.Answer.{outcome}
use Rattle.legendre.specs.declared.Pair.{Pair}
use Rattle.legendre.specs.Legendre.{legendre_of}
use Rattle.posterior.specs.declared.integrand.Point.{Point}
use Rattle.posterior.specs.Integrand.{Eval, at}
use Rattle.row.specs.declared.share.Share.{Share}
use Rattle.row.specs.Share.{share}
use Rattle.value.specs.declared.Totals.{Totals}
use Rattle.value.specs.Totals.{no_totals}
use Rattle.objective.specs.declared.sum.Objective.{Objective}
use Rattle.objective.specs.declared.sum.Refused.{Refused}
use Rattle.litters.specs.Litters.{count_of, successes_at, total_at, group_at}
use Rattle.litters.specs.Valid.{valid_litters_of}
use Rattle.objective.specs.Point.{valid_point_of}
use Rattle.objective.specs.Totals.{index_of, finite_totals, with_share}

-- the i-th litter's share, at its group's mean and variance
abbrev pub share_at : List Pair → List Float → List ℕ → ℕ → Work Eval Point Share
share_at rule x ls i = let g = index_of (group_at ls i) in share i (successes_at ls i) (total_at ls i) rule (get_or x g nan) (get_or x (g + 2) nan)

-- n litters from the i-th on, in their order; reason 6, total not finite: an entry of their sum
unfoldable pub rows : List Pair → List Float → List ℕ → ℕ → ℕ → Totals → Work Eval Point Totals
rows rule x ls zero i t = cond (finite_totals t) (ret t) (stop (domain 6))
rows rule x ls (suc n) i t = do
  s ← share_at rule x ls i
  rows rule x ls n (i + 1) (with_share t (index_of (group_at ls i)) s)

-- a point or litters that are not valid are refused before any work
abbrev pub admits : List Float → List ℕ → Bool
admits x ls = valid_point_of x && valid_litters_of ls

unfoldable pub objective : List Pair → List Float → List ℕ → Work Eval Point Totals
objective rule x ls = cond (admits x ls) (rows rule x ls (count_of ls) 0 no_totals) (stop invalid)

-- ---- the code's answers

abbrev pub answered_of : ℕ → Totals → Objective
answered_of n t = record { used = record { 0 = n }; v = t }

abbrev pub refused_of : Refusal → ℕ → Refused
refused_of e n = record { refusal = e; used = record { 0 = n } }

-- with n evaluations made
abbrev pub told_result : Result Totals Refusal → ℕ → Result Objective Refused
told_result (Ok t) n = Ok (answered_of n t)
told_result (Err e) n = Err (refused_of e n)

abbrev pub told_objective : Metered Totals → Result Objective Refused
told_objective m = told_result (outcome m.ended) m.used

-- after the last litter
unfoldable pub ended_of : ℕ → Totals → Result Objective Refused
ended_of n t = cond (finite_totals t) (Ok (answered_of n t)) (Err (refused_of (Domain 6) n))

unfoldable pub limited_objective_of : List Pair → List Float → List ℕ → QuadratureEvaluations → Result Objective Refused
limited_objective_of rule x ls limit = told_objective (metered at limit.0 0 (objective rule x ls))

-- the source's limit for the objective alone: 128 times 65,536
unfoldable pub objective_of : List Float → List ℕ → Result Objective Refused
objective_of x ls = limited_objective_of legendre_of x ls (record { 0 = 8388608 })

-- ---- what an answer says of the computation

-- the evaluations, of an answer and of a refusal
abbrev pub used_in : Result Objective Refused → ℕ
used_in (Ok o) = o.used.0
used_in (Err r) = r.used.0

pub told_used : (e : Ended Totals) (n : ℕ) → used_in (told_result (outcome e) n) ≡ n
told_used (done t) n = refl
told_used (stopped r) n = refl
told_used short n = refl

pub told_value : (e : Ended Totals) (n : ℕ) (o : Objective) → told_result (outcome e) n ≡ Ok o → e ≡ done o.v
told_value (done t) n o h = let k : answered_of n t ≡ o = cc in rw (← k)
told_value (stopped r) n o h = impossible (cc)
told_value short n o h = impossible (cc)

told_refusal : (r : Result Totals Refusal) (n m : ℕ) (e : Refusal) → told_result r n ≡ Err (refused_of e m) → r ≡ Err e
told_refusal (Ok t) n m e h = impossible (cc)
told_refusal (Err x) n m e h = let k : refused_of x n ≡ refused_of e m = cc in ap (λ (r : Refused). Err r.refusal) k

is_domain : (e : Ended Totals) (r : ℕ) → outcome e ≡ Err (Domain r) → e ≡ stopped (domain r)
is_domain (done t) r h = impossible (cc)
is_domain (stopped invalid) r h = impossible (cc)
is_domain (stopped (domain s)) r h = let k : s ≡ r = cc in rw k
is_domain short r h = impossible (cc)

is_short : (e : Ended Totals) → outcome e ≡ Err WorkBudget → e ≡ short
is_short (done t) h = impossible (cc)
is_short (stopped invalid) h = impossible (cc)
is_short (stopped (domain r)) h = impossible (cc)
is_short short h = refl

pub told_domain : (e : Ended Totals) (n m r : ℕ) → told_result (outcome e) n ≡ Err (refused_of (Domain r) m) → e ≡ stopped (domain r)
told_domain e n m r h = is_domain e r (told_refusal (outcome e) n m (Domain r) h)

pub told_short : (e : Ended Totals) (n m : ℕ) → told_result (outcome e) n ≡ Err (refused_of WorkBudget m) → e ≡ short
told_short e n m h = is_short e (told_refusal (outcome e) n m WorkBudget h)
