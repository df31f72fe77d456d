-- What the objective's answer is where it is refused: InvalidInput with count 0 where a check fails, a Domain with a reason from 1 to 6, never WorkBudget
-- where it is called alone. A refusal has its count beside it and no value.
use Rattle.std.specs.Prelude.{◌≡◌, true, false, List, Err, Float}
use Rattle.std.proofs.Common.{sym, ◌∙◌}
use Prim.Native.Nat.{ℕ, zero, suc, ◌+◌, ◌≤◌}
use Rattle.std.proofs.Math.Dec.{lit≤}
use Rattle.work.specs.declared.Refusal.TheVariants.{InvalidInput, Domain, WorkBudget}
use Rattle.work.specs.declared.QuadratureEvaluations.{QuadratureEvaluations}
use Rattle.work.specs.Ended.{invalid, domain}
use Rattle.work.specs.Work.{run, metered}
use Rattle.work.specs.Stops.{Stops, answers, refuses, others, chosen, passed, Reasoned, OrInvalid, or_invalid, more_reasons, of_metered, run_not_short}
use Rattle.legendre.specs.declared.Pair.{Pair}
use Rattle.legendre.specs.Legendre.{legendre_of}
use Rattle.posterior.specs.Integrand.{at}
use Rattle.row.specs.Reasons.{share_reasons}
use Rattle.value.specs.declared.Totals.{Totals}
use Rattle.value.specs.Totals.{no_totals}
use Rattle.litters.specs.Litters.{count_of}
use Rattle.objective.specs.declared.sum.Refused.{Refused}
use Rattle.objective.specs.Totals.{finite_totals}
use Rattle.objective.specs.Objective.{rows, admits, objective, refused_of, told_domain, told_short, limited_objective_of, objective_of}
use Rattle.objective.specs.Bound.{objective_in_full}

module _ (rule : List Pair) (x : List Float) (ls : List ℕ) where
  rows_reasons : (n i : ℕ) (t : Totals) → Stops (Reasoned 6) (rows rule x ls n i t)
  unfolding rows
  rows_reasons zero i t = chosen (finite_totals t) answers (refuses {r = domain 6} (lit≤ tt, lit≤ tt))
  rows_reasons (suc n) i t = passed (others (more_reasons 5 6 (lit≤ tt)) (share_reasons _ _ _ rule _ _)) (λ s. rows_reasons n (i + 1) _)

  -- why it may stop by itself: a check that fails, or a reason from 1 to 6
  pub objective_reasons : Stops (OrInvalid (Reasoned 6)) (objective rule x ls)
  unfolding objective
  objective_reasons = chosen (admits x ls) (others (or_invalid (Reasoned 6)) (rows_reasons (count_of ls) 0 no_totals)) (refuses {r = invalid} tt)

  -- where the checks pass, a reason alone
  pub admitted_reasons : admits x ls ≡ true → Stops (Reasoned 6) (objective rule x ls)
  unfolding objective
  admitted_reasons h = rw h (rows_reasons (count_of ls) 0 no_totals)

  module _ (limit : QuadratureEvaluations) where
    pub limited_domain : (r n : ℕ) → limited_objective_of rule x ls limit ≡ Err (refused_of (Domain r) n) → (1 ≤ r) × (r ≤ 6)
    unfolding limited_objective_of
    limited_domain r n e = of_metered at limit.0 0 (domain r) objective_reasons (told_domain (metered at limit.0 0 (objective rule x ls)).ended _ n r e)

    -- a refusal is why there are no sums, and its count alone
    pub limited_refused : (e : Refused) → limited_objective_of rule x ls limit ≡ Err e → limited_objective_of rule x ls limit ≡ Err (refused_of e.refusal e.used.0)
    limited_refused e h = h

    -- a point or litters that fail a check
    pub limited_fails : admits x ls ≡ false → limited_objective_of rule x ls limit ≡ Err (refused_of InvalidInput 0)
    unfolding limited_objective_of objective metered
    limited_fails h = rw h

-- called alone
module _ (x : List Float) (ls : List ℕ) where
  pub objective_domain : (r n : ℕ) → objective_of x ls ≡ Err (refused_of (Domain r) n) → (1 ≤ r) × (r ≤ 6)
  unfolding objective_of
  objective_domain r n e = limited_domain legendre_of x ls (record { 0 = 8388608 }) r n e

  pub objective_refused : (e : Refused) → objective_of x ls ≡ Err e → objective_of x ls ≡ Err (refused_of e.refusal e.used.0)
  objective_refused e h = h

  pub objective_fails : admits x ls ≡ false → objective_of x ls ≡ Err (refused_of InvalidInput 0)
  unfolding objective_of
  objective_fails h = limited_fails legendre_of x ls (record { 0 = 8388608 }) h

  pub objective_never_short : (n : ℕ) → objective_of x ls ≡ Err (refused_of WorkBudget n) → ⊥
  objective_never_short n e =
      let s = told_short (run at (objective legendre_of x ls)) _ n (sym (objective_in_full x ls) ∙ e) in
      run_not_short at (objective legendre_of x ls) (rw s)
