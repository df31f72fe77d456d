-- How many evaluations an objective makes at most: 32,933 a litter, so 4,215,424 for 128. The source's cap of 8,388,608 never binds, and the objective
-- called alone never ends in WorkBudget.
use Rattle.std.specs.Prelude.{◌≡◌, true, List, length, Float}
use Rattle.std.proofs.Math.Path.{ap}
use Rattle.std.proofs.Common.{◌∙◌, suc-mul, arith, lit≤}
use Prim.Native.Nat.{ℕ, zero, suc, ◌+◌, ◌*◌, ◌≤◌, min, zero-le}
use Rattle.std.proofs.Math.Nat.{add_comm, sub-zero, zero-add}
use Rattle.num.specs.Both.{and_right}
use Rattle.work.specs.declared.QuadratureEvaluations.{QuadratureEvaluations}
use Rattle.work.specs.Work.{run, metered, listed, listed_l}
use Rattle.work.specs.AtMost.{AtMost, rets, stops, either, both, more, at_most_listed}
use Rattle.work.specs.Metered.{metered_is, within, split}
use Rattle.work.specs.Share.{in_full_lem, cap}
use Rattle.legendre.specs.declared.Pair.{Pair}
use Rattle.legendre.specs.Legendre.{legendre_of}
use Rattle.posterior.specs.Integrand.{at}
use Rattle.row.specs.Bound.{share_at_most}
use Rattle.value.specs.declared.Totals.{Totals}
use Rattle.litters.specs.Litters.{count_of}
use Rattle.litters.specs.Checks.{at_most_128}
use Rattle.objective.specs.Point.{valid_point_of}
use Rattle.value.specs.Totals.{no_totals}
use Rattle.objective.specs.Totals.{finite_totals}
use Rattle.objective.specs.Objective.{rows, admits, objective, told_objective, used_in, told_used, limited_objective_of, objective_of}

module _ (rule : List Pair) (x : List Float) (ls : List ℕ) where
  pub rows_at_most : (n i : ℕ) (t : Totals) → AtMost (n * 32933) (rows rule x ls n i t)
  unfolding rows
  rows_at_most zero i t = either (finite_totals t) rets stops
  rows_at_most (suc n) i t = rw (suc-mul n 32933, add_comm (n * 32933) 32933) (both (n * 32933) (share_at_most _ _ _ rule _ _) (λ s. rows_at_most n (i + 1) _))

  bounded : admits x ls ≡ true → count_of ls * 32933 ≤ 4215424
  bounded t = let f = at_most_128 ls (and_right (valid_point_of x) _ t) in omega arith

  pub objective_at_most : AtMost 4215424 (objective rule x ls)
  unfolding objective
  objective_at_most = split (admits x ls) (λ t. rw t (more (bounded t) (rows_at_most (count_of ls) 0 no_totals))) (λ t. rw t stops)

  -- the evaluations that it lists
  pub objective_listed : length (listed at (objective rule x ls)) ≤ 4215424
  objective_listed = at_most_listed at objective_at_most

  -- the count that the code reports is the length of the list made under its limit
  pub objective_count : (limit : QuadratureEvaluations) → used_in (limited_objective_of rule x ls limit) ≡ length (listed_l at limit.0 (objective rule x ls))
  unfolding limited_objective_of
  objective_count limit =
      let w = objective rule x ls in
      told_used (metered at limit.0 0 w).ended (metered at limit.0 0 w).used ∙ ap (λ m. m.used) (metered_is at limit.0 0 w) ∙ rw (sub-zero limit.0, zero-add (length (listed_l at limit.0 w)))

  -- it is never above the limit, nor above 4,215,424
  pub objective_within : (limit : QuadratureEvaluations) → used_in (limited_objective_of rule x ls limit) ≤ min limit.0 4215424
  unfolding limited_objective_of
  objective_within limit =
      let w = objective rule x ls in
      let h : (metered at limit.0 0 w).used ≤ min limit.0 4215424 = rw (← cap at w limit.0 4215424 objective_at_most (lit≤ tt)) (within at (min limit.0 4215424) 0 w zero-le) in
      rw (told_used (metered at limit.0 0 w).ended (metered at limit.0 0 w).used) h

-- called alone it is the run without a limit
pub objective_in_full : (x : List Float) (ls : List ℕ) → objective_of x ls ≡ told_objective (record { ended = run at (objective legendre_of x ls); used = length (listed at (objective legendre_of x ls)) })
unfolding objective_of limited_objective_of
objective_in_full x ls = rw (in_full_lem at (objective legendre_of x ls) 8388608 (objective_at_most legendre_of x ls) (lit≤ tt))

pub alone_within : (x : List Float) (ls : List ℕ) → used_in (objective_of x ls) ≤ 4215424
unfolding objective_of
alone_within x ls = objective_within legendre_of x ls (record { 0 = 8388608 })
