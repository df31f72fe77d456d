-- The laws that the proofs of the sum search by: r is what the code answers.
use Rattle.std.specs.Prelude.{◌≡◌, true, false, List, ℕ, zero, suc, ◌+◌, Option, Some, Result, Ok, Err, Float}
use Rattle.std.proofs.Common.{ap, sym, ◌∙◌}
use Rattle.work.specs.declared.Refusal.{Refusal}
use Rattle.work.specs.declared.Refusal.TheVariants.{WorkBudget}
use Rattle.work.specs.declared.Meter.{Meter}
use Rattle.work.specs.declared.QuadratureEvaluations.{QuadratureEvaluations}
use Rattle.work.specs.Impossible.{impossible}
use Rattle.work.specs.Ended.{Ended, done, stopped, short, invalid, domain}
use Rattle.work.specs.Work.{Work, metered}
use Rattle.work.specs.Answer.{refusal_of, outcome, by, Did}
use Rattle.work.specs.Metered.{split}
use Rattle.work.specs.Through.{Driven, heard, driven}
use Rattle.legendre.specs.declared.Pair.{Pair}
use Rattle.posterior.specs.Integrand.{at}
use Rattle.row.specs.declared.share.Share.{Share}
use Rattle.value.specs.declared.Totals.{Totals}
use Rattle.litters.specs.Litters.{group_at}
use Rattle.litters.specs.Valid.{valid_litters_of}
use Rattle.objective.specs.declared.sum.Objective.{Objective}
use Rattle.objective.specs.declared.sum.Refused.{Refused}
use Rattle.objective.specs.declared.sum.Named.{Named}
use Rattle.objective.specs.Point.{valid_point_of}
use Rattle.objective.specs.Totals.{index_of, with_share, finite_totals}
use Rattle.objective.specs.Objective.{share_at, ended_of}
use Rattle.objective.specs.Named.{Litter, asked_rows, asked, named_of, invalid_of, at_litter, at_no_litter, told_named, named_from, summed_of, named_objective_of}

-- what is known of a computation that code did: by its answer, its ending and its count
module _ {E X A : Type 0} (at : E → X) (w : Work E X A) (m q : Meter) where
  counts : (r : Result A Refusal) → Did at w m r q → (q.limit ≡ m.limit) × ((metered at m.limit.0 m.used.0 w).used ≡ q.used.0)
  unfolding by
  counts r d = (ap (λ s. s.meter.limit) d, sym (ap (λ s. s.meter.used.0) d))

  answers : (r : Result A Refusal) → Did at w m r q → outcome (metered at m.limit.0 m.used.0 w).ended ≡ r
  unfolding by
  answers r d = sym (ap (λ s. s.answer) d)

is_done : {A : Type 0} (e : Ended A) (a : A) → outcome e ≡ Ok a → e ≡ done a
is_done (done b) a h = let k : b ≡ a = cc in rw k
is_done (stopped invalid) a h = impossible (cc)
is_done (stopped (domain r)) a h = impossible (cc)
is_done short a h = impossible (cc)

module _ (rule : List Pair) (x : List Float) (ls : List ℕ) (m q : Meter) (n i : ℕ) (t : Totals) where
  heard_refused : (l : Litter) (e : Ended Share) (u : ℕ) (r : Refusal) (go : Share → ℕ → Driven Litter Totals) → outcome e ≡ Err r → told_named (heard l e u go) ≡ Err (named_of r u (Some (l.number + 1)))
  heard_refused l (done a) u r go h = impossible (cc)
  heard_refused l (stopped s) u r go h = let k : refusal_of s ≡ r = cc in rw (← k)
  heard_refused l short u r go h = let k : WorkBudget ≡ r = cc in rw (← k)

  -- a refused litter is the end
  pub row_refused : (r : Refusal) → Did at (share_at rule x ls i) m (Err r) q → named_from rule x ls m (suc n) i t ≡ Err (named_of r q.used.0 (Some (i + 1)))
  unfolding named_from asked_rows driven
  row_refused r d =
      let k = metered at m.limit.0 m.used.0 (share_at rule x ls i) in
      let a = answers at (share_at rule x ls i) m q (Err r) d in
      let c = counts at (share_at rule x ls i) m q (Err r) d in
      heard_refused _ k.ended k.used r _ a ∙ rw c.1

  -- past an answered one the rest goes on from the meter
  pub row_answered : (s : Share) → Did at (share_at rule x ls i) m (Ok s) q → named_from rule x ls m (suc n) i t ≡ named_from rule x ls q n (i + 1) (with_share t (index_of (group_at ls i)) s)
  unfolding named_from asked_rows driven
  row_answered s d =
      let a = is_done _ s (answers at (share_at rule x ls i) m q (Ok s) d) in
      let c = counts at (share_at rule x ls i) m q (Ok s) d in
      rw (a, c.1, c.0)

-- a refusal in hand, by the litter at which it came
pub refusal_placed : (litter : Option ℕ) (o : Result Objective Refused) (a w : Result Objective Named) (r : Refused) → a ≡ at_litter litter o → w ≡ Err (record { refused = r; litter = litter }) → o ≡ Err r → a ≡ w
unfolding at_litter
refusal_placed litter o a w r e f h = rw f (rw h at e)

-- past the last
pub rows_end : (rule : List Pair) (x : List Float) (ls : List ℕ) (m : Meter) (i : ℕ) (t : Totals) → named_from rule x ls m zero i t ≡ at_no_litter (ended_of m.used.0 t)
unfolding named_from asked_rows driven ended_of at_litter
rows_end rule x ls m i t = split (finite_totals t) (λ b. rw b) (λ b. rw b)

module _ (rule : List Pair) (x : List Float) (ls : List ℕ) (limit : QuadratureEvaluations) where
  pub point_fails : false ≡ valid_point_of x → Err invalid_of ≡ named_objective_of rule x ls limit
  unfolding named_objective_of asked driven
  point_fails e = rw (← e)

  module _ (e : true ≡ valid_point_of x) where
    pub litters_fail : false ≡ valid_litters_of ls → Err invalid_of ≡ named_objective_of rule x ls limit
    unfolding named_objective_of asked driven
    litters_fail f = rw (← e, ← f)

    pub both_hold : true ≡ valid_litters_of ls → summed_of rule x ls limit ≡ named_objective_of rule x ls limit
    unfolding named_objective_of asked summed_of named_from
    both_hold f = rw (← e, ← f)
