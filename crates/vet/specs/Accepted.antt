-- A claim is accepted exactly if five facts hold; the last is the test by which a fit has converged. All else is a refusal and a count.
use Rattle.std.specs.Prelude.{◌≡◌, refl, Bool, true, false, ◌&&◌, List, ◌↔◌, ℕ, Float, Result, Ok, Err}
use Rattle.std.specs.Result.{IsOk, is_ok}
use Rattle.std.proofs.Common.{ap, sym, ◌∙◌, true≢false}
use Rattle.std.specs.Float.Ieee.{le}
use Rattle.work.specs.Metered.{split}
use Rattle.objective.specs.declared.sum.Objective.{Objective}
use Rattle.objective.specs.declared.sum.Refused as objective
use Rattle.objective.specs.Objective.{used_in, objective_of}
use Rattle.descent.specs.declared.Status.TheVariants.{Converged}
use Rattle.descent.specs.Stopping.{status_of}
use Rattle.request.specs.declared.Request.{Request}
use Rattle.request.specs.Request.{admitted_of, valid_limit, low_of, high_of}
use Rattle.trial.specs.Judged.{norm_at_of}
use Rattle.claim.specs.declared.Claim.{Claim}
use Rattle.claim.specs.declared.Refusal.{Refusal}
use Rattle.claim.specs.declared.Refused.{Refused}
use Rattle.claim.specs.declared.Vetted.{Vetted}
use Rattle.claim.specs.Claim.{point_in, in_box_of, same_bits_of, refusal_of, accepted_of, judged_of}
use Rattle.vet.specs.Vet.{placed_of, vet_of}

-- the request passes its checks, its work limit's too
abbrev pub checked : Request → List ℕ → Bool
checked r ls = valid_limit r.quadrature.0 && admitted_of r ls

module _ (r : Request) (ls : List ℕ) (c : Claim) where
  -- what the objective gives at the claimed point, and the norm that a fit there would stop by
  abbrev pub there : Result Objective objective.Refused
  there = objective_of (point_in c) ls

  abbrev pub norm_there : Objective → Float
  norm_there o = norm_at_of (low_of r) (high_of r) (point_in c) o.v

  pub record Facts (o : Objective) : Type 0 where
    pub passes : checked r ls ≡ true
    pub inside : in_box_of (point_in c) (low_of r) (high_of r) ≡ true
    pub answers : there ≡ Ok o
    pub likelihood : same_bits_of o.v.nll c.nll ≡ true
    pub norm : le (norm_there o) r.tolerance ≡ true

-- a refusal is no answer
pub no_answer : {Z T E : Type 0} {e : E} {v : T} → ◌≡◌ {A = Result T E} (Err e) (Ok v) → Z
no_answer h = absurd (true≢false (sym (ap is_ok h)))

-- ---- of the objective's part, over any objective
module _ (lo hi : List Float) (tolerance : Float) (x : List Float) (claimed : Float) where
  abbrev pub size_of : Objective → Float
  size_of o = norm_at_of lo hi x o.v

  abbrev judged : Result Objective objective.Refused → Result Vetted Refused
  judged o = judged_of lo hi tolerance x claimed o

  record Judged (p : Result Objective objective.Refused) (o : Objective) : Type 0 where
    answers : p ≡ Ok o
    likelihood : same_bits_of o.v.nll claimed ≡ true
    norm : le (size_of o) tolerance ≡ true

  pub judged_gives : (p : Result Objective objective.Refused) (o : Objective) → p ≡ Ok o → same_bits_of o.v.nll claimed ≡ true → le (size_of o) tolerance ≡ true → judged p ≡ accepted_of o.used.0 o.v.nll (size_of o)
  unfolding judged_of
  judged_gives p o a s l = rw (a, s, l)

  by_facts : (p : Result Objective objective.Refused) (v : Vetted) → judged p ≡ Ok v → (o : Objective) × Judged p o
  unfolding judged_of
  by_facts (Err e) v h = no_answer h
  by_facts (Ok o) v h =
      split (same_bits_of o.v.nll claimed)
      (λ s. split (le (size_of o) tolerance)
      (λ l. (o, record { answers = refl; likelihood = s; norm = l }))
      (λ l. no_answer (rw (s, l) at h)))
      (λ s. no_answer (rw s at h))

  -- what is not accepted is a refusal and the objective's count
  judged_refused : (p : Result Objective objective.Refused) → (IsOk (judged p) → ⊥) → (why : Refusal) × (judged p ≡ refusal_of why (used_in p))
  unfolding judged_of
  judged_refused (Err e) h = (_, refl)
  judged_refused (Ok o) h =
      split (same_bits_of o.v.nll claimed)
      (λ s. split (le (size_of o) tolerance) (λ l. absurd (rw (s, l) at h refl)) (λ l. rw (s, l) (_, refl)))
      (λ s. rw s (_, refl))

module _ (r : Request) (ls : List ℕ) (c : Claim) where
  pub facts_accept : (o : Objective) → Facts r ls c o → vet_of r ls c ≡ accepted_of o.used.0 o.v.nll (norm_there r ls c o)
  unfolding vet_of placed_of
  facts_accept o f = rw (f.passes, f.inside) (judged_gives (low_of r) (high_of r) r.tolerance (point_in c) c.nll (there r ls c) o f.answers f.likelihood f.norm)

  accepted_facts : (v : Vetted) → vet_of r ls c ≡ Ok v → (o : Objective) × Facts r ls c o
  unfolding vet_of placed_of
  accepted_facts v h =
      split (checked r ls)
      (λ p. split (in_box_of (point_in c) (low_of r) (high_of r))
      (λ i.
      let j = by_facts (low_of r) (high_of r) r.tolerance (point_in c) c.nll (there r ls c) v (rw (p, i) at h) in
      (j.0, record { passes = p; inside = i; answers = j.1.answers; likelihood = j.1.likelihood; norm = j.1.norm }))
      (λ i. no_answer (rw (p, i) at h)))
      (λ p. no_answer (rw p at h))

  by_value : (p : Result Vetted Refused) → vet_of r ls c ≡ p → IsOk p → (o : Objective) × Facts r ls c o
  by_value (Ok v) e h = accepted_facts v e
  by_value (Err e) _ h = absurd (true≢false (sym h))

  -- Accepted exactly if the five facts hold,
  pub accepted_exactly : IsOk (vet_of r ls c) ↔ ((o : Objective) × Facts r ls c o)
  accepted_exactly = (λ h. by_value (vet_of r ls c) refl h, λ f. ap is_ok (facts_accept f.0 f.1))

  -- and then the answer is the objective's count, its likelihood and the norm.
  pub accepted_is : IsOk (vet_of r ls c) → (o : Objective) × (there r ls c ≡ Ok o) × (vet_of r ls c ≡ accepted_of o.used.0 o.v.nll (norm_there r ls c o))
  accepted_is h = let f = accepted_exactly.0 h in (f.0, f.1.answers, facts_accept f.0 f.1)

  -- It is converged by the rule that a fit stops by, whatever its counts are.
  pub accepted_converged : (most turns e k : ℕ) (v : Vetted) → vet_of r ls c ≡ Ok v → status_of v.norm r.tolerance most turns e k ≡ Converged
  unfolding status_of
  accepted_converged most turns e k v h =
      let f = accepted_facts v h in
      let n : v.norm ≡ norm_there r ls c f.0 = norm_is (sym h ∙ facts_accept f.0 f.1) in
      rw (n, f.1.norm) where
        norm_is : {v w : Vetted} → ◌≡◌ {A = Result Vetted Refused} (Ok v) (Ok w) → v.norm ≡ w.norm
        norm_is e = cc

  -- A refusal is why and its count: 0 before the objective, else the objective's count.
  pub refused_before : (checked r ls && in_box_of (point_in c) (low_of r) (high_of r)) ≡ false → (why : Refusal) × (vet_of r ls c ≡ refusal_of why 0)
  unfolding vet_of placed_of
  refused_before h = split (checked r ls) (λ p. let i = rw p at h in rw (p, i) (_, refl)) (λ p. rw p (_, refl))

  pub refused_there : checked r ls ≡ true → in_box_of (point_in c) (low_of r) (high_of r) ≡ true → (IsOk (vet_of r ls c) → ⊥) → (why : Refusal) × (vet_of r ls c ≡ refusal_of why (used_in (there r ls c)))
  unfolding vet_of placed_of
  refused_there p i h = let k = rw (p, i) at h in rw (p, i) (judged_refused (low_of r) (high_of r) r.tolerance (point_in c) c.nll (there r ls c) k)
