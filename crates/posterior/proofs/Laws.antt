-- What a count says of a meter's numbers, and the evaluation that has done as much: on the meter lent, or on another that stands as it does.
use Rattle.std.specs.Prelude.{◌≡◌, ◌+◌, ◌<◌, ◌≤◌, ltb, Result, Ok, Err}
use Rattle.std.proofs.Common.{ap, ◌∙◌, lt-ltb, le-ltb, ltb-true, ltb-false}
use Rattle.work.specs.declared.Refusal.{Refusal}
use Rattle.work.specs.declared.Refusal.TheVariants.{WorkBudget}
use Rattle.work.specs.declared.Meter.{Meter}
use Rattle.work.specs.Impossible.{impossible}
use Rattle.work.specs.Work.{eval}
use Rattle.work.specs.Answer.{counted, Did}
use Rattle.work.specs.Metered.{split}
use Rattle.work.specs.Meter.{counts}
use Rattle.posterior.specs.Steps.{evaluated}

abbrev is_made : Result (Unit {0}) Refusal
is_made = Ok tt

abbrev is_short : Refusal → Result (Unit {0}) Refusal
is_short e = Err e

-- the meter m before, n after
module _ (m n : Meter) where
  pub of_counted : counts m is_made n → (m.used.0 < m.limit.0) × (n.used.0 ≡ m.used.0 + 1) × (n.limit.0 ≡ m.limit.0)
  of_counted h =
      split (ltb m.used.0 m.limit.0)
      (λ b. let k = rw b at h in (ltb-true _ _ b, ap (λ s. s.meter.used.0) k, ap (λ s. s.meter.limit.0) k))
      (λ b. let k : is_made ≡ is_short WorkBudget = ap (λ s. s.answer) (rw b at h) in impossible (cc))

  pub of_refused : (e : Refusal) → counts m (is_short e) n → (e ≡ WorkBudget) × (m.limit.0 ≤ m.used.0) × (n.used.0 ≡ m.used.0) × (n.limit.0 ≡ m.limit.0)
  of_refused e h =
      split (ltb m.used.0 m.limit.0)
      (λ b. let k : is_short e ≡ is_made = ap (λ s. s.answer) (rw b at h) in impossible (cc))
      (λ b. let k = rw b at h in let a : is_short e ≡ is_short WorkBudget = ap (λ s. s.answer) k in (cc, ltb-false _ _ b, ap (λ s. s.meter.used.0) k, ap (λ s. s.meter.limit.0) k))

  same : m.used.0 ≡ n.used.0 → m.limit.0 ≡ n.limit.0 → m ≡ n
  same u l = ap (λ k. record { used = record { 0 = k }; limit = m.limit }) u ∙ ap (λ k. record { used = n.used; limit = record { 0 = k } }) l

module _ {E X : Type 0} (at : E → X) (q : E) (m n : Meter) where
  pub made : m.used.0 < m.limit.0 → n.used.0 ≡ m.used.0 + 1 → n.limit.0 ≡ m.limit.0 → Did at (eval q) m (Ok (at q)) n
  made h u l = evaluated at q m n is_made (rw (lt-ltb _ _ h, same n (counted m (m.used.0 + 1)) u l))

  pub short : m.limit.0 ≤ m.used.0 → n.used.0 ≡ m.used.0 → n.limit.0 ≡ m.limit.0 → Did at (eval q) m (Err WorkBudget) n
  short h u l = evaluated at q m n (is_short WorkBudget) (rw (le-ltb _ _ h, same n m u l))
