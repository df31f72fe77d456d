-- What code answers of a computation that it meters: the value or the refusal, and the meter after it.
use Rattle.std.specs.Prelude.{◌≡◌, ℕ, Result, Ok, Err}
use Rattle.work.specs.declared.Refusal.{Refusal}
use Rattle.work.specs.declared.Refusal.TheVariants.{InvalidInput, Domain, WorkBudget}
use Rattle.work.specs.declared.Meter.{Meter}
use Rattle.work.specs.Ended.{Why, invalid, domain, Ended, done, stopped, short}
use Rattle.work.specs.Work.{Work, Metered, metered}
use Rattle.work.specs.Impossible.{impossible}

abbrev pub refusal_of : Why → Refusal
refusal_of invalid = InvalidInput
refusal_of (domain r) = Domain r

-- the value, or why there is none
abbrev pub outcome : {A : Type 0} → Ended A → Result A Refusal
outcome (done a) = Ok a
outcome (stopped r) = Err (refusal_of r)
outcome short = Err WorkBudget

-- where code answers, there is a value
pub answered_value : {A : Type 0} (e : Ended A) (a : A) → outcome e ≡ Ok a → e ≡ done a
answered_value (done b) a h = let q : b ≡ a = cc in rw q
answered_value (stopped r) a h = impossible (cc)
answered_value short a h = impossible (cc)

pub record Spent (A : Type 0) : Type 0 where
  pub answer : Result A Refusal
  pub meter : Meter

abbrev pub leaves : {A : Type 0} → Result A Refusal → Meter → Spent A
leaves r n = record { answer = r; meter = n }

-- the meter with n evaluations behind it
abbrev pub counted : Meter → ℕ → Meter
counted m n = record { used = record { 0 = n }; limit = m.limit }

abbrev pub spent : {A : Type 0} → Meter → Metered A → Spent A
spent m r = record { answer = outcome r.ended; meter = counted m r.used }

-- what w comes to, from the meter's count on
unfoldable pub by : {E X A : Type 0} → (E → X) → Meter → Work E X A → Spent A
by at m w = spent m (metered at m.limit.0 m.used.0 w)

-- code that began with the meter m, answered r and left the meter at n, has done what w says
abbrev pub Did : {E X A : Type 0} → (E → X) → Work E X A → Meter → Result A Refusal → Meter → Type 0
Did at w m r n = leaves r n ≡ by at m w
