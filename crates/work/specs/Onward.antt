-- Laws of what code answers, to rewrite with: past a computation, at a choice, at an answer and at a refusal.
use Rattle.std.specs.Prelude.{◌≡◌, refl, ℕ, Bool, true, false, cond, Result, Ok, Err}
use Rattle.work.specs.declared.Refusal.{Refusal}
use Rattle.work.specs.declared.Meter.{Meter}
use Rattle.work.specs.Ended.{Why, Ended, done, stopped, short}
use Rattle.work.specs.Work.{Work, ret, stop, ◌>>=◌, metered}
use Rattle.work.specs.Metered.{after, metered_bind}
use Rattle.work.specs.Answer.{refusal_of, Spent, spent, by}

module _ {E X : Type 0} (at : E → X) where
  -- a refusal stands, and an answer hands on its value and its count
  abbrev pub onward : {A B : Type 0} → Result A Refusal → Meter → (A → Work E X B) → Spent B
  onward (Ok a) n f = by at n (f a)
  onward (Err e) n f = record { answer = Err e; meter = n }

  onwards : {A B : Type 0} (m : Meter) (f : A → Work E X B) (e : Ended A) (n : ℕ) → spent m (after e n (λ a n. metered at m.limit.0 n (f a))) ≡ onward (spent m (record { ended = e; used = n })).answer (spent m (record { ended = e; used = n })).meter f
  unfolding by
  onwards m f (done a) n = refl
  onwards m f (stopped r) n = refl
  onwards m f short n = refl

  pub past : {A B : Type 0} (m : Meter) (w : Work E X A) (f : A → Work E X B) → by at m (w >>= f) ≡ onward (by at m w).answer (by at m w).meter f
  unfolding by
  past m w f = rw (metered_bind at m.limit.0 m.used.0 w f) (onwards m f (metered at m.limit.0 m.used.0 w).ended (metered at m.limit.0 m.used.0 w).used)

  pub branch : {B : Type 0} (m : Meter) (t : Bool) (x y : Work E X B) → by at m (cond t x y) ≡ cond t (by at m x) (by at m y)
  branch m true x y = refl
  branch m false x y = refl

  pub gives : {B : Type 0} (m : Meter) (b : B) → by at m (ret b) ≡ record { answer = Ok b; meter = m }
  unfolding by metered
  gives m b = refl

  pub gives_up : {B : Type 0} (m : Meter) (r : Why) → by {A = B} at m (stop r) ≡ record { answer = Err (refusal_of r); meter = m }
  unfolding by metered
  gives_up m r = refl
