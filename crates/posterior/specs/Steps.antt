-- The steps of code that counts on a meter: an evaluation, counted first where the limit leaves one; and what follows a part of a computation.
use Rattle.std.specs.Prelude.{◌≡◌, refl, ◌+◌, Bool, true, false, cond, ltb, Result, Ok, Err, IsErrAnd}
use Rattle.std.proofs.Common.{ap, ◌∙◌}
use Rattle.work.specs.declared.Refusal.{Refusal}
use Rattle.work.specs.declared.Refusal.TheVariants.{WorkBudget}
use Rattle.work.specs.declared.Meter.{Meter}
use Rattle.work.specs.Ended.{done, short}
use Rattle.work.specs.Work.{Work, eval, ◌>>=◌, metered}
use Rattle.work.specs.Answer.{Spent, leaves, counted, spent, by, Did}
use Rattle.work.specs.Meter.{counts}
use Rattle.work.specs.Onward.{past}

-- `?` hands a refusal on as it is
pub handed_on : {A : Type 0} (r : Result A Refusal) (e : Refusal) → IsErrAnd r (λ x. x ≡ e) → r ≡ Err e
handed_on (Ok a) e h = absurd h
handed_on (Err x) e h = ap Err h

module _ {E X : Type 0} (at : E → X) where
  -- what the evaluation q answers, where its count answered r
  abbrev pub answered : E → Result (Unit {0}) Refusal → Result X Refusal
  answered q (Ok u) = Ok (at q)
  answered q (Err r) = Err r

  abbrev after : E → Spent (Unit {0}) → Spent X
  after q s = leaves (answered q s.answer) s.meter

  by_limit : (q : E) (m : Meter) (t : Bool) → after q (cond t (leaves (Ok tt) (counted m (m.used.0 + 1))) (leaves (Err WorkBudget) m)) ≡ spent m (cond t (record { ended = done (at q); used = m.used.0 + 1 }) (record { ended = short; used = m.used.0 }))
  by_limit q m true = refl
  by_limit q m false = refl

  pub evaluated : (q : E) (m n : Meter) (r : Result (Unit {0}) Refusal) → counts m r n → Did at (eval q) m (answered q r) n
  unfolding by metered
  evaluated q m n r h = ap (after q) h ∙ by_limit q m (ltb m.used.0 m.limit.0)

  module _ {A : Type 0} (m n : Meter) (w : Work E X A) where
    -- a refusal stands for the whole
    pub refused : {B : Type 0} (f : A → Work E X B) (r : Result B Refusal) (e : Refusal) → Did at w m (Err e) n → IsErrAnd r (λ x. x ≡ e) → Did at (w >>= f) m r n
    refused f r e h i = rw (past at m w f, ← h, handed_on r e i)

    -- past an answer the rest goes on from its meter
    pub goes_on : {B : Type 0} (f : A → Work E X B) (a : A) → Did at w m (Ok a) n → by at m (w >>= f) ≡ by at n (f a)
    goes_on f a h = rw (past at m w f, ← h)
