-- The laws of a loop that drives the stepper, whatever the objective: it asks for a point, evaluates there, and tells the value.
use Rattle.std.proofs.Math.Path.{◌≡◌, refl, ap, sym}
use Rattle.std.proofs.Common.{◌∙◌}
use Rattle.std.specs.Prelude.{true, false, List, [], ℕ, ◌+◌, ◌-◌, ◌≤◌, Float, Option, None, Result, Ok, Err}
use Rattle.work.specs.Impossible.{impossible}
use Rattle.work.specs.Answer.{refusal_of}
use Rattle.work.specs.Ended.{Why, Ended, done, stopped, short}
use Rattle.work.specs.Work.{Work, ret, stop, ask, metered}
use Rattle.work.specs.Share.{share}
use Rattle.work.specs.Through.{heard, driven}
use Rattle.descent.specs.declared.Status.{Status}
use Rattle.descent.specs.Descent.{Asked, descent}
use Rattle.value.specs.declared.Totals.{Totals}
use Rattle.stepper.specs.declared.Phase.TheVariants.{Over}
use Rattle.stepper.specs.declared.Plan.{Plan}
use Rattle.stepper.specs.declared.Stepper.{Stepper}
use Rattle.stepper.specs.Machine.{awaits_of, problem_of, begin_of, tell_of}
use Rattle.trial.specs.Watch.{watch_of}
use Rattle.stepper.specs.Stands.{Rest, Stands, over, awaits, begins}
use Rattle.course.specs.declared.NoValue.{NoValue}
use Rattle.course.specs.declared.Answer.{Answer}
use Rattle.course.specs.declared.Course.{Course}
use Rattle.course.specs.Course.{value_in, answer_in, stopped_at, refused_at, stopped_of, refused_of, shown}

-- What an objective proves of its answers: none uses more than its limit, and what is known between two evaluations allows the next and is kept by it.
pub record Lawful {O : Type 0} (answer : O → ℕ → List Float → Answer) (ready : O → ℕ → Type 0) (known : O → Plan → ℕ → Stepper → ℕ → Type 0) : Type 0 where
  pub within : (o : O) (l : ℕ) (x : List Float) → ready o l → (answer o l x).used ≤ l
  pub allows : (o : O) (p : Plan) (l : ℕ) (s : Stepper) (u : ℕ) → known o p l s u → awaits_of s.phase ≡ true → ready o (l - u)
  pub keeps : (o : O) (p : Plan) (l : ℕ) (s : Stepper) (u : ℕ) (c : Totals) → known o p l s u → awaits_of s.phase ≡ true → (answer o (l - u) s.next).value ≡ Ok c → known o p l (tell_of p s c) (u + (answer o (l - u) s.next).used)

-- ---- what a descent comes to whose questions are answered so, each under what is left of the limit l
module _ (answer : ℕ → List Float → Answer) (l n : ℕ) where
  abbrev pub after_value : Asked (List Float) → ℕ → Result Totals NoValue → (Totals → Course) → Course
  after_value q u (Ok c) go = go c
  after_value q u (Err e) go = refused_at u (watch_of n q.trials) q.begun e.part e.refusal

  unfoldable pub comes_to : ℕ → Rest → Course
  comes_to u (ret d) = stopped_at u (watch_of n d.trials) d
  comes_to u (stop r) = refused_at u (watch_of n []) false None (refusal_of r)
  comes_to u (ask q k) = let a = answer (l - u) q.at in after_value q (u + a.used) a.value (λ c. comes_to (u + a.used) (k c))

  unfoldable pub course_by : Plan → List Float → Course
  course_by p x = comes_to 0 (descent (problem_of p) x)

  -- ---- what the loop goes by: with u behind it, the state comes to the whole
  module _ (p : Plan) where
    pub record Left (whole : Course) (s : Stepper) (u : ℕ) : Type 0 where
      pub rest : Rest
      pub stands : Stands p n s rest
      pub makes : comes_to u rest ≡ whole

    pub starts : (x : List Float) (s : Stepper) → s ≡ begin_of x n → Left (course_by p x) s 0
    unfolding course_by
    starts x s e = rw e (record { rest = _; stands = begins p n x; makes = refl })

    module _ (whole : Course) (s : Stepper) (u : ℕ) (i : Left whole s u) where
      pub run_ends : (status : Status) → s.phase ≡ Over status → stopped_of status u s ≡ whole
      unfolding comes_to
      run_ends status t = by i.rest i.stands ∙ i.makes where
        by : (w : Rest) → Stands p n s w → stopped_of status u s ≡ comes_to u w
        by _ (over found ts h e) = let q : found ≡ status = cc in rw (e, q)
        by _ (awaits h e k) = let z : awaits_of (Over status) ≡ true = rw t at h in impossible (cc)

      pub run_stops : awaits_of s.phase ≡ true → (a : Answer) → a ≡ answer (l - u) s.next → (e : NoValue) → a.value ≡ Err e → refused_of e (u + a.used) s ≡ whole
      unfolding comes_to
      run_stops t a g e y = by i.rest i.stands ∙ i.makes where
        by : (w : Rest) → Stands p n s w → refused_of e (u + a.used) s ≡ comes_to u w
        by _ (over found ts h w) = let z : awaits_of (Over found) ≡ true = rw h at t in impossible (cc)
        by _ (awaits h w k) = rw (w, ← g, y)

      pub run_turn : awaits_of s.phase ≡ true → (a : Answer) → a ≡ answer (l - u) s.next → (c : Totals) → a.value ≡ Ok c → (q : Stepper) → q ≡ tell_of p s c → Left whole q (u + a.used)
      unfolding comes_to
      run_turn t a g c y q r = by i.rest i.stands i.makes where
        by : (w : Rest) → Stands p n s w → comes_to u w ≡ whole → Left whole q (u + a.used)
        by _ (over found ts h e) m = let z : awaits_of (Over found) ≡ true = rw h at t in impossible (cc)
        by _ (awaits {k = k} h e go) m = rw r (record { rest = k c; stands = go c; makes = rw (← g, y) at m })

-- ---- the same where each answer is what a computation comes to: `after u w` is the part at which the rest w is refused, with u behind it
module _ {E Y : Type 0} (at : E → Y) (ev : List Float → Work E Y Totals) (l n : ℕ) where
  -- the descent as one computation, under the limit, with the n-th trial watched
  unfoldable pub course_of : Plan → Option ℕ → List Float → Course
  course_of p part x = shown n part (driven at (λ q. ev q.at) l 0 (descent (problem_of p) x))

  module _ (part : ℕ → List Float → Option ℕ) (after : ℕ → Rest → Option ℕ) where
    pub record Parts : Type 0 where
      pub at_stop : (u : ℕ) (r : Why) → after u (stop r) ≡ None
      pub at_value : (u : ℕ) (q : Asked (List Float)) (k : Totals → Rest) (c : Totals) → (metered at (l - u) 0 (ev q.at)).ended ≡ done c → after u (ask q k) ≡ after (u + (metered at (l - u) 0 (ev q.at)).used) (k c)
      pub at_stopped : (u : ℕ) (q : Asked (List Float)) (k : Totals → Rest) (r : Why) → (metered at (l - u) 0 (ev q.at)).ended ≡ stopped r → after u (ask q k) ≡ part (l - u) q.at
      pub at_short : (u : ℕ) (q : Asked (List Float)) (k : Totals → Rest) → (metered at (l - u) 0 (ev q.at)).ended ≡ short → after u (ask q k) ≡ part (l - u) q.at

    module _ (parts : Parts) (answer : ℕ → List Float → Answer) (is : (l : ℕ) (x : List Float) → answer l x ≡ answer_in (metered at l 0 (ev x)) (part l x)) where
      module _ (u : ℕ) (q : Asked (List Float)) (k : Totals → Rest) where
        abbrev spent : ℕ
        spent = u + (metered at (l - u) 0 (ev q.at)).used

        by_end : ((c : Totals) → comes_to answer l n spent (k c) ≡ shown n (after spent (k c)) (driven at (λ q. ev q.at) l spent (k c))) → (e : Ended Totals) → (metered at (l - u) 0 (ev q.at)).ended ≡ e → after_value answer l n q spent (value_in e (part (l - u) q.at)) (λ c. comes_to answer l n spent (k c)) ≡ shown n (after u (ask q k)) (heard q e spent (λ c m. driven at (λ q. ev q.at) l m (k c)))
        by_end go (done c) h = go c ∙ ap (λ o. shown n o (driven at (λ q. ev q.at) l spent (k c))) (sym (parts.at_value u q k c h))
        by_end go (stopped r) h = rw (parts.at_stopped u q k r h)
        by_end go short h = rw (parts.at_short u q k h)

      rest_is : (u : ℕ) (w : Rest) → comes_to answer l n u w ≡ shown n (after u w) (driven at (λ q. ev q.at) l u w)
      unfolding comes_to driven
      rest_is u (ret d) = refl
      rest_is u (stop r) = rw (parts.at_stop u r)
      rest_is u (ask q k) = rw (is (l - u) q.at, share at (ev q.at) l u) (by_end u q k (λ c. rest_is (u + (metered at (l - u) 0 (ev q.at)).used) (k c)) (metered at (l - u) 0 (ev q.at)).ended refl)

      pub course_is : (p : Plan) (x : List Float) → course_by answer l n p x ≡ course_of p (after 0 (descent (problem_of p) x)) x
      unfolding course_by course_of
      course_is p x = rest_is 0 (descent (problem_of p) x)

-- where no part is named
pub no_parts : {E Y : Type 0} (at : E → Y) (ev : List Float → Work E Y Totals) (l n : ℕ) → Parts at ev l n (λ l x. None) (λ u w. None)
no_parts at ev l n = record { at_stop = λ u r. refl; at_value = λ u q k c h. refl; at_stopped = λ u q k r h. refl; at_short = λ u q k h. refl }
