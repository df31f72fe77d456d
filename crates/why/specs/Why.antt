-- Why the n-th trial of a descent ended as it did, counted from 1, where the refused trial is the one after the last; and what stopped the descent.
use Rattle.std.specs.Prelude.{◌≡◌, refl, Bool, true, false, ◌&&◌, cond, List, ℕ, ◌+◌, ◌-◌, ◌≤◌, ◌<◌, ◌==◌, leb, ltb, length, Float, Option, Some, None, Result, Ok, Err}
use Rattle.std.proofs.Common.{◌∙◌, arith, rules, leb-true, leb-false, ltb-true, ltb-false}
use Rattle.work.specs.declared.Refusal.{Refusal}
use Rattle.work.specs.declared.Refusal.TheVariants.{WorkBudget}
use Rattle.work.specs.Answer.{refusal_of}
use Rattle.work.specs.Ended.{Ended, done, stopped, short}
use Rattle.work.specs.Metered.{split}
use Rattle.descent.specs.declared.Status.{Status}
use Rattle.descent.specs.declared.Status.TheVariants.{Converged, EvaluationLimit, IterationLimit, LineSearchFailed}
use Rattle.descent.specs.declared.Trial.{Trial}
use Rattle.descent.specs.declared.Trial.TheVariants.{NotDownhill, NotMoved, TooLittle, ByDecrease, ByRounding, CutOff}
use Rattle.work.specs.Through.{Open, Driven}
use Rattle.descent.specs.Descent.{Asked, Descended}
use Rattle.value.specs.declared.Totals.{Totals}
use Rattle.trial.specs.declared.watch.Since.{Since}
use Rattle.trial.specs.declared.watch.Since.TheVariants.{Arrived, Missed, Cut}
use Rattle.trial.specs.declared.watch.Watch.{Watch}
use Rattle.trial.specs.Watch.{watch_of, trial_at, watch_left, watch_kept, watch_none, watch_coming, since_in, watch_since}
use Rattle.course.specs.declared.Stopped.{Stopped}
use Rattle.course.specs.declared.Refused as course
use Rattle.course.specs.declared.Course.{Course}
use Rattle.course.specs.Course.{trial_in, trials_in, ended_at, shown}
use Rattle.why.specs.declared.Test.{Test}
use Rattle.why.specs.declared.Test.TheVariants.{Norm, Evaluations, Iterations, Halvings, Spent}
use Rattle.why.specs.declared.Refused.{Refused}

-- What a trial came to: it was made, or the objective refused at it. None: there is none of that number.
abbrev pub Why : Type 0
Why = Option (Result Trial Refusal)

abbrev pub made : Trial → Why
made t = Some (Ok t)

abbrev pub refused_for : Refusal → Why
refused_for r = Some (Err r)

-- ---- the trial

-- the refused trial is the one after the last
abbrev pub refused_in : Ended (Descended (List Float) Totals) → Bool → Why
refused_in (done d) b = None
refused_in (stopped r) b = cond b (refused_for (refusal_of r)) None
refused_in short b = cond b (refused_for WorkBudget) None

-- of a run, with the trials before its end
abbrev pub why_of : ℕ → Driven (Asked (List Float)) (Descended (List Float) Totals) → Why
why_of n d =
    let ts = trials_in d.ended d.asked in
    cond (ltb n 1) None
    (cond (leb n (length ts)) (made (trial_at n ts))
    (refused_in d.ended (leb n (length ts + 1) && trial_in d.asked)))

-- as code has it
abbrev pub refused_by : Result Stopped course.Refused → ℕ → Why
refused_by (Ok s) left = None
refused_by (Err e) left = cond (left == 1 && e.trial) (refused_for e.refusal) None

abbrev pub kept_or : Option Trial → Why → Why
kept_or (Some t) w = made t
kept_or None w = w

unfoldable pub why_in : Course → Why
why_in c = kept_or c.watch.kept (refused_by c.end c.watch.left)

-- the two are the same
one_left : (n l : ℕ) → l < n → n ≤ l + 1 → (n - l == 1) ≡ true
one_left n l h k = let z : n - l ≡ 1 = omega arith in rw z

more_left : (n l : ℕ) → l + 1 < n → (n - l == 1) ≡ false
more_left n l h = let z : 2 ≤ n - l = omega arith in search rules

none_left : (l : ℕ) → (0 - l == 1) ≡ false
none_left l = let z : 0 - l ≡ 0 = omega arith in rw z

pub no_trial : (e : Ended (Descended (List Float) Totals)) → refused_in e false ≡ None
no_trial (done d) = refl
no_trial (stopped r) = refl
no_trial short = refl

by_watch : (part : Option ℕ) (u : ℕ) (w : Watch) (t : Bool) (e : Ended (Descended (List Float) Totals)) → why_in (ended_at u w t part e) ≡ kept_or w.kept (refused_in e (w.left == 1 && t))
unfolding why_in
by_watch part u w t (done d) = refl
by_watch part u w t (stopped r) = refl
by_watch part u w t short = refl

by_count : (n : ℕ) (ts : List Trial) (t : Bool) (e : Ended (Descended (List Float) Totals)) → (let w = watch_of n ts in kept_or w.kept (refused_in e (w.left == 1 && t)) ≡ cond (ltb n 1) None (cond (leb n (length ts)) (made (trial_at n ts)) (refused_in e (leb n (length ts + 1) && t))))
by_count n ts t e =
    let l = length ts in
    let g = watch_left n ts in
    split (ltb n 1)
    (λ z. let y : n ≡ 0 = omega (arith, ltb-true n 1 z) in rw (z, y, watch_none ts, watch_left 0 ts, none_left l) (no_trial e))
    (λ z.
    let h : 1 ≤ n = ltb-false n 1 z in
    split (leb n l)
    (λ t. rw (z, t, watch_kept n ts h (leb-true n l t)))
    (λ f.
    let k = leb-false n l f in
    split (leb n (l + 1))
    (λ u. rw (z, f, u, watch_coming n ts k, g, one_left n l k (leb-true n (l + 1) u)))
    (λ u. rw (z, f, u, watch_coming n ts k, g, more_left n l (leb-false n (l + 1) u)))))

pub why_is : (n : ℕ) (part : Option ℕ) (d : Driven (Asked (List Float)) (Descended (List Float) Totals)) → why_in (shown n part d) ≡ why_of n d
why_is n part d =
    let ts = trials_in d.ended d.asked in
    by_watch part d.used (watch_of n ts) (trial_in d.asked) d.ended ∙ by_count n ts (trial_in d.asked) d.ended

-- ---- what stopped it

-- the evaluations were spent: no trial since the last step, 48 of them, or fewer
abbrev pub spent_by_of : Since → Test
spent_by_of Arrived = Evaluations
spent_by_of Missed = Halvings
spent_by_of Cut = Spent

abbrev pub test_by : Status → Test → Test
test_by Converged _ = Norm
test_by EvaluationLimit by = by
test_by IterationLimit _ = Iterations
test_by LineSearchFailed _ = Halvings

abbrev pub test_in : Status → Since → Test
test_in status s = test_by status (spent_by_of s)

-- of what a descent came to: specs/Stopped.antt proves that this is the branch it took
abbrev pub test_of : {X O : Type 0} → Descended X O → Test
test_of d = test_in d.status (since_in d.trials)

-- of a run, with the litter at which it was refused
abbrev pub refusal_at : Refusal → Option ℕ → Result Test Refused
refusal_at r litter = Err (record { refusal = r; litter = litter })

abbrev pub ended_by : Ended (Descended (List Float) Totals) → Option ℕ → Result Test Refused
ended_by (done d) litter = Ok (test_of d)
ended_by (stopped r) litter = refusal_at (refusal_of r) litter
ended_by short litter = refusal_at WorkBudget litter

abbrev pub stop_of : Driven (Asked (List Float)) (Descended (List Float) Totals) → Option ℕ → Result Test Refused
stop_of d litter = ended_by d.ended litter

-- as code has it
abbrev end_in : Result Stopped course.Refused → Since → Result Test Refused
end_in (Ok s) since = Ok (test_in s.status since)
end_in (Err e) since = refusal_at e.refusal e.part

abbrev pub stop_in : Course → Result Test Refused
stop_in c = end_in c.end c.watch.since

-- the two are the same, whichever trial was watched
by_ending : (n : ℕ) (e : Ended (Descended (List Float) Totals)) (u : ℕ) (q : Open (Asked (List Float))) (litter : Option ℕ) → stop_in (shown n litter (record { ended = e; used = u; asked = q })) ≡ stop_of (record { ended = e; used = u; asked = q }) litter
by_ending n (done d) u q litter = rw (watch_since n d.trials)
by_ending n (stopped r) u q litter = refl
by_ending n short u q litter = refl

pub stop_is : (n : ℕ) (d : Driven (Asked (List Float)) (Descended (List Float) Totals)) (litter : Option ℕ) → stop_in (shown n litter d) ≡ stop_of d litter
stop_is n d litter = by_ending n d.ended d.used d.asked litter

-- kinds and tests as a host is given them
abbrev pub kind_of : Trial → ℕ
kind_of (NotDownhill slope) = 1
kind_of NotMoved = 2
kind_of (TooLittle missed) = 3
kind_of (ByDecrease slope) = 4
kind_of (ByRounding allowance) = 5
kind_of CutOff = 6

abbrev pub test_number : Test → ℕ
test_number Norm = 1
test_number Evaluations = 2
test_number Iterations = 3
test_number Halvings = 4
test_number Spent = 5
