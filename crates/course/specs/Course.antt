-- A descent that was driven to its end, as code reports it: its answer or its refusal, its count, and of the trials before its end the one that was watched.
use Rattle.std.specs.Prelude.{Bool, false, List, [], ℕ, Float, Option, Result, Ok, Err}
use Rattle.work.specs.declared.Refusal.{Refusal}
use Rattle.work.specs.declared.Refusal.TheVariants.{WorkBudget}
use Rattle.work.specs.Answer.{refusal_of}
use Rattle.work.specs.Ended.{Ended, done, stopped, short}
use Rattle.work.specs.Work.{Metered}
use Rattle.descent.specs.declared.Status.{Status}
use Rattle.descent.specs.declared.Trial.{Trial}
use Rattle.work.specs.Through.{Open, none, refused, Driven}
use Rattle.descent.specs.Descent.{Asked, Descended}
use Rattle.value.specs.declared.Totals.{Totals}
use Rattle.trial.specs.declared.watch.Watch.{Watch}
use Rattle.stepper.specs.declared.Stepper.{Stepper}
use Rattle.trial.specs.Watch.{watch_of}
use Rattle.stepper.specs.Machine.{tries_of}
use Rattle.stepper.specs.Stands.{reached}
use Rattle.course.specs.declared.NoValue.{NoValue}
use Rattle.course.specs.declared.Answer.{Answer}
use Rattle.course.specs.declared.Course.{Course}

-- what an objective answers of a computation that was counted, with the part that it names where there is no value
abbrev pub value_in : Ended Totals → Option ℕ → Result Totals NoValue
value_in (done c) part = Ok c
value_in (stopped r) part = Err (record { refusal = refusal_of r; part = part })
value_in short part = Err (record { refusal = WorkBudget; part = part })

abbrev pub answer_in : Metered Totals → Option ℕ → Answer
answer_in m part = record { used = m.used; value = value_in m.ended part }

-- the end of a descent
abbrev pub stopped_at : ℕ → Watch → Descended (List Float) Totals → Course
stopped_at used w d =
    record { used = used; watch = w; end = Ok (record { status = d.status; x = d.x; v = d.v; evaluations = record { 0 = d.evaluations }; iterations = record { 0 = d.iterations } }) }

abbrev pub refused_at : ℕ → Watch → Bool → Option ℕ → Refusal → Course
refused_at used w trial part r = record { used = used; watch = w; end = Err (record { refusal = r; part = part; trial = trial }) }

-- as the states of the stepper have it
abbrev pub stopped_of : Status → ℕ → Stepper → Course
stopped_of status used s = stopped_at used s.watch (reached status s [])

abbrev pub refused_of : NoValue → ℕ → Stepper → Course
refused_of e used s = refused_at used s.watch (tries_of s.phase) e.part e.refusal

-- whether a trial was refused, and the trials before the end
abbrev pub trial_in : Open (Asked (List Float)) → Bool
trial_in none = false
trial_in (refused q) = q.begun

abbrev pub trials_in : Ended (Descended (List Float) Totals) → Open (Asked (List Float)) → List Trial
trials_in (done d) q = d.trials
trials_in (stopped r) none = []
trials_in (stopped r) (refused q) = q.trials
trials_in short none = []
trials_in short (refused q) = q.trials

abbrev pub ended_at : ℕ → Watch → Bool → Option ℕ → Ended (Descended (List Float) Totals) → Course
ended_at used w trial part (done d) = stopped_at used w d
ended_at used w trial part (stopped r) = refused_at used w trial part (refusal_of r)
ended_at used w trial part short = refused_at used w trial part WorkBudget

-- with the n-th trial watched, and the part of the objective at which it was refused
abbrev pub shown : ℕ → Option ℕ → Driven (Asked (List Float)) (Descended (List Float) Totals) → Course
shown n part d = ended_at d.used (watch_of n (trials_in d.ended d.asked)) (trial_in d.asked) part d.ended
