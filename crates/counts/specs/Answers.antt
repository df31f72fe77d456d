-- What is known of the objective's answers: an admitted call counts every event, answered or refused; every other is InvalidInput, with no pass.
use Rattle.std.specs.Prelude.{◌≡◌, true, false, List, ℕ, Float, Result, Ok, Err}
use Rattle.std.proofs.Common.{ap, ◌∙◌}
use Rattle.elementary.specs.Log.{log_of}
use Rattle.work.specs.declared.Refusal.TheVariants.{InvalidInput, Domain}
use Rattle.work.specs.Answer.{outcome}
use Rattle.work.specs.Work.{run, listed}
use Rattle.work.specs.Metered.{split}
use Rattle.exposure.specs.Rows.{events_of}
use Rattle.counts.specs.declared.sum.Objective.{Objective}
use Rattle.counts.specs.declared.sum.Refused.{Refused}
use Rattle.counts.specs.Rows.{finite_of, totals_of}
use Rattle.counts.specs.Objective.{admits, objective, in_full, to_objective, refused_of, answered, objective_of, evaluated_of, told_of}
use Rattle.counts.specs.Counted.{tested_of, evaluates_in_full}

-- the test after the last row, at the code's answer
by_test : (x y : Float) (cs : List ℕ) (es : List Float) → answered (events_of cs) (outcome (tested_of (totals_of x y cs es))) ≡ told_of (evaluated_of x y cs es)
unfolding tested_of evaluated_of
by_test x y cs es = split (finite_of (totals_of x y cs es)) (λ t. rw t) (λ t. rw t)

-- the passes of an answer or of a refusal
abbrev pub passes_of : Result Objective Refused → ℕ
passes_of (Ok o) = o.passes.0
passes_of (Err e) = e.passes.0

module _ (shape rate : Float) (cs : List ℕ) (es : List Float) where
  pub objective_admitted : admits shape rate cs es ≡ true → objective_of shape rate cs es ≡ told_of (evaluated_of (log_of shape) (log_of rate) cs es)
  unfolding objective_of objective
  objective_admitted h = rw h (ap (λ m. answered m.used (outcome m.ended)) (evaluates_in_full (log_of shape) (log_of rate) cs es) ∙ by_test (log_of shape) (log_of rate) cs es)

  pub objective_refused : admits shape rate cs es ≡ false → objective_of shape rate cs es ≡ Err (refused_of InvalidInput 0)
  unfolding objective_of objective in_full run listed
  objective_refused h = rw h

  -- its ending, and its count where it got past the checks
  pub record Ends (o : Result Objective Refused) : Type 0 where
    pub passes : passes_of o ≡ events_of cs
    pub answered : finite_of (totals_of (log_of shape) (log_of rate) cs es) ≡ true → o ≡ Ok (to_objective (events_of cs) (totals_of (log_of shape) (log_of rate) cs es))
    pub refused : finite_of (totals_of (log_of shape) (log_of rate) cs es) ≡ false → o ≡ Err (refused_of (Domain 6) (events_of cs))

  ends_by : Ends (told_of (evaluated_of (log_of shape) (log_of rate) cs es))
  unfolding evaluated_of
  ends_by =
      let v = totals_of (log_of shape) (log_of rate) cs es in
      record {
        passes = split (finite_of v) (λ t. rw t) (λ t. rw t);
        answered = λ t. rw t;
        refused = λ t. rw t;
      }

  pub objective_ends : admits shape rate cs es ≡ true → Ends (objective_of shape rate cs es)
  objective_ends h = rw (objective_admitted h) ends_by
