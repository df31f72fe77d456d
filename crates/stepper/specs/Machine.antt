-- The states of the descent that is driven from outside, as the code has them.
use Rattle.std.specs.Prelude.{Bool, true, false, cond, ◌||◌, List, ℕ, zero, suc, ◌+◌, leb, ltb, Float, Result, Ok, Err}
use Rattle.std.specs.Float.Ieee.{le}
use Rattle.num.specs.F64.{◌⊗◌, zero·, half·, one·}
use Rattle.descent.specs.declared.Status.{Status}
use Rattle.descent.specs.declared.Status.TheVariants.{Converged, EvaluationLimit, IterationLimit, LineSearchFailed}
use Rattle.descent.specs.declared.Trial.{Trial}
use Rattle.descent.specs.declared.Trial.TheVariants.{CutOff}
use Rattle.descent.specs.Status.{taken_of}
use Rattle.descent.specs.Descent.{Problem}
use Rattle.value.specs.declared.Totals.{Totals}
use Rattle.value.specs.Totals.{no_totals}
use Rattle.step.specs.Step.{project_of, direction_of, candidate_of, slope_of, still_of}
use Rattle.trial.specs.declared.watch.Watch.{Watch}
use Rattle.trial.specs.Judged.{norm_at_of, idle_of, judged_of}
use Rattle.trial.specs.Watch.{begun_of, noted_of}
use Rattle.stepper.specs.declared.Plan.{Plan}
use Rattle.stepper.specs.declared.Stepper.{Stepper}
use Rattle.stepper.specs.declared.Phase.{Phase}
use Rattle.stepper.specs.declared.Phase.TheVariants.{AtStart, AtTrial, Over}

abbrev pub direction_at_of : List Float → List Float → List Float → Totals → List Float
direction_at_of lo hi x v = direction_of x (project_of x v.gradient lo hi) v.hessian lo hi

-- the descent of crates/descent in four coordinates
abbrev pub problem_of : Plan → Problem (List Float) Totals (List Float)
problem_of p =
    record {
      nll = λ v. v.nll;
      norm = norm_at_of p.region.lo p.region.hi;
      direction = direction_at_of p.region.lo p.region.hi;
      candidate = λ x d alpha. candidate_of x d alpha p.region.lo p.region.hi;
      slope = λ x v next. slope_of v.gradient next x;
      still = still_of;
      tolerance = p.tolerance;
      most = p.most.0;
      turns = p.turns.0;
    }

-- ---- the states

abbrev pub awaits_of : Phase → Bool
awaits_of AtStart = true
awaits_of AtTrial = true
awaits_of (Over _) = false

-- whether a trial is awaited
abbrev pub tries_of : Phase → Bool
tries_of AtStart = false
tries_of AtTrial = true
tries_of (Over _) = false

abbrev pub by_phase : {A : Type 0} → Phase → A → A → A → A
by_phase AtStart start trial over = start
by_phase AtTrial start trial over = trial
by_phase (Over _) start trial over = over

unfoldable pub one_more_of : ℕ → ℕ → ℕ
one_more_of n most = cond (ltb n most) (n + 1) n

abbrev pub state_of : Phase → List Float → List Float → Totals → ℕ → ℕ → List Float → Float → ℕ → Watch → Stepper
state_of phase next x v e k way alpha left w =
    record {
      phase = phase;
      next = next;
      x = x;
      v = v;
      evaluations = record { 0 = e };
      iterations = record { 0 = k };
      way = way;
      alpha = alpha;
      left = left;
      watch = w;
    }

abbrev pub begin_of : List Float → ℕ → Stepper
begin_of x wanted = state_of AtStart x x no_totals 1 0 x zero· 0 (begun_of wanted)

abbrev pub line_of : List Float → List Float → Totals → ℕ → ℕ → Watch → Stepper
line_of way x v e k w = state_of AtTrial x x v e k way one· 48 w

abbrev pub over_of : Status → Stepper → Watch → Stepper
over_of status s w = state_of (Over status) s.next s.x s.v s.evaluations.0 s.iterations.0 s.way s.alpha s.left w

-- after a trial that took no step
abbrev pub halved_of : Stepper → Trial → Stepper
halved_of s t =
    state_of s.phase s.next s.x s.v s.evaluations.0 s.iterations.0 s.way (s.alpha ⊗ half·) s.left (noted_of t s.watch)

abbrev pub awaiting_of : Stepper → ℕ → ℕ → List Float → Stepper
awaiting_of s most left next =
    state_of s.phase next s.x s.v (one_more_of s.evaluations.0 most) s.iterations.0 s.way s.alpha left s.watch

unfoldable pub failed_of : ℕ → ℕ → Status
failed_of most e = cond (leb most e) EvaluationLimit LineSearchFailed

-- what follows a trial that wants a value, and one that took no step
abbrev pub by_offer : {A : Type 0} → Result (List Float) Trial → (List Float → A) → (Trial → A) → A
by_offer (Ok next) wants idle = wants next
by_offer (Err t) wants idle = idle t

module _ (p : Plan) where
  -- a search that found nothing
  abbrev pub ended_of : Stepper → Watch → Stepper
  ended_of s w = over_of (failed_of p.most.0 s.evaluations.0) s w

  abbrev pub next_of : Stepper → List Float
  next_of s = candidate_of s.x s.way s.alpha p.region.lo p.region.hi

  abbrev pub slope_at : Stepper → Float
  slope_at s = slope_of s.v.gradient (next_of s) s.x

  -- a trial: the candidate whose value it wants, or a trial that took no step
  unfoldable pub offered_of : Stepper → Result (List Float) Trial
  offered_of s = cond (le zero· (slope_at s) || still_of (next_of s) s.x) (Err (idle_of (slope_at s))) (Ok (next_of s))

  -- the first of at most n trials that wants a value, or the end of the search
  unfoldable pub propose_from : ℕ → Stepper → Stepper
  propose_from zero s = ended_of s s.watch
  propose_from (suc n) s =
      cond (leb p.most.0 s.evaluations.0) (ended_of s (noted_of CutOff s.watch))
      (by_offer (offered_of s) (λ next. awaiting_of s p.most.0 n next) (λ t. propose_from n (halved_of s t)))

  unfoldable pub propose_of : Stepper → Stepper
  propose_of s = propose_from s.left s

  -- at a point with its value: the three tests at the loop's head, and a search
  unfoldable pub arrive_of : List Float → Totals → ℕ → ℕ → Watch → Stepper
  arrive_of x v e k w =
      let s = line_of (direction_at_of p.region.lo p.region.hi x v) x v e k w in
      cond (le (norm_at_of p.region.lo p.region.hi x v) p.tolerance) (over_of Converged s w)
      (cond (leb p.most.0 e) (over_of EvaluationLimit s w)
      (cond (leb p.turns.0 k) (over_of IterationLimit s w)
      (propose_of s)))

  -- told the value at the candidate of a trial
  abbrev pub judge_of : Stepper → Totals → Stepper
  judge_of s c =
      let t = judged_of p.region.lo p.region.hi s.x s.v s.next c in
      cond (taken_of t) (arrive_of s.next c s.evaluations.0 (one_more_of s.iterations.0 p.turns.0) (noted_of t s.watch))
      (propose_of (halved_of s t))

  -- told the value that was awaited
  unfoldable pub tell_of : Stepper → Totals → Stepper
  tell_of s c = by_phase s.phase (arrive_of s.next c s.evaluations.0 s.iterations.0 s.watch) (judge_of s c) (judge_of s c)
