-- How a descent stops, over any problem: every answer has the one status that its norm and its counts give, and keeps within both limits.
-- `ev` answers the descent's questions. A refusal of it, at the start or at a candidate, ends the descent with that refusal: `>>=` past a `stop` is that `stop`.
use Rattle.std.specs.Prelude.{◌≡◌, Bool, true, false, cond, List, [], ◌∷◌, ◌↔◌, leb, Float}
use Prim.Native.Nat.{ℕ, zero, suc, ◌+◌, ◌≤◌, ◌<◌}
use Rattle.std.proofs.Common.{arith}
use Rattle.std.specs.Float.Ieee.{le}
use borrow.Author.Tests.{leb-true, leb-false, le-leb, lt-leb}
use Rattle.num.specs.F64.{half·, one·, ◌⊗◌}
use Rattle.work.specs.Work.{Work}
use Rattle.work.specs.Given.{Given, Always, holds, hears, weaker, tested, passed, anything}
use Rattle.work.specs.Through.{through, answered}
use Rattle.descent.specs.declared.Status.{Status}
use Rattle.descent.specs.declared.Trial.{Trial}
use Rattle.descent.specs.declared.Status.TheVariants.{Converged, EvaluationLimit, IterationLimit, LineSearchFailed}
use Rattle.descent.specs.Descent.{Problem, Asked, Step, to, nowhere, Descended, idle, accepts, try, or_else, search, ended, failed, descend, descent}

-- The status, by the norm and the tolerance, the evaluations e of at most `most`, and the steps k of at most `turns`.
unfoldable pub status_of : Float → Float → ℕ → ℕ → ℕ → ℕ → Status
status_of norm tolerance most turns e k =
    cond (le norm tolerance) Converged
    (cond (leb most e) EvaluationLimit
    (cond (leb turns k) IterationLimit LineSearchFailed))

module _ {X O D : Type 0} (p : Problem X O D) where
  pub record Stopped (r : Descended X O) : Type 0 where
    pub status : r.status ≡ status_of (p.norm r.x r.v) p.tolerance p.most p.turns r.evaluations r.iterations
    pub within_evaluations : r.evaluations ≤ p.most
    pub within_iterations : r.iterations ≤ p.turns

-- ---- the proof. Q is whatever the objective's evaluation at a point always gives there. The start is evaluated even where `most` is 0, so the counts want 1 ≤ most.
module _ {X O D : Type 0} (p : Problem X O D) (Q : X → O → Type 0) where
  abbrev Every : {A : Type 0} → (A → Type 0) → Work (Asked X) O A → Type 0
  Every P w = Given (λ (q : Asked X) (v : O). Q q.at v) P w

  record Answer (r : Descended X O) : Type 0 where
    stopped : 1 ≤ p.most → Stopped p r
    evaluated : Q r.x r.v

  abbrev Within : ℕ → Type 0
  Within e = 1 ≤ p.most → e ≤ p.most

  data Reached : Step X O → Type 0 where
    there : {x : X} {v : O} → Q x v → Reached (to x v)
    none : Reached nowhere

  -- what a trial or a search comes to, with n evaluations behind it
  record Sought (n : ℕ) (s : Step X O) : Type 0 where
    within : Within n
    reached : Reached s

  by_step : {B : Type 0} {R : B → Type 0} {s : Step X O} {go : X → O → Work (Asked X) O B} {halt : Work (Asked X) O B} → Reached s → ((x : X) (v : O) → Q x v → Every R (go x v)) → Every R halt → Every R (or_else p go halt s)
  by_step (there q) g h = g _ _ q
  by_step none g h = h

  tried : (x : X) (v : O) (d : D) (alpha : Float) (e : ℕ) (ts : List Trial) → e < p.most → Every (λ t. Sought t.evaluations t.step) (try p x v d alpha e ts)
  unfolding try
  tried x v d alpha e ts h =
      let next = p.candidate x d alpha in
      tested (idle p x v next) (λ t. holds (record { within = λ o. omega arith; reached = none }))
      (λ t. hears (λ c q.
      tested (accepts p x v next c) (λ t. holds (record { within = λ o. omega arith; reached = there q }))
      (λ t. holds (record { within = λ o. omega arith; reached = none }))))

  sought : (x : X) (v : O) (d : D) (n : ℕ) (alpha : Float) (e : ℕ) (ts : List Trial) → Within e → Every (λ s. Sought s.evaluations s.step) (search p x v d n alpha e ts)
  unfolding search
  sought x v d zero alpha e ts h = holds (record { within = h; reached = none })
  sought x v d (suc n) alpha e ts h =
      tested (leb p.most e) (λ t. holds (record { within = h; reached = none }))
      (λ t.
      passed (tried x v d alpha e ts (leb-false p.most e t)) (λ r g.
      by_step g.reached (λ next c q. holds (record { within = g.within; reached = g.reached }))
      (sought x v d n (alpha ⊗ half·) r.evaluations (r.trial ∷ ts) g.within)))

  answer : (s : Status) (x : X) (v : O) (e k : ℕ) (ts : List Trial) → Q x v → Within e → k ≤ p.turns → s ≡ status_of (p.norm x v) p.tolerance p.most p.turns e k → Answer (ended p s x v e k ts)
  answer s x v e k ts q h l t = record { stopped = λ o. record { status = t; within_evaluations = h o; within_iterations = l }; evaluated = q }

  answers : (n : ℕ) (x : X) (v : O) (e k : ℕ) (ts : List Trial) → Q x v → Within e → k + n ≡ p.turns → Every Answer (descend p n x v e k ts)
  unfolding descend status_of
  answers zero x v e k ts q h l =
      tested (le (p.norm x v) p.tolerance) (λ t. holds (answer Converged x v e k ts q h (omega arith) (rw t)))
      (λ f.
      tested (leb p.most e) (λ t. holds (answer EvaluationLimit x v e k ts q h (omega arith) (rw (f, t))))
      (λ t. holds (answer IterationLimit x v e k ts q h (omega arith) (rw (f, t, le-leb p.turns k (omega arith))))))
  answers (suc n) x v e k ts q h l =
      tested (le (p.norm x v) p.tolerance) (λ t. holds (answer Converged x v e k ts q h (omega arith) (rw t)))
      (λ f.
      tested (leb p.most e) (λ t. holds (answer EvaluationLimit x v e k ts q h (omega arith) (rw (f, t))))
      (λ t.
      passed (sought x v (p.direction x v) 48 one· e ts h) (λ s g.
      by_step g.reached (λ next c q'. answers n next c s.evaluations (k + 1) s.trials q' g.within (omega arith))
      (holds (answer (failed p s.evaluations) x v s.evaluations k s.trials q g.within (omega arith) (rw (f, lt-leb p.turns k (omega arith))))))))

  descent_answers : (x : X) → Every Answer (descent p x)
  descent_answers x = hears (λ v q. answers p.turns x v 1 0 [] q (λ o. o) (omega arith))

-- ---- the theorems
module _ {X O D : Type 0} (p : Problem X O D) {E Y : Type 0} (ev : Asked X → Work E Y O) where
  -- Every answer of a descent has the one status that its norm and its counts give, and keeps within both limits.
  pub stops : 1 ≤ p.most → (x : X) → Always (Stopped p) (through ev (descent p x))
  stops h x = weaker (λ r a. a.stopped h) (answered ev (λ q. anything (λ v. tt) (ev q)) (descent_answers p (λ x v. Unit {0}) x))

  -- The value reported is one that was given for the point reported: it has whatever is known of every value given there.
  pub reports_evaluated : {G : E → Y → Type 0} (Q : X → O → Type 0) → ((q : Asked X) → Given G (Q q.at) (ev q)) → (x : X) → Given G (λ r. Q r.x r.v) (through ev (descent p x))
  reports_evaluated Q h x = weaker (λ r a. a.evaluated) (answered ev h (descent_answers p Q x))

-- which tests each status stands for
record ByTests (s : Status) (a b c : Bool) : Type 0 where
  converged : (s ≡ Converged) ↔ (a ≡ true)
  evaluation_limit : (s ≡ EvaluationLimit) ↔ ((a ≡ false) × (b ≡ true))
  iteration_limit : (s ≡ IterationLimit) ↔ ((a ≡ false) × (b ≡ false) × (c ≡ true))
  line_search_failed : (s ≡ LineSearchFailed) ↔ ((a ≡ false) × (b ≡ false) × (c ≡ false))

by_tests : (s : Status) (a b c : Bool) → s ≡ cond a Converged (cond b EvaluationLimit (cond c IterationLimit LineSearchFailed)) → ByTests s a b c
by_tests s true b c e = record { converged = (λ h. cc, λ h. cc); evaluation_limit = (λ h. (cc, cc), λ h. cc); iteration_limit = (λ h. (cc, cc, cc), λ h. cc); line_search_failed = (λ h. (cc, cc, cc), λ h. cc) }
by_tests s false true c e = record { converged = (λ h. cc, λ h. cc); evaluation_limit = (λ h. (cc, cc), λ h. cc); iteration_limit = (λ h. (cc, cc, cc), λ h. cc); line_search_failed = (λ h. (cc, cc, cc), λ h. cc) }
by_tests s false false true e = record { converged = (λ h. cc, λ h. cc); evaluation_limit = (λ h. (cc, cc), λ h. cc); iteration_limit = (λ h. (cc, cc, cc), λ h. cc); line_search_failed = (λ h. (cc, cc, cc), λ h. cc) }
by_tests s false false false e = record { converged = (λ h. cc, λ h. cc); evaluation_limit = (λ h. (cc, cc), λ h. cc); iteration_limit = (λ h. (cc, cc, cc), λ h. cc); line_search_failed = (λ h. (cc, cc, cc), λ h. cc) }

-- The rule, said of a status, a norm and two counts: each status exactly, and both counts within their limits. A norm that is NaN is not at most the tolerance.
pub record ByRule (status : Status) (norm tolerance : Float) (evaluations most iterations turns : ℕ) : Type 0 where
  -- exactly if the norm is at most the tolerance
  pub converged : (status ≡ Converged) ↔ (le norm tolerance ≡ true)
  -- exactly if it is not, and every evaluation is used
  pub evaluation_limit : (status ≡ EvaluationLimit) ↔ ((le norm tolerance ≡ false) × (evaluations ≡ most))
  -- exactly if it is not, evaluations are left, and every step is used
  pub iteration_limit : (status ≡ IterationLimit) ↔ ((le norm tolerance ≡ false) × (evaluations < most) × (iterations ≡ turns))
  -- exactly if it is not, and evaluations and steps are left
  pub line_search_failed : (status ≡ LineSearchFailed) ↔ ((le norm tolerance ≡ false) × (evaluations < most) × (iterations < turns))
  pub within_evaluations : evaluations ≤ most
  pub within_iterations : iterations ≤ turns

pub by_rule : (status : Status) (norm tolerance : Float) (e most k turns : ℕ) → status ≡ status_of norm tolerance most turns e k → e ≤ most → k ≤ turns → ByRule status norm tolerance e most k turns
unfolding status_of
by_rule status norm tolerance e most k turns s h l =
    let t = by_tests status (le norm tolerance) (leb most e) (leb turns k) s in
    record {
      converged = t.converged;
      evaluation_limit = (λ i. ((t.evaluation_limit.0 i).0, omega (arith, leb-true most e (t.evaluation_limit.0 i).1)), λ i. t.evaluation_limit.1 (i.0, le-leb most e (omega arith)));
      iteration_limit = (
        λ i. ((t.iteration_limit.0 i).0, leb-false most e (t.iteration_limit.0 i).1, omega (arith, leb-true turns k (t.iteration_limit.0 i).2)),
        λ i. t.iteration_limit.1 (i.0, lt-leb most e i.1, le-leb turns k (omega arith)),
      );
      line_search_failed = (
        λ i. ((t.line_search_failed.0 i).0, leb-false most e (t.line_search_failed.0 i).1, leb-false turns k (t.line_search_failed.0 i).2),
        λ i. t.line_search_failed.1 (i.0, lt-leb most e i.1, lt-leb turns k i.2),
      );
      within_evaluations = h;
      within_iterations = l;
    }
