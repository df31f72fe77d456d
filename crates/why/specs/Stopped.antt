-- The test that is named for a descent's end is the one by which the definition took that branch: of every answer, whatever the values were.
use Rattle.std.specs.Prelude.{◌≡◌, refl, true, false, List, [], ◌∷◌, leb, Float}
use Prim.Native.Nat.{ℕ, zero, suc, ◌+◌, ◌<◌}
use native.Mathlib.Omega.{arith}
use Rattle.std.proofs.Common.{le-leb}
use Rattle.std.specs.Float.Ieee.{le}
use Rattle.num.specs.F64.{zero·, half·, one·, ◌⊗◌}
use Rattle.work.specs.Work.{Work}
use Rattle.work.specs.Metered.{split}
use Rattle.work.specs.Given.{Always, holds, hears, tested, passed}
use Rattle.descent.specs.declared.Trial.{Trial}
use Rattle.descent.specs.declared.Trial.TheVariants.{CutOff}
use Rattle.descent.specs.Descent.{Problem, Asked, Step, to, nowhere, Descended, decreases, idle, idle_trial, accepts, accepted_trial, try, or_else, search, ended, failed, descend, descent}
use Rattle.trial.specs.declared.watch.Since.TheVariants.{Arrived, Missed}
use Rattle.trial.specs.Watch.{by_newest_of, since_in}
use Rattle.why.specs.declared.Test.{Test}
use Rattle.why.specs.declared.Test.TheVariants.{Norm, Evaluations, Iterations, Halvings, Spent}
use Rattle.why.specs.Why.{test_of}

-- the newest n trials took no step, and none is cut off; before them a step was taken, or there is no trial
pub data Misses : ℕ → List Trial → Type 0 where
  arrived : {ts : List Trial} → since_in ts ≡ Arrived → Misses 0 ts
  missed : {n : ℕ} {t : Trial} {ts : List Trial} → by_newest_of t ≡ Missed → Misses n ts → Misses (suc n) (t ∷ ts)

-- the outcome of the source's tests in its order, as they were when the descent stopped with r
pub data StoppedBy {X O D : Type 0} (p : Problem X O D) (r : Descended X O) : Test → Type 0 where
  -- at the head, no trial since the last step
  by_norm : Misses 0 r.trials → le (p.norm r.x r.v) p.tolerance ≡ true → StoppedBy p r Norm
  by_evaluations : Misses 0 r.trials → le (p.norm r.x r.v) p.tolerance ≡ false → leb p.most r.evaluations ≡ true → StoppedBy p r Evaluations
  by_iterations : Misses 0 r.trials → le (p.norm r.x r.v) p.tolerance ≡ false → leb p.most r.evaluations ≡ false → leb p.turns r.iterations ≡ true → StoppedBy p r Iterations
  -- in a search: all 48 trials were made and took no step
  by_halvings : le (p.norm r.x r.v) p.tolerance ≡ false → Misses 48 r.trials → StoppedBy p r Halvings
  -- or fewer, and the next was cut off
  by_spent : le (p.norm r.x r.v) p.tolerance ≡ false → (n : ℕ) → n < 48 → (ts : List Trial) → Misses n ts → r.trials ≡ CutOff ∷ ts → leb p.most r.evaluations ≡ true → StoppedBy p r Spent

-- ---- the proof
not_both : {Z : Type 0} → Arrived ≡ Missed → Z
not_both e = let z : ◌≡◌ {A = ℕ} 0 1 = cc in absurd (omega arith)

misses_since : {n : ℕ} {ts : List Trial} → Misses (suc n) ts → since_in ts ≡ Missed
misses_since (missed h m) = h

module _ {X O D : Type 0} (p : Problem X O D) where
  abbrev Every : {A : Type 0} → (A → Type 0) → Work (Asked X) O A → Type 0
  Every P w = Always P w

  data Trying : Step X O → Trial → Type 0 where
    hit : {x : X} {v : O} {t : Trial} → by_newest_of t ≡ Arrived → Trying (to x v) t
    miss : {t : Trial} → by_newest_of t ≡ Missed → Trying nowhere t

  data Sought : Step X O → ℕ → List Trial → Type 0 where
    found : {x : X} {v : O} {e : ℕ} {ts : List Trial} → since_in ts ≡ Arrived → Sought (to x v) e ts
    halved : {e : ℕ} {ts : List Trial} → Misses 48 ts → Sought nowhere e ts
    cut : {e m : ℕ} {ts : List Trial} → leb p.most e ≡ true → m < 48 → Misses m ts → Sought nowhere e (CutOff ∷ ts)

  idle_missed : (x : X) (v : O) (next : X) → by_newest_of (idle_trial p x v next) ≡ Missed
  idle_missed x v next = split (le zero· (p.slope x v next)) (λ b. rw b) (λ b. rw b)

  accepted_arrived : (x : X) (v : O) (next : X) (c : O) → by_newest_of (accepted_trial p x v next c) ≡ Arrived
  accepted_arrived x v next c = split (decreases (p.nll v) (p.slope x v next) (p.nll c)) (λ b. rw b) (λ b. rw b)

  tried : (x : X) (v : O) (d : D) (alpha : Float) (e : ℕ) (ts : List Trial) → Every (λ t. Trying t.step t.trial) (try p x v d alpha e ts)
  unfolding try
  tried x v d alpha e ts =
      let next = p.candidate x d alpha in
      tested (idle p x v next) (λ t. holds (miss (idle_missed x v next)))
      (λ t. hears (λ c q. tested (accepts p x v next c) (λ t. holds (hit (accepted_arrived x v next c))) (λ t. holds (miss refl))))

  by_try : {B : Type 0} {R : B → Type 0} {s : Step X O} {t : Trial} {go : X → O → Work (Asked X) O B} {halt : Work (Asked X) O B} → Trying s t → ((x : X) (v : O) → by_newest_of t ≡ Arrived → Every R (go x v)) → (by_newest_of t ≡ Missed → Every R halt) → Every R (or_else p go halt s)
  by_try (hit h) g k = g _ _ h
  by_try (miss h) g k = k h

  found_by : {s : Step X O} {t : Trial} (e : ℕ) (ts : List Trial) → Trying s t → by_newest_of t ≡ Arrived → Sought s e (t ∷ ts)
  found_by e ts (hit h) a = found a
  found_by e ts (miss h) a = not_both (cc)

  sought : (x : X) (v : O) (d : D) (n m : ℕ) (alpha : Float) (e : ℕ) (ts : List Trial) → Misses m ts → m + n ≡ 48 → Every (λ s. Sought s.step s.evaluations s.trials) (search p x v d n alpha e ts)
  unfolding search
  sought x v d zero m alpha e ts h l = let z : m ≡ 48 = omega arith in holds (halved (rw z at h))
  sought x v d (suc n) m alpha e ts h l =
      tested (leb p.most e) (λ t. holds (cut t (omega arith) h))
      (λ t.
      passed (tried x v d alpha e ts) (λ r g.
      by_try g (λ next c a. holds (found_by _ ts g a)) (λ a. sought x v d n (suc m) (alpha ⊗ half·) r.evaluations (r.trial ∷ ts) (missed a h) (omega arith))))

  -- a search that found nothing
  data Failed (e : ℕ) : List Trial → Type 0 where
    all : {ts : List Trial} → Misses 48 ts → Failed e ts
    some : {m : ℕ} {ts : List Trial} → leb p.most e ≡ true → m < 48 → Misses m ts → Failed e (CutOff ∷ ts)

  by_search : {B : Type 0} {R : B → Type 0} {s : Step X O} {e : ℕ} {ts : List Trial} {go : X → O → Work (Asked X) O B} {halt : Work (Asked X) O B} → Sought s e ts → ((x : X) (v : O) → since_in ts ≡ Arrived → Every R (go x v)) → (Failed e ts → Every R halt) → Every R (or_else p go halt s)
  by_search (found h) g k = g _ _ h
  by_search (halved h) g k = k (all h)
  by_search (cut t l h) g k = k (some t l h)

  abbrev Named : Descended X O → Type 0
  Named r = StoppedBy p r (test_of r)

  fails : (x : X) (v : O) (e k : ℕ) (ts : List Trial) → le (p.norm x v) p.tolerance ≡ false → Failed e ts → Named (ended p (failed p e) x v e k ts)
  fails x v e k ts f (all h) = split (leb p.most e) (λ t. rw (t, misses_since h) (by_halvings f h)) (λ t. rw t (by_halvings f h))
  fails x v e k _ f (some {m = m} {ts = ts} t l h) = rw t (by_spent f m l ts h refl t)

  descends : (n : ℕ) (x : X) (v : O) (e k : ℕ) (ts : List Trial) → since_in ts ≡ Arrived → k + n ≡ p.turns → Every Named (descend p n x v e k ts)
  unfolding descend
  descends zero x v e k ts a l =
      tested (le (p.norm x v) p.tolerance) (λ t. holds (by_norm (arrived a) t))
      (λ f.
      tested (leb p.most e) (λ t. holds (rw a (by_evaluations (arrived a) f t)))
      (λ t. holds (by_iterations (arrived a) f t (le-leb p.turns k (omega arith)))))
  descends (suc n) x v e k ts a l =
      tested (le (p.norm x v) p.tolerance) (λ t. holds (by_norm (arrived a) t))
      (λ f.
      tested (leb p.most e) (λ t. holds (rw a (by_evaluations (arrived a) f t)))
      (λ t.
      passed (sought x v (p.direction x v) 48 0 one· e ts (arrived a) refl) (λ s g.
      by_search g (λ next c b. descends n next c s.evaluations (k + 1) s.trials b (omega arith)) (λ b. holds (fails x v s.evaluations k s.trials f b)))))

  -- ---- the theorem
  pub stopped_by : (x : X) → Always (λ r. StoppedBy p r (test_of r)) (descent p x)
  stopped_by x = hears (λ v q. descends p.turns x v 1 0 [] refl (omega arith))
