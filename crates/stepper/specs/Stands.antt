-- What remains to be computed from a state: `Stands p n s w` says that the state s, told the values that w asks for, comes to w's answer, and has kept the n-th trial on the way.
-- The start stands for the whole descent of crates/descent.
use Rattle.std.specs.Prelude.{◌≡◌, Bool, true, false, ◌||◌, cond, leb, Float}
use Rattle.std.proofs.Math.Path.{refl}
use mathlib.Core.List.{List, [], ◌∷◌}
use Prim.Native.Nat.{ℕ, zero, suc, ◌+◌, ◌-◌, ◌≤◌, ◌<◌, zero-le}
use Rattle.std.proofs.Common.{arith}
use borrow.Author.Tests.{leb-false, lt-ltb, le-leb, lt-leb}
use Rattle.std.specs.Float.Ieee.{le}
use Rattle.num.specs.F64.{◌⊗◌, zero·, half·, one·}
use Rattle.work.specs.Work.{Work, ret, ask, ◌>>=◌}
use Rattle.work.specs.Metered.{split}
use Rattle.descent.specs.declared.Status.{Status}
use Rattle.descent.specs.declared.Trial.{Trial}
use Rattle.descent.specs.declared.Trial.TheVariants.{CutOff}
use Rattle.descent.specs.Status.{taken_of}
use Rattle.descent.specs.Descent.{Asked, to, nowhere, Tried, Searched, Descended, decreases, rounds, accepts, accepted_trial, missed_trial, try, or_else, search, failed, ended, descend, descent}
use Rattle.value.specs.declared.Totals.{Totals}
use Rattle.step.specs.Step.{slope_of, candidate_of, still_of}
use Rattle.trial.specs.declared.watch.Watch.{Watch}
use Rattle.trial.specs.Judged.{norm_at_of, idle_of, judged_of}
use Rattle.trial.specs.Watch.{noted_of, watch_of}
use Rattle.stepper.specs.declared.Plan.{Plan}
use Rattle.stepper.specs.declared.Stepper.{Stepper}
use Rattle.stepper.specs.declared.Phase.{Phase}
use Rattle.stepper.specs.declared.Phase.TheVariants.{AtStart, AtTrial, Over}
use Rattle.stepper.specs.Machine.{awaits_of, tries_of, by_phase, direction_at_of, problem_of, one_more_of, state_of, begin_of, line_of, halved_of, failed_of, next_of, slope_at, offered_of, propose_from, propose_of, arrive_of, tell_of}

abbrev pub Rest : Type 0
Rest = Work (Asked (List Float)) Totals (Descended (List Float) Totals)

-- what a state that has stopped reports
abbrev pub reached : Status → Stepper → List Trial → Descended (List Float) Totals
reached status s ts = record { status = status; x = s.x; v = s.v; evaluations = s.evaluations.0; iterations = s.iterations.0; trials = ts }

pub data Stands (p : Plan) (n : ℕ) : Stepper → Rest → Type 0 where
  over : {s : Stepper} (status : Status) (ts : List Trial) → s.phase ≡ Over status → s.watch ≡ watch_of n ts → Stands p n s (ret (reached status s ts))
  awaits : {s : Stepper} {ts : List Trial} {k : Totals → Rest} → awaits_of s.phase ≡ true → s.watch ≡ watch_of n ts → ((c : Totals) → Stands p n (tell_of p s c) (k c)) → Stands p n s (ask (record { at = s.next; begun = tries_of s.phase; trials = ts }) k)

-- ---- the proof
pub one_more : (n most : ℕ) → n < most → one_more_of n most ≡ n + 1
unfolding one_more_of
one_more n most h = rw (lt-ltb n most h)

noting : (n : ℕ) (t : Trial) (ts : List Trial) (w : Watch) → w ≡ watch_of n ts → noted_of t w ≡ watch_of n (t ∷ ts)
unfolding watch_of
noting n t ts w h = rw h

module _ (p : Plan) (n : ℕ) where
  -- what follows a search, with m steps left after it
  abbrev after : ℕ → List Float → Totals → ℕ → Searched (List Float) Totals → Rest
  after m x v k s =
      let P = problem_of p in
      or_else P (λ next c. descend P m next c s.evaluations (k + 1) s.trials) (ret (ended P (failed P s.evaluations) x v s.evaluations k s.trials)) s.step

  abbrev Arrives : ℕ → ℕ → Type 0
  Arrives m k = (x : List Float) (v : Totals) (e : ℕ) (ts : List Trial) (w : Watch) → w ≡ watch_of n ts → Stands p n (arrive_of p x v e k w) (descend (problem_of p) m x v e k ts)

  module _ (m : ℕ) (x : List Float) (v : Totals) (k : ℕ) (way : List Float) (go : Arrives m (k + 1)) (h : k < p.turns.0) where
    abbrev Proposes : ℕ → Type 0
    Proposes j = (next : List Float) (e : ℕ) (alpha : Float) (left : ℕ) (ts : List Trial) (w : Watch) → w ≡ watch_of n ts → Stands p n (propose_from p j (state_of AtTrial next x v e k way alpha left w)) (search (problem_of p) x v way j alpha e ts >>= after m x v k)

    -- what the definition makes of a trial's value
    abbrev decided : List Float → ℕ → Totals → Work (Asked (List Float)) Totals (Tried (List Float) Totals)
    decided next e c =
        let P = problem_of p in
        cond (accepts P x v next c) (ret (record { step = to next c; evaluations = e + 1; trial = accepted_trial P x v next c }))
        (ret (record { step = nowhere; evaluations = e + 1; trial = missed_trial P x v next c }))

    abbrev goes_on : ℕ → Float → List Trial → Tried (List Float) Totals → Work (Asked (List Float)) Totals (Searched (List Float) Totals)
    goes_on j alpha ts t =
        let P = problem_of p in
        or_else P (λ next c. ret (record { step = t.step; evaluations = t.evaluations; trials = t.trial ∷ ts })) (search P x v way j (alpha ⊗ half·) t.evaluations (t.trial ∷ ts)) t.step

    -- the value decides, and either the next point is reached or the trials go on
    judges : (j : ℕ) → Proposes j → (next : List Float) (e : ℕ) (alpha : Float) (ts : List Trial) (w : Watch) → w ≡ watch_of n ts → (c : Totals) → Stands p n (tell_of p (state_of AtTrial next x v (e + 1) k way alpha j w) c) (decided next e c >>= goes_on j alpha ts >>= after m x v k)
    unfolding tell_of judged_of propose_of ◌>>=◌
    judges j on next e alpha ts w i c =
        let slope = slope_of v.gradient next x in
        split (decreases v.nll slope c.nll)
        (λ t. rw (t, one_more k p.turns.0 h) (go next c (e + 1) (_ ∷ ts) _ (noting n _ ts w i)))
        (λ t.
        split (rounds v.nll slope c.nll (norm_at_of p.region.lo p.region.hi x v) (norm_at_of p.region.lo p.region.hi next c))
        (λ u. rw (t, u, one_more k p.turns.0 h) (go next c (e + 1) (_ ∷ ts) _ (noting n _ ts w i)))
        (λ u. rw (t, u) (on next (e + 1) (alpha ⊗ half·) j (_ ∷ ts) _ (noting n _ ts w i))))

    proposes : (j : ℕ) → Proposes j
    unfolding propose_from offered_of idle_of search try ◌>>=◌ failed_of
    proposes zero next e alpha left ts w i = over _ ts refl i
    proposes (suc j) next e alpha left ts w i =
        let to = candidate_of x way alpha p.region.lo p.region.hi in
        let slope = slope_of v.gradient to x in
        split (leb p.most.0 e)
        (λ t. rw (t, t) (over _ (CutOff ∷ ts) refl (noting n CutOff ts w i)))
        (λ t.
        split (le zero· slope || still_of to x)
        (λ u. rw (t, u) (proposes j next e (alpha ⊗ half·) left (_ ∷ ts) _ (noting n _ ts w i)))
        (λ u. rw (t, u, one_more e p.most.0 (leb-false p.most.0 e t)) (awaits refl i (judges j (proposes j) to e alpha ts w i))))

  arrives : (m k : ℕ) → k + m ≡ p.turns.0 → Arrives m k
  unfolding arrive_of propose_of descend
  arrives zero k l x v e ts w i =
      split (le (norm_at_of p.region.lo p.region.hi x v) p.tolerance) (λ t. rw t (over _ ts refl i))
      (λ t.
      split (leb p.most.0 e) (λ u. rw (t, u) (over _ ts refl i))
      (λ u. rw (t, u, le-leb p.turns.0 k (omega arith)) (over _ ts refl i)))
  arrives (suc m) k l x v e ts w i =
      split (le (norm_at_of p.region.lo p.region.hi x v) p.tolerance) (λ t. rw t (over _ ts refl i))
      (λ t.
      split (leb p.most.0 e) (λ u. rw (t, u) (over _ ts refl i))
      (λ u.
      rw (t, u, lt-leb p.turns.0 k (omega arith))
      (proposes m x v k (direction_at_of p.region.lo p.region.hi x v) (arrives m (k + 1) (omega arith)) (omega arith) 48 x e one· 48 ts w i)))

  -- ---- the theorem: told the values that the descent asks for, the start comes to the descent's answer
  pub begins : (x : List Float) → Stands p n (begin_of x n) (descent (problem_of p) x)
  unfolding tell_of watch_of
  begins x = awaits refl refl (λ c. arrives p.turns.0 0 (omega arith) x c 1 [] _ refl)

-- ---- how long it goes on: each value told leaves less
abbrev pub remaining_of : Plan → Stepper → ℕ
remaining_of p s = cond (awaits_of s.phase) (suc (p.most.0 - s.evaluations.0)) 0

module _ (p : Plan) where
  record Remains (m : ℕ) (s : Stepper) : Type 0 where
    within : remaining_of p s ≤ m

  either : (b : Bool) {x y : Stepper} {m : ℕ} → Remains m x → Remains m y → Remains m (cond b x y)
  either true h k = h
  either false h k = k

  stopped : {s : Stepper} {m : ℕ} → awaits_of s.phase ≡ false → Remains m s
  stopped t = record { within = rw t zero-le }

  awaited : (a : Bool) (e : ℕ) → e < p.most.0 → cond a (suc (p.most.0 - (e + 1))) 0 ≤ p.most.0 - e
  awaited true e h = omega arith
  awaited false e h = zero-le

  propose_remains : (j : ℕ) (s : Stepper) → Remains (p.most.0 - s.evaluations.0) (propose_from p j s)
  unfolding propose_from offered_of
  propose_remains zero s = stopped refl
  propose_remains (suc j) s =
      split (leb p.most.0 s.evaluations.0) (λ t. rw t (stopped refl))
      (λ t.
      let h = leb-false p.most.0 s.evaluations.0 t in
      split (le zero· (slope_at p s) || still_of (next_of p s) s.x)
      (λ u. rw (t, u) (propose_remains j (halved_of s (idle_of (slope_at p s)))))
      (λ u. rw (t, u, one_more s.evaluations.0 p.most.0 h) (record { within = awaited (awaits_of s.phase) s.evaluations.0 h })))

  arrive_remains : (x : List Float) (v : Totals) (e k : ℕ) (w : Watch) → Remains (p.most.0 - e) (arrive_of p x v e k w)
  unfolding arrive_of propose_of
  arrive_remains x v e k w =
      either (le (norm_at_of p.region.lo p.region.hi x v) p.tolerance) (stopped refl)
      (either (leb p.most.0 e) (stopped refl)
      (either (leb p.turns.0 k) (stopped refl)
      (propose_remains 48 (line_of (direction_at_of p.region.lo p.region.hi x v) x v e k w))))

  phased : (f : Phase) {x y : Stepper} {m : ℕ} → Remains m x → Remains m y → Remains m (by_phase f x y y)
  phased AtStart h k = h
  phased AtTrial h k = k
  phased (Over _) h k = k

  tell_remains : (s : Stepper) (c : Totals) → Remains (p.most.0 - s.evaluations.0) (tell_of p s c)
  unfolding tell_of propose_of
  tell_remains s c =
      let t = judged_of p.region.lo p.region.hi s.x s.v s.next c in
      phased s.phase (arrive_remains s.next c s.evaluations.0 _ _)
      (either (taken_of t) (arrive_remains s.next c s.evaluations.0 _ _) (propose_remains s.left (halved_of s t)))

  pub tell_less : (s : Stepper) (c : Totals) → awaits_of s.phase ≡ true → remaining_of p (tell_of p s c) < remaining_of p s
  tell_less s c t = rw t (omega (arith, (tell_remains s c).within))
