-- The trials of any descent: no more than 48 for each step that it may take, the refused one with them; and where a candidate that has not moved never leads downhill,
-- none is refused for not having moved.
use Rattle.std.specs.Prelude.{◌≡◌, Bool, true, false, leb, length}
use Rattle.std.proofs.Math.Path.{refl}
use Rattle.std.proofs.Common.{sym, ◌∙◌}
use mathlib.Core.List.{List, [], ◌∷◌}
use Prim.Native.Nat.{ℕ, zero, suc, ◌+◌, ◌*◌, ◌≤◌, zero-le}
use native.Mathlib.Omega.{arith}
use Rattle.std.specs.Float.Ieee.{le}
use Rattle.num.specs.Both.{or_other}
use Rattle.num.specs.F64.{zero·}
use Rattle.work.specs.Impossible.{impossible}
use Rattle.work.specs.Ended.{Ended, done, stopped, short}
use Rattle.work.specs.Work.{Work, metered}
use Rattle.work.specs.Metered.{split}
use Rattle.work.specs.Given.{Always, of_metered}
use Rattle.work.specs.Asks.{Asks, gives, asks, tested, passed}
use Rattle.work.specs.Through.{none, refused, Driven, heard, driven}
use Rattle.descent.specs.declared.Trial.{Trial}
use Rattle.descent.specs.declared.Trial.TheVariants.{NotDownhill, NotMoved, TooLittle, ByDecrease, ByRounding, CutOff}
use Rattle.descent.specs.Descent.{Problem, Asked, Step, to, nowhere, Descended, decreases, idle, idle_trial, accepts, accepted_trial, try, or_else, search, descend, descent}
use Rattle.descent.specs.Asking.{share_of}

abbrev pub moved_of : Trial → Bool
moved_of (NotDownhill s) = true
moved_of NotMoved = false
moved_of (TooLittle m) = true
moved_of (ByDecrease s) = true
moved_of (ByRounding a) = true
moved_of CutOff = true

-- at most n trials, none of them NotMoved
pub data Trials : ℕ → List Trial → Type 0 where
  no_trial : {n : ℕ} → Trials n []
  one_more : {n : ℕ} {t : Trial} {ts : List Trial} → moved_of t ≡ true → Trials n ts → Trials (suc n) (t ∷ ts)

pub trials_more : {m n : ℕ} {ts : List Trial} → m ≤ n → Trials m ts → Trials n ts
trials_more h no_trial = no_trial
trials_more {n = zero} h (one_more {n = m} t l) = absurd (omega arith)
trials_more {n = suc n} h (one_more {n = m} t l) = let k : m ≤ n = omega arith in one_more t (trials_more k l)

pub trials_length : {n : ℕ} {ts : List Trial} → Trials n ts → length ts ≤ n
trials_length no_trial = zero-le
trials_length (one_more {n = m} {ts = ts} t l) = let h : length ts ≤ m = trials_length l in omega arith

-- the trials before a question, which is one more where it is a trial
pub data Before (n : ℕ) {X : Type 0} : Asked X → Type 0 where
  start : {x : X} → Before n (record { at = x; begun = false; trials = [] })
  trial : {x : X} {m : ℕ} {ts : List Trial} → suc m ≤ n → Trials m ts → Before n (record { at = x; begun = true; trials = ts })

pub before_trials : {n : ℕ} {X : Type 0} {q : Asked X} → Before n q → Trials n q.trials
before_trials start = no_trial
before_trials (trial {m = m} h l) = trials_more (omega arith) l

pub before_room : {n : ℕ} {X : Type 0} {q : Asked X} → Before n q → q.begun ≡ true → length q.trials + 1 ≤ n
before_room start b = impossible (cc)
before_room (trial {m = m} {ts = ts} h l) b = let k : length ts ≤ m = trials_length l in omega arith

module _ {X O D : Type 0} (p : Problem X O D) (Q : X → O → Type 0) (I : X → Type 0) where
  -- every point that is asked for has I, and the trials before it are few and moved; so are those of the answer
  pub record Fit (q : Asked X) : Type 0 where
    pub inside : I q.at
    pub before : Before (48 * p.turns) q

  abbrev pub Few : {A : Type 0} → (A → Type 0) → Work (Asked X) O A → Type 0
  Few P w = Asks (λ (q : Asked X) (v : O). Q q.at v) Fit P w

  -- what a trial or a search from a point with I came to, with n trials at most
  data Reached (n : ℕ) : Step X O → List Trial → Type 0 where
    there : {x : X} {v : O} {ts : List Trial} → I x → Q x v → Trials n ts → Reached n (to x v) ts
    none_found : {ts : List Trial} → Trials n ts → Reached n nowhere ts

  by_step : {B : Type 0} {R : B → Type 0} {n : ℕ} {s : Step X O} {ts : List Trial} {go : X → O → Work (Asked X) O B} {halt : Work (Asked X) O B} → Reached n s ts → ((x : X) (v : O) → I x → Q x v → Trials n ts → Few R (go x v)) → (Trials n ts → Few R halt) → Few R (or_else p go halt s)
  by_step (there i q l) g h = g _ _ i q l
  by_step (none_found l) g h = h l

  module _ (x : X) (v : O) (d : D) (kept : (k : ℕ) → I (p.candidate x d (share_of k))) (moves : (k : ℕ) → let next = p.candidate x d (share_of k) in p.still next x ≡ true → le zero· (p.slope x v next) ≡ true) where
    idle_moved : (k : ℕ) → let next = p.candidate x d (share_of k) in idle p x v next ≡ true → moved_of (idle_trial p x v next) ≡ true
    idle_moved k h =
        let next = p.candidate x d (share_of k) in
        split (le zero· (p.slope x v next)) (λ b. rw b)
        (λ b. let z = sym (moves k (or_other (le zero· (p.slope x v next)) (p.still next x) h b)) ∙ b in impossible (cc))

    accepted_moved : (next : X) (c : O) → moved_of (accepted_trial p x v next c) ≡ true
    accepted_moved next c = split (decreases (p.nll v) (p.slope x v next) (p.nll c)) (λ b. rw b) (λ b. rw b)

    tried : (m k e : ℕ) (ts : List Trial) → suc m ≤ 48 * p.turns → Trials m ts → Few (λ t. Reached (suc m) t.step (t.trial ∷ ts)) (try p x v d (share_of k) e ts)
    unfolding try
    tried m k e ts r l =
        let next = p.candidate x d (share_of k) in
        tested (idle p x v next) (λ t. gives (none_found (one_more (idle_moved k t) l)))
        (λ t.
        asks (record { inside = kept k; before = trial r l }) (λ c q.
        tested (accepts p x v next c) (λ t. gives (there (kept k) q (one_more (accepted_moved next c) l))) (λ t. gives (none_found (one_more refl l)))))

    sought : (n m k e : ℕ) (ts : List Trial) → m + n ≤ 48 * p.turns → Trials m ts → Few (λ s. Reached (m + n) s.step s.trials) (search p x v d n (share_of k) e ts)
    unfolding search share_of
    sought zero m k e ts few l = gives (none_found (trials_more (omega arith) l))
    sought (suc n) m k e ts few l =
        let s : m + suc n ≡ suc m + n = omega arith in
        tested (leb p.most e) (λ t. gives (none_found (trials_more (omega arith) (one_more refl l))))
        (λ t.
        passed (tried m k e ts (omega arith) l) (λ r g.
        by_step g (λ next c i q j. gives (reached_more (omega arith) g)) (λ j. rw s (sought n (suc m) (suc k) r.evaluations (r.trial ∷ ts) (omega arith) j)))) where
          reached_more : {m n : ℕ} {s : Step X O} {ts : List Trial} → m ≤ n → Reached m s ts → Reached n s ts
          reached_more h (there i q l) = there i q (trials_more h l)
          reached_more h (none_found l) = none_found (trials_more h l)

  module _ (kept : (x : X) (v : O) → I x → Q x v → (k : ℕ) → I (p.candidate x (p.direction x v) (share_of k))) (moves : (x : X) (v : O) → I x → Q x v → (k : ℕ) → let next = p.candidate x (p.direction x v) (share_of k) in p.still next x ≡ true → le zero· (p.slope x v next) ≡ true) where
    abbrev Ends : Descended X O → Type 0
    Ends r = Trials (48 * p.turns) r.trials

    descends : (n : ℕ) (x : X) (v : O) (e k : ℕ) (ts : List Trial) → I x → Q x v → k + n ≡ p.turns → Trials (48 * k) ts → Few Ends (descend p n x v e k ts)
    unfolding descend share_of
    descends zero x v e k ts i q l t =
        let u : Trials (48 * p.turns) ts = trials_more (omega arith) t in
        tested (le (p.norm x v) p.tolerance) (λ b. gives u) (λ b. tested (leb p.most e) (λ c. gives u) (λ c. gives u))
    descends (suc n) x v e k ts i q l t =
        let u : Trials (48 * p.turns) ts = trials_more (omega arith) t in
        tested (le (p.norm x v) p.tolerance) (λ b. gives u)
        (λ b.
        tested (leb p.most e) (λ c. gives u)
        (λ c.
        passed (sought x v (p.direction x v) (kept x v i q) (moves x v i q) 48 (48 * k) 0 e ts (omega arith) t) (λ s g.
        by_step g (λ next c j r m. descends n next c s.evaluations (k + 1) s.trials j r (omega arith) (trials_more (omega arith) m)) (λ m. gives (trials_more (omega arith) m)))))

    pub few_trials : (x : X) → I x → Few Ends (descent p x)
    few_trials x i = asks (record { inside = i; before = start }) (λ v q. descends p.turns x v 1 0 [] i q (omega arith) no_trial)

-- ---- what is so of every question and every answer is so of a run: of its answer, and of the question that was refused
module _ {E Y Q O A : Type 0} (G : Q → O → Type 0) (I : Q → Type 0) (P : A → Type 0) (at : E → Y) (ev : Q → Work E Y O) (l : ℕ) (known : (q : Q) → I q → Always (G q) (ev q)) where
  pub record Ran (d : Driven Q A) : Type 0 where
    pub answer : (a : A) → d.ended ≡ done a → P a
    pub open_question : (q : Q) → d.asked ≡ refused q → I q
    pub closed : (a : A) → d.ended ≡ done a → d.asked ≡ none

  by_value : (u : ℕ) (q : Q) → I q → (e : Ended O) (n : ℕ) (go : O → ℕ → Driven Q A) → (metered at l u (ev q)).ended ≡ e → ((c : O) → G q c → Ran (go c n)) → Ran (heard q e n go)
  by_value u q i (done c) n go h g = g c (of_metered at (λ e. tt) l u c (known q i) h)
  by_value u q i (stopped r) n go h g = record { answer = λ a k. impossible (cc); open_question = λ o k. let s : q ≡ o = cc in rw s at i; closed = λ a k. impossible (cc) }
  by_value u q i short n go h g = record { answer = λ a k. impossible (cc); open_question = λ o k. let s : q ≡ o = cc in rw s at i; closed = λ a k. impossible (cc) }

  pub ran : {w : Work Q O A} (u : ℕ) → Asks G I P w → Ran (driven at ev l u w)
  unfolding driven
  ran u (gives {a = b} h) = record { answer = λ a k. let s : b ≡ a = cc in rw s at h; open_question = λ o k. impossible (cc); closed = λ a k. refl }
  ran u (asks {e = q} {k = k} i b) = by_value u q i (metered at l u (ev q)).ended (metered at l u (ev q)).used (λ c n. driven at ev l n (k c)) refl (λ c g. ran (metered at l u (ev q)).used (b c g))
