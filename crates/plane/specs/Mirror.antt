-- Two problems of which one shows the other: f takes its points and g its values across. Then their descents ask for the same points, make the same trials
-- and come to the same answer, across. `Good` is what is known of every value.
use Rattle.std.specs.Prelude.{◌≡◌, refl, Bool, true, false, cond, List, [], ◌∷◌, Float}
use Rattle.std.proofs.Common.{ap}
use Rattle.std.proofs.lemmas.Bool.{false≢true}
use Prim.Native.Nat.{ℕ, zero, suc, ◌+◌}
use Rattle.std.proofs.Math.Dec.{leb}
use Rattle.std.specs.Float.Ieee.{le, mul, of_bits}
use Rattle.num.specs.F64.{◌⊗◌, half·, one·}
use Rattle.num.specs.Helpers.{is_finite_of}
use Rattle.work.specs.Ended.{Ended, done, stopped, short}
use Rattle.work.specs.Work.{Work, ret, ask, ◌>>=◌, Metered, metered}
use Rattle.work.specs.Metered.{split, after, metered_bind}
use Rattle.work.specs.Given.{Always, of_metered}
use Rattle.work.specs.Through.{through}
use Rattle.descent.specs.declared.Trial.{Trial}
use Rattle.descent.specs.Descent.{Problem, Asked, Step, to, nowhere, Tried, Searched, Descended, idle, idle_trial, accepts, accepted_trial, missed_trial, try, or_else, search, failed, ended, descend, descent}

-- n halvings of alpha, each of them finite
data Halves : ℕ → Float → Type 0 where
  at_last : {alpha : Float} → is_finite_of alpha ≡ true → Halves zero alpha
  and_half : {n : ℕ} {alpha : Float} → is_finite_of alpha ≡ true → Halves n (alpha ⊗ half·) → Halves (suc n) alpha

halve : {n : ℕ} {alpha : Float} → Halves (suc n) alpha → Halves n (alpha ⊗ half·)
halve (and_half i h) = h

finite : {n : ℕ} {alpha : Float} → Halves n alpha → is_finite_of alpha ≡ true
finite (at_last i) = i
finite (and_half i h) = i

abbrev all_finite : ℕ → Float → Bool
all_finite zero alpha = is_finite_of alpha
all_finite (suc n) alpha = cond (is_finite_of alpha) (all_finite n (alpha ⊗ half·)) false

by_test : (n : ℕ) (alpha : Float) → all_finite n alpha ≡ true → Halves n alpha
by_test zero alpha h = at_last h
by_test (suc n) alpha h = split (is_finite_of alpha) (λ t. and_half t (by_test n (alpha ⊗ half·) (rw t at h))) (λ t. absurd (false≢true (rw t at h)))

from_one : Halves 48 one·
unfolding is_finite_of mul of_bits
from_one = by_test 48 one· refl

-- ---- across
abbrev pub asking : {X X' : Type 0} → (X → X') → Asked X → Asked X'
asking f q = record { at = f q.at; begun = q.begun; trials = q.trials }

abbrev pub across : {X O X' O' : Type 0} → (X → X') → (O → O') → Descended X O → Descended X' O'
across f g r = record { status = r.status; x = f r.x; v = g r.v; evaluations = r.evaluations; iterations = r.iterations; trials = r.trials }

abbrev pub end_across : {A A' : Type 0} → (A → A') → Ended A → Ended A'
end_across h (done c) = done (h c)
end_across h (stopped r) = stopped r
end_across h short = short

abbrev pub metered_across : {A A' : Type 0} → (A → A') → Metered A → Metered A'
metered_across h m = record { ended = end_across h m.ended; used = m.used }

-- a trial, its candidate in hand
abbrev try_at : {X O D : Type 0} (p : Problem X O D) → X → O → X → ℕ → List Trial → Work (Asked X) O (Tried X O)
try_at p x v next e ts =
    cond (idle p x v next) (ret (record { step = nowhere; evaluations = e; trial = idle_trial p x v next }))
    (ask (record { at = next; begun = true; trials = ts }) (λ c.
    cond (accepts p x v next c) (ret (record { step = to next c; evaluations = e + 1; trial = accepted_trial p x v next c }))
    (ret (record { step = nowhere; evaluations = e + 1; trial = missed_trial p x v next c }))))

module _ {X O D X' O' D' : Type 0} (p : Problem X O D) (p' : Problem X' O' D') (f : X → X') (g : O → O') (Good : O → Type 0) where
  pub record Alike : Type 0 where
    pub nll : (v : O) → p'.nll (g v) ≡ p.nll v
    pub norm : (x : X) (v : O) → Good v → p'.norm (f x) (g v) ≡ p.norm x v
    pub candidate : (x : X) (v : O) (alpha : Float) → is_finite_of alpha ≡ true → p'.candidate (f x) (p'.direction (f x) (g v)) alpha ≡ f (p.candidate x (p.direction x v) alpha)
    pub slope : (x : X) (v : O) (next : X) → p'.slope (f x) (g v) (f next) ≡ p.slope x v next
    pub still : (next x : X) → p'.still (f next) (f x) ≡ p.still next x
    pub tolerance : p'.tolerance ≡ p.tolerance
    pub most : p'.most ≡ p.most
    pub turns : p'.turns ≡ p.turns

  pub data Mirrors {A A' : Type 0} (R : A → A' → Type 0) : Work (Asked X) O A → Work (Asked X') O' A' → Type 0 where
    rets : {a : A} {a' : A'} → R a a' → Mirrors R (ret a) (ret a')
    asks : {q : Asked X} {k : O → Work (Asked X) O A} {k' : O' → Work (Asked X') O' A'} → ((c : O) → Good c → Mirrors R (k c) (k' (g c))) → Mirrors R (ask q k) (ask (asking f q) k')

  data Steps : Step X O → Step X' O' → Type 0 where
    there : {x : X} {v : O} → Good v → Steps (to x v) (to (f x) (g v))
    none : Steps nowhere nowhere

  data Trieds : Tried X O → Tried X' O' → Type 0 where
    tried : {s : Step X O} {s' : Step X' O'} {e : ℕ} {t : Trial} → Steps s s' → Trieds (record { step = s; evaluations = e; trial = t }) (record { step = s'; evaluations = e; trial = t })

  data Searcheds : Searched X O → Searched X' O' → Type 0 where
    searched : {s : Step X O} {s' : Step X' O'} {e : ℕ} {ts : List Trial} → Steps s s' → Searcheds (record { step = s; evaluations = e; trials = ts }) (record { step = s'; evaluations = e; trials = ts })

  module _ {A A' : Type 0} {R : A → A' → Type 0} where
    choice : {w v : Work (Asked X) O A} {w' v' : Work (Asked X') O' A'} (t t' : Bool) → t' ≡ t → Mirrors R w w' → Mirrors R v v' → Mirrors R (cond t w v) (cond t' w' v')
    choice true t' e a b = rw e a
    choice false t' e a b = rw e b

    sequence : {B B' : Type 0} {S : B → B' → Type 0} {w : Work (Asked X) O A} {w' : Work (Asked X') O' A'} {k : A → Work (Asked X) O B} {k' : A' → Work (Asked X') O' B'} → Mirrors R w w' → ((a : A) (a' : A') → R a a' → Mirrors S (k a) (k' a')) → Mirrors S (w >>= k) (w' >>= k')
    unfolding ◌>>=◌
    sequence (rets r) h = h _ _ r
    sequence (asks b) h = asks (λ c i. sequence (b c i) h)

  module _ (a : Alike) where
    idle_same : (x : X) (v : O) (next : X) → idle p' (f x) (g v) (f next) ≡ idle p x v next
    idle_same x v next = rw (a.slope x v next, a.still next x)

    accepts_same : (x : X) (v : O) (next : X) (c : O) → Good v → Good c → accepts p' (f x) (g v) (f next) (g c) ≡ accepts p x v next c
    accepts_same x v next c i j = rw (a.slope x v next, a.nll v, a.nll c, a.norm x v i, a.norm next c j)

    tries_at : (x : X) (v : O) (next : X) (next' : X') (e : ℕ) (ts : List Trial) → Good v → next' ≡ f next → Mirrors Trieds (try_at p x v next e ts) (try_at p' (f x) (g v) next' e ts)
    tries_at x v next next' e ts i h =
        rw h
        (choice (idle p x v next) _ (idle_same x v next) (rets (rw (a.slope x v next) (tried none)))
        (asks (λ c j.
        choice (accepts p x v next c) _ (accepts_same x v next c i j)
        (rets (rw (a.slope x v next, a.nll v, a.nll c) (tried (there j))))
        (rets (rw (a.slope x v next, a.nll v, a.nll c) (tried none))))))

    tries : (x : X) (v : O) (alpha : Float) (e : ℕ) (ts : List Trial) → Good v → is_finite_of alpha ≡ true → Mirrors Trieds (try p x v (p.direction x v) alpha e ts) (try p' (f x) (g v) (p'.direction (f x) (g v)) alpha e ts)
    unfolding try
    tries x v alpha e ts i h = tries_at x v _ _ e ts i (a.candidate x v alpha h)

    -- after a trial: the step is there, or the search goes on
    searches_on : (x : X) (v : O) (n : ℕ) (alpha : Float) (ts : List Trial) {t : Tried X O} {t' : Tried X' O'} → ((e : ℕ) (ts : List Trial) → Mirrors Searcheds (search p x v (p.direction x v) n alpha e ts) (search p' (f x) (g v) (p'.direction (f x) (g v)) n alpha e ts)) → Trieds t t' → Mirrors Searcheds (or_else p (λ next c. ret (record { step = t.step; evaluations = t.evaluations; trials = t.trial ∷ ts })) (search p x v (p.direction x v) n alpha t.evaluations (t.trial ∷ ts)) t.step) (or_else p' (λ next c. ret (record { step = t'.step; evaluations = t'.evaluations; trials = t'.trial ∷ ts })) (search p' (f x) (g v) (p'.direction (f x) (g v)) n alpha t'.evaluations (t'.trial ∷ ts)) t'.step)
    searches_on x v n alpha ts h (tried (there i)) = rets (searched (there i))
    searches_on x v n alpha ts h (tried none) = h _ _

    searches : (x : X) (v : O) (n : ℕ) (alpha : Float) (e : ℕ) (ts : List Trial) → Good v → Halves n alpha → Mirrors Searcheds (search p x v (p.direction x v) n alpha e ts) (search p' (f x) (g v) (p'.direction (f x) (g v)) n alpha e ts)
    unfolding search
    searches x v zero alpha e ts i h = rets (searched none)
    searches x v (suc n) alpha e ts i h =
        choice (leb p.most e) _ (ap (λ m. leb m e) a.most) (rets (searched none))
        (sequence (tries x v alpha e ts i (finite h)) (λ t t' r. searches_on x v n (alpha ⊗ half·) ts (λ e ts. searches x v n (alpha ⊗ half·) e ts i (halve h)) r))

    abbrev Answers : Descended X O → Descended X' O' → Type 0
    Answers r r' = r' ≡ across f g r

    failed_same : (x : X) (v : O) (e k : ℕ) (ts : List Trial) → Answers (ended p (failed p e) x v e k ts) (ended p' (failed p' e) (f x) (g v) e k ts)
    failed_same x v e k ts = rw a.most

    -- after a search: the descent goes on from the step, or has failed
    descends_on : (n : ℕ) (x : X) (v : O) (k : ℕ) {s : Searched X O} {s' : Searched X' O'} → ((next : X) (c : O) (e : ℕ) (ts : List Trial) → Good c → Mirrors Answers (descend p n next c e (k + 1) ts) (descend p' n (f next) (g c) e (k + 1) ts)) → Searcheds s s' → Mirrors Answers (or_else p (λ next c. descend p n next c s.evaluations (k + 1) s.trials) (ret (ended p (failed p s.evaluations) x v s.evaluations k s.trials)) s.step) (or_else p' (λ next c. descend p' n next c s'.evaluations (k + 1) s'.trials) (ret (ended p' (failed p' s'.evaluations) (f x) (g v) s'.evaluations k s'.trials)) s'.step)
    descends_on n x v k h (searched (there i)) = h _ _ _ _ i
    descends_on n x v k h (searched {e = e} {ts = ts} none) = rets (failed_same x v e k ts)

    descends : (n : ℕ) (x : X) (v : O) (e k : ℕ) (ts : List Trial) → Good v → Mirrors Answers (descend p n x v e k ts) (descend p' n (f x) (g v) e k ts)
    unfolding descend
    descends zero x v e k ts i =
        choice (le (p.norm x v) p.tolerance) (le (p'.norm (f x) (g v)) p'.tolerance) (rw (a.norm x v i, a.tolerance)) (rets refl)
        (choice (leb p.most e) _ (ap (λ m. leb m e) a.most) (rets refl) (rets refl))
    descends (suc n) x v e k ts i =
        choice (le (p.norm x v) p.tolerance) (le (p'.norm (f x) (g v)) p'.tolerance) (rw (a.norm x v i, a.tolerance)) (rets refl)
        (choice (leb p.most e) _ (ap (λ m. leb m e) a.most) (rets refl)
        (sequence (searches x v 48 one· e ts i from_one) (λ s s' r. descends_on n x v k (λ next c e ts j. descends n next c e (k + 1) ts j) r)))

    begun : (n n' : ℕ) → n' ≡ n → (x : X) (v : O) → Good v → Mirrors Answers (descend p n x v 1 0 []) (descend p' n' (f x) (g v) 1 0 [])
    begun n n' e x v i = rw e (descends n x v 1 0 [] i)

    pub descents : (x : X) → Mirrors Answers (descent p x) (descent p' (f x))
    descents x =
        asks {q = record { at = x; begun = false; trials = [] }} {k = λ v. descend p p.turns x v 1 0 []} {k' = λ v. descend p' p'.turns (f x) v 1 0 []}
        (λ v i. begun p.turns p'.turns a.turns x v i)

  -- ---- what they come to, as code counts
  module _ {E Y : Type 0} (at : E → Y) (l : ℕ) (ev : Asked X → Work E Y O) (ev' : Asked X' → Work E Y O') where
    module _ (same : (q : Asked X) (u : ℕ) → metered at l u (ev' (asking f q)) ≡ metered_across g (metered at l u (ev q))) (good : (q : Asked X) → Always Good (ev q)) where
      follows : {A A' : Type 0} (h : A → A') (F : O → ℕ → Metered A) (F' : O' → ℕ → Metered A') (e : Ended O) (n : ℕ) → ((c : O) → e ≡ done c → F' (g c) n ≡ metered_across h (F c n)) → after (end_across g e) n F' ≡ metered_across h (after e n F)
      follows h F F' (done c) n k = k c refl
      follows h F F' (stopped r) n k = refl
      follows h F F' short n k = refl

      pub mirrored : {A A' : Type 0} (h : A → A') {w : Work (Asked X) O A} {w' : Work (Asked X') O' A'} (u : ℕ) → Mirrors (λ a a'. a' ≡ h a) w w' → metered at l u (through ev' w') ≡ metered_across h (metered at l u (through ev w))
      unfolding through
      mirrored h u (rets e) = unfold metered in rw e
      mirrored h u (asks {q = q} {k = k} {k' = k'} b) =
          rw (metered_bind at l u (ev q) (λ c. through ev (k c)), metered_bind at l u (ev' (asking f q)) (λ c. through ev' (k' c)), same q u)
          (follows h (λ c n. metered at l n (through ev (k c))) (λ c n. metered at l n (through ev' (k' c))) (metered at l u (ev q)).ended (metered at l u (ev q)).used
          (λ c e. mirrored h _ (b c (of_metered at (λ q. tt) l u c (good q) e))))
