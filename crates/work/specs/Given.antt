-- What every answer of a computation has, where G is what is known of the value of each evaluation; a computation that stops by itself gives no answer.
use Rattle.std.specs.Prelude.{◌≡◌, refl, Bool, true, false, cond, Ok}
use Prim.Native.Nat.{ℕ, zero, suc, ◌-◌}
use Rattle.work.specs.Impossible.{impossible}
use Rattle.work.specs.Ended.{Why, done}
use Rattle.work.specs.Answer.{outcome, answered_value}
use Rattle.work.specs.Work.{Work, ret, stop, ask, ◌>>=◌, run, run_l, metered}
use Rattle.work.specs.Metered.{split, metered_is}

pub data Given {E X A : Type 0} (G : E → X → Type 0) (P : A → Type 0) : Work E X A → Type 0 where
  holds : {a : A} → P a → Given G P (ret a)
  refuses : {r : Why} → Given G P (stop r)
  hears : {e : E} {k : X → Work E X A} → ((v : X) → G e v → Given G P (k v)) → Given G P (ask e k)

-- whatever the values are
abbrev pub Always : {E X A : Type 0} → (A → Type 0) → Work E X A → Type 0
Always P w = Given (λ e v. Unit {0}) P w

-- where each value is the one that `at` gives
abbrev pub Truly : {E X A : Type 0} → (E → X) → (A → Type 0) → Work E X A → Type 0
Truly at P w = Given (λ e v. v ≡ at e) P w

module _ {E X A : Type 0} {G : E → X → Type 0} {P : A → Type 0} where
  pub weaker : {Q : A → Type 0} {w : Work E X A} → ((a : A) → P a → Q a) → Given G P w → Given G Q w
  weaker g (holds h) = holds (g _ h)
  weaker g refuses = refuses
  weaker g (hears b) = hears (λ v k. weaker g (b v k))

  -- a choice, with what the test says
  pub tested : {x y : Work E X A} (t : Bool) → (t ≡ true → Given G P x) → (t ≡ false → Given G P y) → Given G P (cond t x y)
  tested t p q = split t (λ b. rw b (p b)) (λ b. rw b (q b))

  -- a sequence: what the first part's answers have may be used in the second
  pub passed : {B : Type 0} {R : B → Type 0} {w : Work E X A} {f : A → Work E X B} → Given G P w → ((a : A) → P a → Given G R (f a)) → Given G R (w >>= f)
  unfolding ◌>>=◌
  passed (holds h) g = g _ h
  passed refuses g = refuses
  passed (hears b) g = hears (λ v k. passed (b v k) g)

  -- What it says of an answer, where `at` gives what is known: without a limit, under a limit, and as code counts.
  module _ (at : E → X) (known : (e : E) → G e (at e)) where
    pub of_run : {w : Work E X A} (a : A) → Given G P w → run at w ≡ done a → P a
    unfolding run
    of_run a (holds {a = b} h) e = let s : b ≡ a = cc in rw s at h
    of_run a refuses e = impossible (cc)
    of_run a (hears {e = q} b) e = of_run a (b (at q) (known q)) e

    pub of_run_l : (l : ℕ) {w : Work E X A} (a : A) → Given G P w → run_l at l w ≡ done a → P a
    unfolding run_l
    of_run_l l a (holds {a = b} h) e = let s : b ≡ a = cc in rw s at h
    of_run_l l a refuses e = impossible (cc)
    of_run_l zero a (hears {e = q} b) e = impossible (cc)
    of_run_l (suc l) a (hears {e = q} b) e = of_run_l l a (b (at q) (known q)) e

    pub of_metered : (l u : ℕ) {w : Work E X A} (a : A) → Given G P w → (metered at l u w).ended ≡ done a → P a
    of_metered l u {w} a h e = of_run_l (l - u) a h (rw (metered_is at l u w) at e)

    -- of the value that code answers
    pub of_answer : (l u : ℕ) {w : Work E X A} (a : A) → Given G P w → outcome (metered at l u w).ended ≡ Ok a → P a
    of_answer l u {w} a h e = of_metered l u a h (answered_value (metered at l u w).ended a e)

-- what every value has, the answers of every computation have
pub anything : {E X A : Type 0} {G : E → X → Type 0} {P : A → Type 0} → ((a : A) → P a) → (w : Work E X A) → Given G P w
anything g (ret a) = holds (g a)
anything g (stop r) = refuses
anything g (ask e k) = hears (λ v h. anything g (k v))

-- the answer that a computation gives is that of its own run without a limit
pub own_answer_lem : {E X A : Type 0} (at : E → X) (w : Work E X A) → Truly at (λ a. run at w ≡ done a) w
unfolding run
own_answer_lem at (ret a) = holds refl
own_answer_lem at (stop r) = refuses
own_answer_lem at (ask e k) = hears {e = e} {k = k} (λ v h. rw (← h) (own_answer_lem at (k v)))
