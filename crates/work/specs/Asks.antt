-- A computation that asks only for what has I and answers only what has P, where G is what is known of the value of each question. It never stops by itself.
use Rattle.std.specs.Prelude.{◌≡◌, Bool, true, false, cond}
use Rattle.work.specs.Ended.{Why}
use Rattle.work.specs.Work.{Work, ret, ask, ◌>>=◌}
use Rattle.work.specs.Metered.{split}
use Rattle.work.specs.Given as given
use Rattle.work.specs.Stops as stops
use Rattle.work.specs.Through.{through}

pub data Asks {E X A : Type 0} (G : E → X → Type 0) (I : E → Type 0) (P : A → Type 0) : Work E X A → Type 0 where
  gives : {a : A} → P a → Asks G I P (ret a)
  asks : {e : E} {k : X → Work E X A} → I e → ((v : X) → G e v → Asks G I P (k v)) → Asks G I P (ask e k)

module _ {E X A : Type 0} {G : E → X → Type 0} {I : E → Type 0} {P : A → Type 0} where
  -- a choice, with what the test says
  pub tested : {x y : Work E X A} (t : Bool) → (t ≡ true → Asks G I P x) → (t ≡ false → Asks G I P y) → Asks G I P (cond t x y)
  tested t p q = split t (λ b. rw b (p b)) (λ b. rw b (q b))

  -- a sequence: what the first part's answers have may be used in the second
  pub passed : {B : Type 0} {R : B → Type 0} {w : Work E X A} {f : A → Work E X B} → Asks G I P w → ((a : A) → P a → Asks G I R (f a)) → Asks G I R (w >>= f)
  unfolding ◌>>=◌
  passed (gives h) g = g _ h
  passed (asks i b) g = asks i (λ v k. passed (b v k) g)

  pub weaker : {R : A → Type 0} {w : Work E X A} → ((a : A) → P a → R a) → Asks G I P w → Asks G I R w
  weaker g (gives h) = gives (g _ h)
  weaker g (asks i b) = asks i (λ v k. weaker g (b v k))

  -- what its answers have, whatever it asks
  pub answers : {w : Work E X A} → Asks G I P w → given.Given G P w
  answers (gives h) = given.holds h
  answers (asks i b) = given.hears (λ v k. answers (b v k))

  -- it refuses nothing by itself
  pub never_stops : {w : Work E X A} → ((e : E) (v : X) → G e v) → Asks G I P w → stops.Stops (λ (r : Why). ⊥) w
  never_stops known (gives h) = stops.answers
  never_stops known (asks i b) = stops.hears (λ v. never_stops known (b v (known _ v)))

-- a sequence of which the first part may stop for P alone, and answers only what has R
both_passed : {E X A B : Type 0} {P : Why → Type 0} {R : A → Type 0} {w : Work E X A} {f : A → Work E X B} → stops.Stops P w → given.Always R w → ((a : A) → R a → stops.Stops P (f a)) → stops.Stops P (w >>= f)
unfolding ◌>>=◌
both_passed stops.answers (given.holds h) g = g _ h
both_passed (stops.refuses h) given.refuses g = stops.refuses h
both_passed (stops.hears b) (given.hears c) g = stops.hears (λ v. both_passed (b v) (c v tt) g)

-- ---- where each question is answered by a computation of its own, `ev`

module _ {E Y Q O A : Type 0} {G : Q → O → Type 0} {I : Q → Type 0} {P : A → Type 0} (ev : Q → Work E Y O) where
  -- the answers of the whole have P, where those of every question that has I have what is known of its values
  pub answered : {H : E → Y → Type 0} {w : Work Q O A} → ((q : Q) → I q → given.Given H (G q) (ev q)) → Asks G I P w → given.Given H P (through ev w)
  unfolding through
  answered h (gives p) = given.holds p
  answered h (asks {e = q} i b) = given.passed (h q i) (λ c g. answered h (b c g))

  -- and every refusal of the whole is one of a question that has I
  pub refused_by : {R : Why → Type 0} {w : Work Q O A} → ((q : Q) → I q → stops.Stops R (ev q)) → ((q : Q) → I q → given.Always (G q) (ev q)) → Asks G I P w → stops.Stops R (through ev w)
  unfolding through
  refused_by h k (gives p) = stops.answers
  refused_by h k (asks {e = q} i b) = both_passed (h q i) (k q i) (λ c g. refused_by h k (b c g))
