-- A computation whose questions are answered by computations of their own: as one computation, and as code counts it.
use Rattle.std.specs.Prelude.{◌≡◌, ℕ}
use Rattle.std.proofs.Math.Path.{refl}
use Rattle.std.proofs.Common.{◌∙◌}
use Rattle.work.specs.Ended.{Why, Ended, done, stopped, short}
use Rattle.work.specs.Work.{Work, ret, stop, ask, ◌>>=◌, Metered, metered}
use Rattle.work.specs.Metered.{after, metered_bind}
use Rattle.work.specs.Given.{Given, holds, refuses, hears, passed}
use Rattle.work.specs.Stops as stops

unfoldable pub through : {E Y Q O A : Type 0} → (Q → Work E Y O) → Work Q O A → Work E Y A
through ev (ret a) = ret a
through ev (stop r) = stop r
through ev (ask q k) = ev q >>= λ c. through ev (k c)

-- the question that was refused, where one was
pub data Open (Q : Type 0) : Type 0 where
  none : Open Q
  refused : Q → Open Q

pub record Driven (Q A : Type 0) : Type 0 where
  pub ended : Ended A
  pub used : ℕ
  pub asked : Open Q

-- what follows a question's answer, with n evaluations used
abbrev pub heard : {Q O A : Type 0} → Q → Ended O → ℕ → (O → ℕ → Driven Q A) → Driven Q A
heard q (done c) n go = go c n
heard q (stopped r) n go = record { ended = stopped r; used = n; asked = refused q }
heard q short n go = record { ended = short; used = n; asked = refused q }

module _ {E Y Q O : Type 0} (at : E → Y) (ev : Q → Work E Y O) (l : ℕ) where
  -- as `metered` counts, with the question at which it ended
  unfoldable pub driven : {A : Type 0} → ℕ → Work Q O A → Driven Q A
  driven u (ret a) = record { ended = done a; used = u; asked = none }
  driven u (stop r) = record { ended = stopped r; used = u; asked = none }
  driven u (ask q k) = let m = metered at l u (ev q) in heard q m.ended m.used (λ c n. driven n (k c))

  abbrev pub counted : {A : Type 0} → Driven Q A → Metered A
  counted d = record { ended = d.ended; used = d.used }

  follows : {A : Type 0} (q : Q) (f : O → ℕ → Metered A) (g : O → ℕ → Driven Q A) → ((c : O) (n : ℕ) → f c n ≡ counted (g c n)) → (e : Ended O) (n : ℕ) → after e n f ≡ counted (heard q e n g)
  follows q f g h (done c) n = h c n
  follows q f g h (stopped r) n = refl
  follows q f g h short n = refl

  -- its ending and its count are those of the one computation
  pub driven_is : {A : Type 0} (u : ℕ) (w : Work Q O A) → metered at l u (through ev w) ≡ counted (driven u w)
  unfolding metered through driven
  driven_is u (ret a) = refl
  driven_is u (stop r) = refl
  driven_is u (ask q k) =
      metered_bind at l u (ev q) (λ c. through ev (k c))
      ∙ follows q (λ c n. metered at l n (through ev (k c))) (λ c n. driven n (k c)) (λ c n. driven_is n (k c)) (metered at l u (ev q)).ended (metered at l u (ev q)).used

-- where each question's answers have what is known of them, so have the answers of the whole
pub answered : {E Y Q O A : Type 0} {H : E → Y → Type 0} {G : Q → O → Type 0} {P : A → Type 0} {w : Work Q O A} (ev : Q → Work E Y O) → ((q : Q) → Given H (G q) (ev q)) → Given G P w → Given H P (through ev w)
unfolding through
answered ev h (holds p) = holds p
answered ev h refuses = refuses
answered ev h (hears {e = q} b) = passed (h q) (λ c g. answered ev h (b c g))

-- where a computation never stops by itself, every refusal is a question's
pub refused_by : {E Y Q O A : Type 0} {P : Why → Type 0} {w : Work Q O A} (ev : Q → Work E Y O) → ((q : Q) → stops.Stops P (ev q)) → stops.Stops (λ r. ⊥) w → stops.Stops P (through ev w)
unfolding through
refused_by ev h stops.answers = stops.answers
refused_by ev h (stops.refuses i) = absurd i
refused_by ev h (stops.hears {e = q} b) = stops.passed (h q) (λ c. refused_by ev h (b c))
