-- The points at which a descent has its objective evaluated, each with the value it has there; what is known of these is known of the answer.
use Rattle.std.specs.Prelude.{◌≡◌, List, [], ◌∷◌, ℕ}
use Rattle.std.proofs.Math.Path.{refl}
use Rattle.work.specs.Impossible.{impossible}
use Rattle.work.specs.Ended.{Ended, done, stopped, short}
use Rattle.work.specs.Work.{Work, ret, stop, ask, run, metered}
use Rattle.work.specs.Given.{Given, holds, refuses, hears, of_metered, own_answer_lem}
use Rattle.work.specs.Asks.{Asks, gives, asks}
use Rattle.work.specs.Through.{refused, heard, driven}
use Rattle.descent.specs.Descent.{Asked}
use Rattle.descent.specs.Claims.{Among, newest, older}

pub record Place (X O : Type 0) : Type 0 where
  pub at : X
  pub value : O

abbrev pub place : {X O : Type 0} → X → O → Place X O
place x v = record { at = x; value = v }

-- a point whose value is there stands before those that follow it
abbrev noted : {X O : Type 0} → X → Ended O → (O → List (Place X O)) → List (Place X O)
noted x (done v) more = place x v ∷ more v
noted x (stopped r) more = []
noted x short more = []

module _ {E Y X O : Type 0} (at : E → Y) (ev : X → Work E Y O) where
  unfoldable pub points_in : {A : Type 0} → Work (Asked X) O A → List (Place X O)
  points_in (ret a) = []
  points_in (stop r) = []
  points_in (ask q k) = noted q.at (run at (ev q.at)) (λ v. points_in (k v))

  -- each has the objective's own value, by itself and without a limit
  own_values : (x : X) (e : Ended O) (y : Place X O) (more : O → List (Place X O)) → run at (ev x) ≡ e → ((v : O) → Among y (more v) → run at (ev y.at) ≡ done y.value) → Among y (noted x e more) → run at (ev y.at) ≡ done y.value
  own_values x (done v) y more e g (newest h) = rw h e
  own_values x (done v) y more e g (older m) = g v m
  own_values x (stopped r) y more e g m = elim m [ ]
  own_values x short y more e g m = elim m [ ]

  pub point_value : {A : Type 0} (w : Work (Asked X) O A) (y : Place X O) → Among y (points_in w) → run at (ev y.at) ≡ done y.value
  unfolding points_in
  point_value {A = A} (ret a) y m = elim m [ ]
  point_value {A = A} (stop r) y m = elim m [ ]
  point_value (ask q k) y m = own_values q.at (run at (ev q.at)) y (λ v. points_in (k v)) refl (λ v n. point_value (k v) y n) m

  module _ (l : ℕ) where
    -- a question that was heard, under a limit: its value is noted
    goes_on : {A : Type 0} (q : Asked X) (k : O → Work (Asked X) O A) (a : A) (u : ℕ) (e : Ended O) (n : ℕ) {Z : Type 0} → (metered at l u (ev q.at)).ended ≡ e → (heard q e n (λ c n. driven at (λ q. ev q.at) l n (k c))).ended ≡ done a → ((v : O) → noted q.at (run at (ev q.at)) (λ v. points_in (k v)) ≡ place q.at v ∷ points_in (k v) → (driven at (λ q. ev q.at) l n (k v)).ended ≡ done a → Z) → Z
    goes_on q k a u (done v) n h e g = let r = of_metered at (λ e. refl) l u v (own_answer_lem at (ev q.at)) h in g v (rw r) e
    goes_on q k a u (stopped r) n h e g = impossible (cc)
    goes_on q k a u short n h e g = impossible (cc)

    -- where P is had by every answer to values that are all among ps, and the points are, P is had by the answer that code comes to
    pub of_driven : {A : Type 0} {P : A → Type 0} (ps : List (Place X O)) {w : Work (Asked X) O A} (u : ℕ) (a : A) → Given (λ (q : Asked X) (v : O). Among (place q.at v) ps) P w → ((y : Place X O) → Among y (points_in w) → Among y ps) → (driven at (λ q. ev q.at) l u w).ended ≡ done a → P a
    unfolding driven points_in
    of_driven ps u a (holds {a = b} h) s e = let q : b ≡ a = cc in rw q at h
    of_driven ps u a refuses s e = impossible (cc)
    of_driven ps u a (hears {e = q} {k = k} b) s e =
        goes_on q k a u (metered at l u (ev q.at)).ended (metered at l u (ev q.at)).used refl e
        (λ v i g. of_driven ps _ a (b v (s _ (rw i (newest refl)))) (λ y m. s y (rw i (older m))) g)

    -- a question of a driven descent: heard, and the rest has one that was refused; or refused itself
    stops_at : {A Z : Type 0} (q o : Asked X) (k : O → Work (Asked X) O A) (u : ℕ) (e : Ended O) (n : ℕ) → (metered at l u (ev q.at)).ended ≡ e → (heard q e n (λ c n. driven at (λ q. ev q.at) l n (k c))).asked ≡ refused o → (q ≡ o → Z) → ((v : O) → noted q.at (run at (ev q.at)) (λ v. points_in (k v)) ≡ place q.at v ∷ points_in (k v) → (driven at (λ q. ev q.at) l n (k v)).asked ≡ refused o → Z) → Z
    stops_at q o k u (done v) n h e f g = let r = of_metered at (λ e. refl) l u v (own_answer_lem at (ev q.at)) h in g v (rw r) e
    stops_at q o k u (stopped r) n h e f g = f (cc)
    stops_at q o k u short n h e f g = f (cc)

    -- where I is had by every question that is asked after values that are all among ps, and the points are, I is had by the question that was refused
    pub of_refused : {A : Type 0} {I : Asked X → Type 0} {P : A → Type 0} (ps : List (Place X O)) {w : Work (Asked X) O A} (u : ℕ) (o : Asked X) → Asks (λ (q : Asked X) (v : O). Among (place q.at v) ps) I P w → ((y : Place X O) → Among y (points_in w) → Among y ps) → (driven at (λ q. ev q.at) l u w).asked ≡ refused o → I o
    unfolding driven points_in
    of_refused ps u o (gives h) s e = impossible (cc)
    of_refused {I = I} ps u o (asks {e = q} {k = k} i b) s e =
        stops_at q o k u (metered at l u (ev q.at)).ended (metered at l u (ev q.at)).used refl e (λ h. rw h at i)
        (λ v j g. of_refused ps _ o (b v (s _ (rw j (newest refl)))) (λ y m. s y (rw j (older m))) g)
