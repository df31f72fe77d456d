-- The questions of a descent: no more than its evaluation limit, whatever the values are. Hence what its objective's calls come to in all.
use Rattle.std.specs.Prelude.{◌≡◌, Bool, true, false, cond, List, [], ◌∷◌, leb, Float}
use Rattle.std.proofs.Math.Path.{refl}
use Prim.Native.Nat.{ℕ, zero, suc, ◌+◌, ◌-◌, ◌*◌, ◌≤◌, ◌<◌}
use Rattle.std.proofs.Math.Nat.{sub-zero}
use Rattle.std.proofs.Common.{arith, leb-false}
use Rattle.std.specs.Float.Ieee.{le}
use Rattle.num.specs.F64.{◌⊗◌, half·, one·}
use Rattle.work.specs.Work.{Work, ret, ask, ◌>>=◌}
use Rattle.work.specs.Metered.{split}
use Rattle.work.specs.AtMost.{AtMost, both}
use Rattle.work.specs.AtMost as bound
use Rattle.work.specs.Through.{through}
use Rattle.descent.specs.declared.Trial.{Trial}
use Rattle.descent.specs.Descent.{Problem, Asked, Step, to, nowhere, Tried, Searched, Descended, idle, accepts, try, or_else, search, descend, descent}

-- with e questions behind it, of at most m: an answer a says in f a how many there were
data Spends {Q O A : Type 0} (m : ℕ) (f : A → ℕ) : ℕ → Work Q O A → Type 0 where
  rets : {e : ℕ} {a : A} → f a ≡ e → Spends m f e (ret a)
  asks : {e : ℕ} {q : Q} {k : O → Work Q O A} → e < m → ((v : O) → Spends m f (e + 1) (k v)) → Spends m f e (ask q k)

module _ {Q O A : Type 0} {m : ℕ} {f : A → ℕ} where
  chosen : {e : ℕ} {x y : Work Q O A} (t : Bool) → (t ≡ true → Spends m f e x) → (t ≡ false → Spends m f e y) → Spends m f e (cond t x y)
  chosen t p q = split t (λ b. rw b (p b)) (λ b. rw b (q b))

  passed : {B : Type 0} {g : B → ℕ} {e : ℕ} {w : Work Q O A} {k : A → Work Q O B} → Spends m f e w → ((a : A) → Spends m g (f a) (k a)) → Spends m g e (w >>= k)
  unfolding ◌>>=◌
  passed {g = g} {k = k} (rets {a = a} h) b = rw h at (b a)
  passed (asks h c) b = asks h (λ v. passed (c v) b)

  at_most : {e : ℕ} {w : Work Q O A} → Spends m f e w → AtMost (m - e) w
  at_most (rets h) = bound.rets
  at_most {e} (asks h c) = let s : m - e ≡ suc (m - (e + 1)) = omega arith in rw s (bound.asks (λ v. at_most (c v)))

module _ {X O D : Type 0} (p : Problem X O D) where
  by_step : {A : Type 0} {f : A → ℕ} {e : ℕ} (s : Step X O) {go : X → O → Work (Asked X) O A} {halt : Work (Asked X) O A} → ((x : X) (v : O) → Spends p.most f e (go x v)) → Spends p.most f e halt → Spends p.most f e (or_else p go halt s)
  by_step (to x v) a b = a x v
  by_step nowhere a b = b

  tries : (x : X) (v : O) (d : D) (alpha : Float) (e : ℕ) (ts : List Trial) → e < p.most → Spends p.most (λ (t : Tried X O). t.evaluations) e (try p x v d alpha e ts)
  unfolding try
  tries x v d alpha e ts h =
      let next = p.candidate x d alpha in
      chosen (idle p x v next) (λ t. rets refl) (λ t. asks h (λ c. chosen (accepts p x v next c) (λ t. rets refl) (λ t. rets refl)))

  searches : (x : X) (v : O) (d : D) (n : ℕ) (alpha : Float) (e : ℕ) (ts : List Trial) → Spends p.most (λ (s : Searched X O). s.evaluations) e (search p x v d n alpha e ts)
  unfolding search
  searches x v d zero alpha e ts = rets refl
  searches x v d (suc n) alpha e ts =
      chosen (leb p.most e) (λ t. rets refl)
      (λ t.
      passed (tries x v d alpha e ts (leb-false p.most e t)) (λ r. by_step r.step (λ next c. rets refl) (searches x v d n (alpha ⊗ half·) r.evaluations (r.trial ∷ ts))))

  descends : (n : ℕ) (x : X) (v : O) (e k : ℕ) (ts : List Trial) → Spends p.most (λ (r : Descended X O). r.evaluations) e (descend p n x v e k ts)
  unfolding descend
  descends zero x v e k ts = chosen (le (p.norm x v) p.tolerance) (λ t. rets refl) (λ t. chosen (leb p.most e) (λ t. rets refl) (λ t. rets refl))
  descends (suc n) x v e k ts =
      chosen (le (p.norm x v) p.tolerance) (λ t. rets refl)
      (λ t.
      chosen (leb p.most e) (λ t. rets refl)
      (λ t.
      passed (searches x v (p.direction x v) 48 one· e ts) (λ s. by_step s.step (λ next c. descends n next c s.evaluations (k + 1) s.trials) (rets refl))))

  pub asks_most : 1 ≤ p.most → (x : X) → AtMost p.most (descent p x)
  asks_most h x = rw (sub-zero p.most) at (at_most {e = 0} (asks {q = record { at = x; begun = false; trials = [] }} {k = λ v. descend p p.turns x v 1 0 []} (omega arith) (λ v. descends p.turns x v 1 0 [])))

-- m questions of at most n evaluations each
pub through_most : {E Y Q O A : Type 0} (n : ℕ) (ev : Q → Work E Y O) → ((q : Q) → AtMost n (ev q)) → {m : ℕ} {w : Work Q O A} → AtMost m w → AtMost (m * n) (through ev w)
unfolding through
through_most n ev h bound.rets = bound.rets
through_most n ev h bound.stops = bound.stops
through_most n ev h (bound.asks {n = m} {e = q} b) = let s : suc m * n ≡ n + m * n = omega arith in rw s (both (m * n) (h q) (λ c. through_most n ev h (b c)))
