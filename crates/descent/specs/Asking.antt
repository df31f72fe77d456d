-- What a descent asks for. Let I be kept by every candidate, from a point that has I and a value that has Q there. Then, from a start that has I and
-- where each value has Q, every point that the descent asks for has I, what it reports has both, and it refuses nothing by itself.
use Rattle.std.specs.Prelude.{◌≡◌, refl, true, List, [], ◌∷◌, leb, Float}
use Prim.Native.Nat.{ℕ, zero, suc, ◌+◌}
use Rattle.std.specs.Float.{binary64}
use Rattle.std.specs.Float.Ieee.{le, of_bits}
use Rattle.std.specs.Float.Ieee.Bits.{of_bits-fits}
use Rattle.num.specs.F64.{zero·, half·, one·, ◌⊗◌}
use Rattle.num.specs.Helpers.{is_finite_of}
use Rattle.order.specs.Numbers.{zero_finite, one_finite, between_finite}
use Rattle.order.specs.Order.{le_then_le, eq_le}
use Rattle.order.specs.Products.{mul_number, mul_swap, mul_not_below, mul_left, mul-one}
use Rattle.work.specs.Work.{Work}
use Rattle.work.specs.Asks.{Asks, gives, asks, tested, passed}
use Rattle.descent.specs.declared.Trial.{Trial}
use Rattle.descent.specs.Descent.{Problem, Asked, Step, to, nowhere, Descended, idle, accepts, try, or_else, search, descend, descent}

-- the share of a direction that the k-th trial of a search takes, from 0
unfoldable pub share_of : ℕ → Float
share_of zero = one·
share_of (suc k) = share_of k ⊗ half·

record Share (a : Float) : Type 0 where
  low : le zero· a ≡ true
  high : le a one· ≡ true

half_finite : is_finite_of half· ≡ true
unfolding is_finite_of of_bits
half_finite = refl

one_share : Share one·
unfolding le of_bits
one_share = record { low = refl; high = refl }

half_share : Share half·
unfolding le of_bits
half_share = record { low = refl; high = refl }

share_within : (k : ℕ) → Share (share_of k)
unfolding share_of
share_within zero = one_share
share_within (suc k) =
    let a = share_of k in
    let s = share_within k in
    let i = between_finite zero· a one· zero_finite one_finite s.low s.high in
    let unit : le (one· ⊗ half·) one· ≡ true = rw (mul_swap one· half·) (le_then_le _ _ _ (eq_le _ _ (mul-one half· half_finite (of_bits-fits binary64 0x3fe0_0000_0000_0000))) half_share.high) in
    record {
      low = mul_not_below a half· (mul_number a half· i half_finite) s.low half_share.low;
      high = le_then_le _ _ _ (mul_left a half· one· i half_finite one_finite half_share.low s.high) unit;
    }

pub share_finite : (k : ℕ) → is_finite_of (share_of k) ≡ true
share_finite k = between_finite zero· (share_of k) one· zero_finite one_finite (share_within k).low (share_within k).high

module _ {X O D : Type 0} (p : Problem X O D) (Q : X → O → Type 0) (I : X → Type 0) where
  abbrev pub Only : {A : Type 0} → (A → Type 0) → Work (Asked X) O A → Type 0
  Only P w = Asks (λ (q : Asked X) (v : O). Q q.at v) (λ (q : Asked X). I q.at) P w

  pub record Reports (r : Descended X O) : Type 0 where
    pub inside : I r.x
    pub evaluated : Q r.x r.v

  data Reached : Step X O → Type 0 where
    there : {x : X} {v : O} → I x → Q x v → Reached (to x v)
    none : Reached nowhere

  by_step : {B : Type 0} {R : B → Type 0} {s : Step X O} {go : X → O → Work (Asked X) O B} {halt : Work (Asked X) O B} → Reached s → ((x : X) (v : O) → I x → Q x v → Only R (go x v)) → Only R halt → Only R (or_else p go halt s)
  by_step (there i q) g h = g _ _ i q
  by_step none g h = h

  tried : (x : X) (v : O) (d : D) (alpha : Float) (e : ℕ) (ts : List Trial) → I (p.candidate x d alpha) → Only (λ t. Reached t.step) (try p x v d alpha e ts)
  unfolding try
  tried x v d alpha e ts i =
      let next = p.candidate x d alpha in
      tested (idle p x v next) (λ t. gives none)
      (λ t. asks i (λ c q. tested (accepts p x v next c) (λ t. gives (there i q)) (λ t. gives none)))

  sought : (x : X) (v : O) (d : D) → ((k : ℕ) → I (p.candidate x d (share_of k))) → (n k e : ℕ) (ts : List Trial) → Only (λ s. Reached s.step) (search p x v d n (share_of k) e ts)
  unfolding search share_of
  sought x v d c zero k e ts = gives none
  sought x v d c (suc n) k e ts =
      tested (leb p.most e) (λ t. gives none)
      (λ t.
      passed (tried x v d (share_of k) e ts (c k)) (λ r g.
      by_step g (λ next v' i q. gives g) (sought x v d c n (suc k) r.evaluations (r.trial ∷ ts))))

  module _ (kept : (x : X) (v : O) → I x → Q x v → (k : ℕ) → I (p.candidate x (p.direction x v) (share_of k))) where
    descends : (n : ℕ) (x : X) (v : O) (e k : ℕ) (ts : List Trial) → I x → Q x v → Only Reports (descend p n x v e k ts)
    unfolding descend share_of
    descends zero x v e k ts i q =
        tested (le (p.norm x v) p.tolerance) (λ t. gives (record { inside = i; evaluated = q }))
        (λ t. tested (leb p.most e) (λ t. gives (record { inside = i; evaluated = q })) (λ t. gives (record { inside = i; evaluated = q })))
    descends (suc n) x v e k ts i q =
        tested (le (p.norm x v) p.tolerance) (λ t. gives (record { inside = i; evaluated = q }))
        (λ t.
        tested (leb p.most e) (λ t. gives (record { inside = i; evaluated = q }))
        (λ t.
        passed (sought x v (p.direction x v) (kept x v i q) 48 0 e ts) (λ s g.
        by_step g (λ next c j r. descends n next c s.evaluations (k + 1) s.trials j r) (gives (record { inside = i; evaluated = q })))))

    pub descent_asks : (x : X) → I x → Only Reports (descent p x)
    descent_asks x i = asks i (λ v q. descends p.turns x v 1 0 [] i q)
