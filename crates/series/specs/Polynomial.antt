-- Powers of a - b, and the parts of a polynomial in x = (a - b) / u, as signed whole numbers. Parts that lie side by side join, and a power of x shifts one.
use Rattle.std.specs.Prelude.{◌≡◌, length}
use Rattle.std.proofs.Math.Path.{refl, ap}
use Rattle.std.proofs.Common.{sym, ◌∙◌, add-suc, add-zero, zero-add, pow-add}
use mathlib.Core.List.{List, [], ◌∷◌, ◌++◌}
use Prim.Native.Nat.{ℕ, zero, suc, ◌+◌, ◌-◌, ◌*◌, ◌^◌, ◌≤◌}
use Rattle.std.proofs.Math.Nat.{pow-succ', pow-zero}
use native.Mathlib.Omega.{arith}

more : (l m n : ℕ) → suc l + m ≤ suc n → l + suc m ≤ suc n
more l m n h = omega arith

-- p - n
pub record Signed : Type 0 where
  pub p : ℕ
  pub n : ℕ

-- (a - b)^k
unfoldable pub power : ℕ → ℕ → ℕ → Signed
power a b zero = record { p = 1; n = 0 }
power a b (suc k) = let q = power a b k in record { p = q.p * a + q.n * b; n = q.p * b + q.n * a }

-- c0 x^j + c1 x^(j + 1) + .., times u^n
unfoldable pub part : ℕ → ℕ → ℕ → ℕ → ℕ → List ℕ → Signed
part u n a b j [] = record { p = 0; n = 0 }
part u n a b j (c ∷ cs) =
    let q = power a b j in
    let r = part u n a b (suc j) cs in
    record { p = c * (q.p * u ^ (n - j)) + r.p; n = c * (q.n * u ^ (n - j)) + r.n }

module _ (a b : ℕ) where
  pub power_suc_p : (k : ℕ) → (power a b (suc k)).p ≡ (power a b k).p * a + (power a b k).n * b
  unfolding power
  power_suc_p k = refl

  pub power_suc_n : (k : ℕ) → (power a b (suc k)).n ≡ (power a b k).p * b + (power a b k).n * a
  unfolding power
  power_suc_n k = refl

  pub power_zero_p : (power a b 0).p ≡ 1
  unfolding power
  power_zero_p = refl

  pub power_zero_n : (power a b 0).n ≡ 0
  unfolding power
  power_zero_n = refl

  pub power_size : (k : ℕ) → (power a b k).p + (power a b k).n ≡ (a + b) ^ k
  power_size zero = rw (power_zero_p, power_zero_n, pow-zero (a + b))
  power_size (suc k) = rw (power_suc_p k, power_suc_n k, pow-succ' (a + b) k, ← power_size k) (omega arith)

  -- the product of two powers
  pub record Adds (k j : ℕ) : Type 0 where
    pub p : (power a b (k + j)).p ≡ (power a b k).p * (power a b j).p + (power a b k).n * (power a b j).n
    pub n : (power a b (k + j)).n ≡ (power a b k).p * (power a b j).n + (power a b k).n * (power a b j).p

  pub power_add : (k j : ℕ) → Adds k j
  power_add k zero = record { p = rw (add-zero k, power_zero_p, power_zero_n) (omega arith); n = rw (add-zero k, power_zero_p, power_zero_n) (omega arith) }
  power_add k (suc j) =
      let i = power_add k j in
      record {
        p = rw (add-suc k j, power_suc_p (k + j), power_suc_p j, power_suc_n j, i.p, i.n) (omega arith);
        n = rw (add-suc k j, power_suc_n (k + j), power_suc_p j, power_suc_n j, i.p, i.n) (omega arith);
      }

module _ (u m a b : ℕ) where
  pub part_cons_p : (j c : ℕ) (cs : List ℕ) → (part u m a b j (c ∷ cs)).p ≡ c * ((power a b j).p * u ^ (m - j)) + (part u m a b (suc j) cs).p
  unfolding part
  part_cons_p j c cs = refl

  pub part_cons_n : (j c : ℕ) (cs : List ℕ) → (part u m a b j (c ∷ cs)).n ≡ c * ((power a b j).n * u ^ (m - j)) + (part u m a b (suc j) cs).n
  unfolding part
  part_cons_n j c cs = refl

  pub part_nil_p : (j : ℕ) → (part u m a b j []).p ≡ 0
  unfolding part
  part_nil_p j = refl

  pub part_nil_n : (j : ℕ) → (part u m a b j []).n ≡ 0
  unfolding part
  part_nil_n j = refl

  pub record Joins (j : ℕ) (cs ds : List ℕ) : Type 0 where
    pub p : (part u m a b j (cs ++ ds)).p ≡ (part u m a b j cs).p + (part u m a b (length cs + j) ds).p
    pub n : (part u m a b j (cs ++ ds)).n ≡ (part u m a b j cs).n + (part u m a b (length cs + j) ds).n

  pub joins : (j : ℕ) (cs ds : List ℕ) → Joins j cs ds
  joins j [] ds = record { p = rw (zero-add j, part_nil_p j) (omega arith); n = rw (zero-add j, part_nil_n j) (omega arith) }
  joins j (c ∷ cs) ds =
      let i = joins (suc j) cs ds in
      record {
        p = rw (part_cons_p j c (cs ++ ds), part_cons_p j c cs, i.p, step) (omega arith);
        n = rw (part_cons_n j c (cs ++ ds), part_cons_n j c cs, i.n, step) (omega arith);
      }
    where
      step : length cs + suc j ≡ suc (length cs) + j
      step = omega arith

  less_powers : (k j : ℕ) → k + j ≤ m → u ^ (m - (k + j)) * u ^ k ≡ u ^ (m - j)
  less_powers k j h =
      let e : m - (k + j) + k ≡ m - j = omega arith in
      sym (pow-add u (m - (k + j)) k) ∙ ap (λ (x : ℕ). u ^ x) e

  -- times x^k
  pub record Shifts (k j : ℕ) (cs : List ℕ) : Type 0 where
    pub p : (part u m a b (k + j) cs).p * u ^ k ≡ (power a b k).p * (part u m a b j cs).p + (power a b k).n * (part u m a b j cs).n
    pub n : (part u m a b (k + j) cs).n * u ^ k ≡ (power a b k).p * (part u m a b j cs).n + (power a b k).n * (part u m a b j cs).p

  spread : (c q r s t x y z f w A B : ℕ) → q ≡ r * s + t * x → y * w ≡ z → f * w ≡ r * A + t * B → (c * (q * y) + f) * w ≡ r * (c * (s * z) + A) + t * (c * (x * z) + B)
  spread c q r s t x y z f w A B h k l =
      let i : q * (y * w) * c ≡ (r * s + t * x) * z * c = rw (h, k) in
      omega (arith, i, l)

  pub shifts : (k j : ℕ) (cs : List ℕ) → length cs + (k + j) ≤ suc m → Shifts k j cs
  shifts k j [] h = record { p = rw (part_nil_p (k + j), part_nil_p j, part_nil_n j) (omega arith); n = rw (part_nil_n (k + j), part_nil_p j, part_nil_n j) (omega arith) }
  shifts k j (c ∷ cs) h =
      let next : length cs + (k + suc j) ≤ suc m = rw (add-suc k j) (more (length cs) (k + j) m h) in
      let i = shifts k (suc j) cs next in
      let ip : (part u m a b (suc (k + j)) cs).p * u ^ k ≡ (power a b k).p * (part u m a b (suc j) cs).p + (power a b k).n * (part u m a b (suc j) cs).n = rw (add-suc k j) at i.p in
      let iN : (part u m a b (suc (k + j)) cs).n * u ^ k ≡ (power a b k).p * (part u m a b (suc j) cs).n + (power a b k).n * (part u m a b (suc j) cs).p = rw (add-suc k j) at i.n in
      let q = power_add a b k j in
      let e = less_powers k j (low (length cs) (k + j) m h) in
      record {
        p = rw (part_cons_p (k + j) c cs, part_cons_p j c cs, part_cons_n j c cs) (spread c _ _ _ _ _ _ _ _ _ _ _ q.p e ip);
        n = rw (part_cons_n (k + j) c cs, part_cons_p j c cs, part_cons_n j c cs) (spread c _ _ _ _ _ _ _ _ _ _ _ q.n e iN);
      }
    where
      low : (l m n : ℕ) → suc l + m ≤ suc n → m ≤ n
      low l m n h = omega arith

-- each coefficient times c
unfoldable pub scaled : ℕ → List ℕ → List ℕ
scaled c [] = []
scaled c (d ∷ ds) = d * c ∷ scaled c ds

pub scaled_length : (c : ℕ) (ds : List ℕ) → length (scaled c ds) ≡ length ds
unfolding scaled
scaled_length c [] = refl
scaled_length c (d ∷ ds) = ap (λ (n : ℕ). suc n) (scaled_length c ds)

module _ (u m a b c : ℕ) where
  -- one power of u more
  pub record Scales (j : ℕ) (ds : List ℕ) : Type 0 where
    pub p : (part u (suc m) a b j (scaled c ds)).p ≡ (part u m a b j ds).p * (c * u)
    pub n : (part u (suc m) a b j (scaled c ds)).n ≡ (part u m a b j ds).n * (c * u)

  again : (d q y z f w : ℕ) → z ≡ u * y → f ≡ w * (c * u) → d * c * (q * z) + f ≡ (d * (q * y) + w) * (c * u)
  again d q y z f w h k = rw (h, k) (omega arith)

  pub scales : (j : ℕ) (ds : List ℕ) → length ds + j ≤ suc m → Scales j ds
  unfolding scaled
  scales j [] h = record { p = rw (part_nil_p u (suc m) a b j, part_nil_p u m a b j) (omega arith); n = rw (part_nil_n u (suc m) a b j, part_nil_n u m a b j) (omega arith) }
  scales j (d ∷ ds) h =
      let i = scales (suc j) ds (more (length ds) j m h) in
      let k : suc m - j ≡ suc (m - j) = low (length ds) j m h in
      let e : u ^ (suc m - j) ≡ u * u ^ (m - j) = ap (λ (x : ℕ). u ^ x) k ∙ pow-succ' u (m - j) in
      record {
        p = rw (part_cons_p u (suc m) a b j (d * c) (scaled c ds), part_cons_p u m a b j d ds) (again d _ _ _ _ _ e i.p);
        n = rw (part_cons_n u (suc m) a b j (d * c) (scaled c ds), part_cons_n u m a b j d ds) (again d _ _ _ _ _ e i.n);
      }
    where
      low : (l j n : ℕ) → suc l + j ≤ suc n → suc n - j ≡ suc (n - j)
      low l j n h = omega arith
