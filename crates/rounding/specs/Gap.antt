-- Signed whole numbers as pairs, p - n, and how far two of them are apart.
use Rattle.std.specs.Prelude.{◌≡◌, Bool, true, false, not, ℕ, ◌+◌, ◌-◌, ◌*◌, ◌≤◌, ◌<◌, T, leb}
use Rattle.std.proofs.Common.{mul-le-mul, mul-le-mul_left, le_of_mul-le-mul_right, arith, leb→le}
use Rattle.std.proofs.Math.Dec.{nleb→lt}

-- p - n lies within e of q - m
pub record Gap (p n q m e : ℕ) : Type 0 where
  pub above : p + m ≤ q + n + e
  pub below : q + n ≤ p + m + e

-- the same numbers written otherwise, and a larger error
pub gap_as : (p n q m e p' n' q' m' e' : ℕ) → Gap p n q m e → p ≡ p' → n ≡ n' → q ≡ q' → m ≡ m' → e ≤ e' → Gap p' n' q' m' e'
gap_as p n q m e p' n' q' m' e' g a b c d l = record { above = omega (arith, g.above); below = omega (arith, g.below) }

pub gap_trans : (p n q m r k e f g : ℕ) → Gap p n q m e → Gap q m r k f → e + f ≤ g → Gap p n r k g
gap_trans p n q m r k e f g x y l = record { above = omega (arith, x.above, y.above); below = omega (arith, x.below, y.below) }

-- times c - d
pub gap_mul : (p n q m e c d : ℕ) → Gap p n q m e → Gap (p * c + n * d) (p * d + n * c) (q * c + m * d) (q * d + m * c) (e * (c + d))
gap_mul p n q m e c d g =
    let a = mul-le-mul_left c g.above in
    let b = mul-le-mul_left d g.above in
    let a' = mul-le-mul_left c g.below in
    let b' = mul-le-mul_left d g.below in
    record { above = omega (arith, a, b'); below = omega (arith, a', b) }

pub gap_cancel : (p n q m e k : ℕ) → 0 < k → Gap (p * k) (n * k) (q * k) (m * k) (e * k) → Gap p n q m e
gap_cancel p n q m e k h g =
    let a : (p + m) * k ≤ (q + n + e) * k = omega (arith, g.above) in
    let b : (q + n) * k ≤ (p + m + e) * k = omega (arith, g.below) in
    record { above = le_of_mul-le-mul_right a h; below = le_of_mul-le-mul_right b h }

-- two numbers, one ahead of the other by k
data Apart (a b e : ℕ) : Type 0 where
  ahead : (k : ℕ) → a ≡ b + k → k ≤ e → Apart a b e
  behind : (k : ℕ) → b ≡ a + k → k ≤ e → Apart a b e

apart : (a b e : ℕ) → a ≤ b + e → b ≤ a + e → Apart a b e
apart a b e x y = go (leb a b) (leb→le a b) (nleb→lt a b)
  where
    go : (t : Bool) → (T t → a ≤ b) → (T (not t) → b < a) → Apart a b e
    go true l m = let i = l tt in behind (b - a) (omega arith) (omega arith)
    go false l m = let i = m tt in ahead (a - b) (omega arith) (omega arith)

-- (a - b) (c - d), where both differences are small
small_product : (a b c d e f : ℕ) → Apart a b e → Apart c d f → Gap (a * c + b * d) (a * d + b * c) 0 0 (e * f)
small_product a b c d e f (ahead k x l) (ahead j y m) = let t = mul-le-mul l m in rw (x, y) (record { above = omega (arith, t); below = omega (arith, t) })
small_product a b c d e f (ahead k x l) (behind j y m) = let t = mul-le-mul l m in rw (x, y) (record { above = omega (arith, t); below = omega (arith, t) })
small_product a b c d e f (behind k x l) (ahead j y m) = let t = mul-le-mul l m in rw (x, y) (record { above = omega (arith, t); below = omega (arith, t) })
small_product a b c d e f (behind k x l) (behind j y m) = let t = mul-le-mul l m in rw (x, y) (record { above = omega (arith, t); below = omega (arith, t) })

-- a product, each factor off by its own
pub gap_both : (p n q m e p' n' q' m' e' : ℕ) → Gap p n q m e → Gap p' n' q' m' e'
    → Gap (p * p' + n * n') (p * n' + n * p') (q * q' + m * m') (q * m' + m * q') (e * (p' + n') + (p + n) * e' + e * e')
gap_both p n q m e p' n' q' m' e' g h =
    let a = gap_mul p n q m e p' n' g in
    let b = gap_mul p' n' q' m' e' p n h in
    let c = small_product (p + m) (q + n) (p' + m') (q' + n') e e' (apart _ _ _ g.above g.below) (apart _ _ _ h.above h.below) in
    record { above = omega (arith, a.above, b.above, c.below); below = omega (arith, a.below, b.below, c.above) }
