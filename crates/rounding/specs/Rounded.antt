-- One rounding moves a number by half a unit in its last place at most: of `closest`, of `round`, and of a product and a sum of f64s.
use Rattle.std.specs.Prelude.{◌≡◌, refl, Bool, not, ◌&&◌, cond, T, ltb, Float}
use Rattle.std.proofs.Common.{sym, ap, ◌∙◌, subst, le_trans, lt_of_lt_of_le, mul_assoc, mul_comm, mul_right_comm, mul-le-mul_left, mul-le-mul_right, mul-pos, le_of_mul-le-mul_right, lt_of_mul-lt-mul_right, mul-lt-mul_of_pos_right, div-add-mod', mod-lt, div-lt_iff_lt-mul, arith, ltb→lt, nltb→le, pow_pos, pow_mono}
use Rattle.std.proofs.Math.Bool.{true, false}
use Prim.Native.Nat.{ℕ, zero, suc, ◌+◌, ◌-◌, ◌*◌, ◌/◌, ◌%◌, ◌^◌, ◌≤◌, ◌<◌, compare, Ordering}
use Rattle.std.proofs.Math.Nat.{mul-mul-mul_comm, mul-sub, pow-succ'}
use Rattle.std.specs.Float.{nan, inf, fin, binary64}
use Rattle.std.specs.Float.Ieee.{up, down, unlike, size, nearest, round, sum, add, mul}
use Rattle.std.specs.Float.Ieee.Digits.{size-le}
use Rattle.std.specs.Float.Ieee.Fits.{round_is, down_pos}
use Rattle.std.specs.Float.Ieee.Exact.{HasValue, units_val}
use Rattle.std.specs.Float.Ieee.Nearest.{closest}
use Rattle.std.specs.Float.Ieee.Order.{drop, kept}
use Rattle.std.specs.Float.Ieee.Scale.{round_same}
use Rattle.num.specs.Compare.{Cmp, cmp}
use Rattle.rounding.specs.Gap.{Gap}
use Rattle.rounding.specs.Units.{U, U_pos, pos_side, neg_side}

-- twice the distance of c · b from a is at most d
pub record Half (a c b d : ℕ) : Type 0 where
  pub above : c * b * 2 ≤ a * 2 + d
  pub below : a * 2 ≤ c * b * 2 + d

at_tie : (q r b t : ℕ) → t ≤ 1 → r * 2 ≡ b → Half (q * b + r) (q + t) b b
at_tie q r b zero h e = record { above = omega arith; below = omega arith }
at_tie q r b (suc t) h e =
    let z : t ≡ 0 = omega arith in
    rw z (record { above = omega arith; below = omega arith })

half_of : (q r b : ℕ) (o : Ordering) → r < b → Cmp o (r * 2) b → Half (q * b + r) (nearest q o) b b
half_of q r b Ordering.lt h c = record { above = omega arith; below = omega arith }
half_of q r b Ordering.eq h c = at_tie q r b (q % 2) (omega arith) c
half_of q r b Ordering.gt h c = record { above = omega arith; below = omega arith }

pub closest_half : (a b : ℕ) → 0 < b → Half a (closest a b) b b
closest_half a b h = subst (λ (x : ℕ). Half x (closest a b) b b) (div-add-mod' a b) (half_of (a / b) (a % b) b (compare (a % b * 2) b) (mod-lt a h) (cmp (a % b * 2) b))

spare : (z p j : ℕ) → z ≤ p + j → z - p ≤ j
spare z p j h = omega arith

-- n / den, a number of units, rounded to p digits, where it is below 2^(p + j) units
pub kept_half : (p n den j : ℕ) → 0 < den → n < 2 ^ (p + j) * den → Half n (kept p n den * 2 ^ drop p n den) den (den * 2 ^ j)
kept_half p n den j h l =
    let k = drop p n den in
    let few : k ≤ j = spare (size (n / den)) p j (size-le (n / den) (p + j) ((div-lt_iff_lt-mul h).1 l)) in
    let c = closest_half n (den * 2 ^ k) (mul-pos h (pow_pos k)) in
    let wide : den * 2 ^ k ≤ den * 2 ^ j = mul-le-mul_left den (pow_mono few) in
    let same : kept p n den * 2 ^ k * den ≡ kept p n den * (den * 2 ^ k) = mul_assoc (kept p n den) (2 ^ k) den ∙ ap (λ (x : ℕ). kept p n den * x) (mul_comm (2 ^ k) den) in
    record {
      above = rw same (le_trans c.above (omega (arith, wide)));
      below = rw same (le_trans c.below (omega (arith, wide)));
    }

few_units : (n b g j : ℕ) → n < 2 ^ (53 + j) * b → Half n g b (b * 2 ^ j) → g < 2 ^ (54 + j)
few_units n b g j l f =
    let e : 54 + j ≡ suc (53 + j) = omega arith in
    let a : 2 ^ (54 + j) ≡ 2 * 2 ^ (53 + j) = ap (λ (x : ℕ). 2 ^ x) e ∙ pow-succ' 2 (53 + j) in
    let c : b * 2 ^ j ≤ b * 2 ^ (53 + j) = mul-le-mul_left b (pow_mono (omega arith)) in
    let m : g * b < 2 ^ (54 + j) * b = rw a (omega (arith, f.above, l, c)) in
    lt_of_mul-lt-mul_right b m

-- x is g units with the sign s, and twice the distance of g from n / b is at most d
pub record Rounds (x : Float) (s : Bool) (n b d : ℕ) : Type 0 where
  pub g : ℕ
  pub value : HasValue x s g U
  pub half : Half n g b (b * d)

cancel : (n g b c d : ℕ) → 0 < c → Half (n * c) g (b * c) (b * c * d) → Half n g b (b * d)
cancel n g b c d h f =
    let a : g * b * 2 * c ≤ (n * 2 + b * d) * c = omega (arith, f.above) in
    let z : n * 2 * c ≤ (g * b * 2 + b * d) * c = omega (arith, f.below) in
    record { above = le_of_mul-le-mul_right a h; below = le_of_mul-le-mul_right z h }

-- `round` of a fraction that is n / b units, where that is below 2^(53 + j)
pub rounds : (s : Bool) (num den n b c j : ℕ) → 0 < b → 0 < c → num * U ≡ n * c → den ≡ b * c → n < 2 ^ (53 + j) * b → j ≤ 2000 → Rounds (round binary64 s num den) s n b (2 ^ j)
unfolding U
rounds s num den n b c j hb hc e i l small =
    let v = num * 2 ^ 1074 in
    let q = kept 53 v den in
    let k = drop 53 v den in
    let some : 0 < den = rw i (mul-pos hb hc) in
    let below : v < 2 ^ (53 + j) * den = rw (e, i, ← mul_assoc (2 ^ (53 + j)) b c) (mul-lt-mul_of_pos_right l hc) in
    let f = kept_half 53 v den j some below in
    let fine : q * 2 ^ k < 2 ^ 2098 = lt_of_lt_of_le (few_units v den (q * 2 ^ k) j below f) (pow_mono {i = 54 + j} {j = 2098} (omega arith)) in
    record {
      g = q * 2 ^ k;
      value = subst (λ (x : Float). HasValue x s (q * 2 ^ k) (2 ^ 1074)) (sym (round_is binary64 s num den)) (units_val binary64 s q k fine);
      half = cancel n (q * 2 ^ k) b c (2 ^ j) hc (subst (λ (y : ℕ). Half (n * c) (q * 2 ^ k) y (y * 2 ^ j)) i (subst (λ (y : ℕ). Half y (q * 2 ^ k) den (den * 2 ^ j)) e f));
    }

-- ---- a product
mul_round : (x y : Float) (s t : Bool) (v w : ℕ) → HasValue x s v U → HasValue y t w U → mul binary64 x y ≡ round binary64 (unlike s t) (v * w) (U * U)
unfolding mul
mul_round nan y s t v w a b = absurd a
mul_round (inf z) y s t v w a b = absurd a
mul_round (fin z m e) nan s t v w a b = absurd b
mul_round (fin z m e) (inf o) s t v w a b = absurd b
mul_round (fin z m e) (fin o n d) s t v w a b =
    ap (λ (r : Bool). round binary64 (unlike r o) (m * up e * (n * up d)) (down e * down d)) a.0
    ∙ ap (λ (r : Bool). round binary64 (unlike s r) (m * up e * (n * up d)) (down e * down d)) b.0
    ∙ round_same binary64 (unlike s t) (m * up e * (n * up d)) (down e * down d) (v * w) (U * U) (mul-pos (down_pos e) (down_pos d)) (mul-pos U_pos U_pos)
    (mul-mul-mul_comm (m * up e) (n * up d) U U ∙ ap (λ (x : ℕ). x * (n * up d * U)) a.1 ∙ ap (λ (x : ℕ). v * down e * x) b.1 ∙ mul-mul-mul_comm v (down e) w (down d))

-- v · w / U units
pub product : (x y : Float) (s t : Bool) (v w j : ℕ) → HasValue x s v U → HasValue y t w U → v * w < 2 ^ (53 + j) * U → j ≤ 2000 → Rounds (mul binary64 x y) (unlike s t) (v * w) U (2 ^ j)
product x y s t v w j a b l small =
    subst (λ (z : Float). Rounds z (unlike s t) (v * w) U (2 ^ j)) (sym (mul_round x y s t v w a b)) (rounds (unlike s t) (v * w) (U * U) (v * w) U U j U_pos U_pos refl refl l small)

-- ---- a sum
pub record Sum (x : Float) (s t : Bool) (v w d : ℕ) : Type 0 where
  pub z : Bool
  pub g : ℕ
  pub value : HasValue x z g U
  pub near : Gap (pos_side z g * 2) (neg_side z g * 2) ((pos_side s v + pos_side t w) * 2) ((neg_side s v + neg_side t w) * 2) d

less_by : (a b u v w c : ℕ) → a * u ≡ v * c → b * u ≡ w * c → (b - a) * u ≡ (w - v) * c
less_by a b u v w c e f =
    let p : u * a ≡ c * v = mul_comm u a ∙ e ∙ mul_comm v c in
    let q : u * b ≡ c * w = mul_comm u b ∙ f ∙ mul_comm w c in
    mul_comm (b - a) u ∙ mul-sub u b a ∙ ap (λ (x : ℕ). x - u * a) q ∙ ap (λ (x : ℕ). c * w - x) p ∙ sym (mul_comm (w - v) c ∙ mul-sub c w v)

order : (a b u v w c : ℕ) → 0 < c → a * u ≡ v * c → b * u ≡ w * c → a ≤ b → v ≤ w
order a b u v w c h e f l = le_of_mul-le-mul_right (rw (← e, ← f) (mul-le-mul_right u l)) h

-- a / c and b / c are v and w units
module _ (a b c v w j : ℕ) (some : 0 < c) (e : a * U ≡ v * c) (f : b * U ≡ w * c) (l : v + w < 2 ^ (53 + j)) (small : j ≤ 2000) where
  whole : (s : Bool) (num n : ℕ) → num * U ≡ n * c → n ≤ v + w → Rounds (round binary64 s num c) s n 1 (2 ^ j)
  whole s num n i k = rounds s num c n 1 c j (omega arith) some i (omega arith) (omega (arith, l, k)) small

  alike : (s : Bool) → Sum (round binary64 s (a + b) c) s s v w (2 ^ j)
  alike s = go s (whole s (a + b) (v + w) (omega (arith, e, f)) (omega arith))
    where
      go : (s : Bool) → Rounds (round binary64 s (a + b) c) s (v + w) 1 (2 ^ j) → Sum (round binary64 s (a + b) c) s s v w (2 ^ j)
      go true r = record { z = true; g = r.g; value = r.value; near = record { above = omega (arith, r.half.below); below = omega (arith, r.half.above) } }
      go false r = record { z = false; g = r.g; value = r.value; near = record { above = omega (arith, r.half.above); below = omega (arith, r.half.below) } }

  -- of unlike signs, s with v and not s with w
  second : (s : Bool) → a < b → Sum (round binary64 (not s) (b - a) c) s (not s) v w (2 ^ j)
  second s h = go s (whole (not s) (b - a) (w - v) (less_by a b U v w c e f) (omega arith)) (order a b U v w c some e f (omega arith))
    where
      go : (s : Bool) → Rounds (round binary64 (not s) (b - a) c) (not s) (w - v) 1 (2 ^ j) → v ≤ w → Sum (round binary64 (not s) (b - a) c) s (not s) v w (2 ^ j)
      go true r k = record { z = false; g = r.g; value = r.value; near = record { above = omega (arith, r.half.above, k); below = omega (arith, r.half.below, k) } }
      go false r k = record { z = true; g = r.g; value = r.value; near = record { above = omega (arith, r.half.below, k); below = omega (arith, r.half.above, k) } }

  first : (s : Bool) → b ≤ a → Sum (round binary64 (s && ltb b a) (a - b) c) s (not s) v w (2 ^ j)
  first s h = go s (ltb b a) (λ z. whole z (a - b) (v - w) (less_by b a U w v c f e) (omega arith)) (order b a U w v c some f e h) (λ n. order a b U v w c some e f (nltb→le b a n))
    where
      go : (s y : Bool) → ((z : Bool) → Rounds (round binary64 z (a - b) c) z (v - w) 1 (2 ^ j)) → w ≤ v → (T (not y) → v ≤ w) → Sum (round binary64 (s && y) (a - b) c) s (not s) v w (2 ^ j)
      go true true r k n = let q = r true in record { z = true; g = q.g; value = q.value; near = record { above = omega (arith, q.half.below, k); below = omega (arith, q.half.above, k) } }
      go true false r k n = let q = r false in let i = n tt in record { z = false; g = q.g; value = q.value; near = record { above = omega (arith, q.half.above, k, i); below = omega (arith, q.half.below, k, i) } }
      go false y r k n = let q = r false in record { z = false; g = q.g; value = q.value; near = record { above = omega (arith, q.half.above, k); below = omega (arith, q.half.below, k) } }

  unlike_signs : (s : Bool) → Sum (cond (ltb a b) (round binary64 (not s) (b - a) c) (round binary64 (s && ltb b a) (a - b) c)) s (not s) v w (2 ^ j)
  unlike_signs s = go (ltb a b) (ltb→lt a b) (nltb→le a b)
    where
      go : (y : Bool) → (T y → a < b) → (T (not y) → b ≤ a) → Sum (cond y (round binary64 (not s) (b - a) c) (round binary64 (s && ltb b a) (a - b) c)) s (not s) v w (2 ^ j)
      go true h k = second s (h tt)
      go false h k = first s (k tt)

  summed : (s t : Bool) → Sum (sum binary64 s a t b c) s t v w (2 ^ j)
  unfolding sum
  summed true true = alike true
  summed false false = alike false
  summed true false = unlike_signs true
  summed false true = unlike_signs false

pub added : (x y : Float) (s t : Bool) (v w j : ℕ) → HasValue x s v U → HasValue y t w U → v + w < 2 ^ (53 + j) → j ≤ 2000 → Sum (add binary64 x y) s t v w (2 ^ j)
unfolding add
added nan y s t v w j a b l small = absurd a
added (inf z) y s t v w j a b l small = absurd a
added (fin z m e) nan s t v w j a b l small = absurd b
added (fin z m e) (inf o) s t v w j a b l small = absurd b
added (fin z m e) (fin o n d) s t v w j a b l small =
    subst (λ (r : Bool). Sum (sum binary64 z (m * up e * down d) r (n * up d * down e) (down e * down d)) s t v w (2 ^ j)) (sym b.0)
    (subst (λ (r : Bool). Sum (sum binary64 r (m * up e * down d) t (n * up d * down e) (down e * down d)) s t v w (2 ^ j)) (sym a.0)
    (summed (m * up e * down d) (n * up d * down e) (down e * down d) v w j (mul-pos (down_pos e) (down_pos d))
    (mul_right_comm (m * up e) (down d) U ∙ ap (λ (x : ℕ). x * down d) a.1 ∙ mul_assoc v (down e) (down d))
    (mul_right_comm (n * up d) (down e) U ∙ ap (λ (x : ℕ). x * down e) b.1 ∙ mul_right_comm w (down d) (down e) ∙ mul_assoc w (down e) (down d))
    l small s t))
