-- Which whole numbers of units are f64s: m · 2^t, m below 2^53. So next to 2q · H, with q from 2^52 up and H a power of 2, the nearest below is H away or more,
-- the nearest above 2H or more; and where q is above 2^52 also the nearest below is 2H away or more.
use Rattle.std.specs.Prelude.{◌≡◌, Bool, true, false, not, ◌&&◌, ℕ, zero, suc, ◌+◌, ◌-◌, ◌*◌, ◌/◌, ◌%◌, ◌^◌, ◌≤◌, ◌<◌, ℤ, pos, negsuc, T, leb, ltb, eqb, Float}
use Rattle.std.proofs.Common.{sym, ap, ◌∙◌, subst, le_trans, le_of_suc-le-suc, mul_assoc, mul_left_comm, mul-one, mul-le-mul, mul-le-mul_right, lt_of_mul-lt-mul_right, lt_of_lt_of_le, lt_of_not-le, not-le_of_lt, mul-div_cancel, zero-mul, arith, leb→le, ltb→lt, pow-add, pow_mono}
use Rattle.std.proofs.Math.Nat.{pow-succ', zero-div}
use Rattle.std.proofs.Math.Dec.{nleb→lt}
use Rattle.std.proofs.Math.Pow.{pow-lt}
use Rattle.std.specs.Float.{nan, inf, fin, binary64}
use Rattle.std.specs.Float.Ieee.{up, down, fits}
use Rattle.std.specs.Float.Ieee.Fits.{and_l, and_r, down_pos}
use Rattle.root.specs.Root.{units, plus}

pub record Grid (q H n : ℕ) : Type 0 where
  pub below : n < 2 * q * H → n ≤ (2 * q - 1) * H
  pub well_below : 2 ^ 52 < q → n < 2 * q * H → n ≤ (2 * q - 2) * H
  pub above : 2 * q * H < n → (2 * q + 2) * H ≤ n

-- a multiple of 2H
multiple : (a q H : ℕ) → Grid q H (2 * a * H)
multiple a q H =
    record {
      below = λ h. let l = lt_of_mul-lt-mul_right H {m = 2 * a} {n = 2 * q} h in mul-le-mul_right H (omega arith);
      well_below = λ g h. let l = lt_of_mul-lt-mul_right H {m = 2 * a} {n = 2 * q} h in mul-le-mul_right H (omega arith);
      above = λ h. let l = lt_of_mul-lt-mul_right H {m = 2 * q} {n = 2 * a} h in mul-le-mul_right H (omega arith);
    }

-- what is finer than H
finer : (n q H : ℕ) → 2 ^ 52 ≤ q → n ≤ (2 ^ 53 - 1) * H → Grid q H n
finer n q H g f =
    record {
      below = λ h. le_trans f (mul-le-mul_right H (omega arith));
      well_below = λ k h. le_trans f (mul-le-mul_right H (omega arith));
      above = λ h. let l = lt_of_mul-lt-mul_right H {m = 2 * q} {n = 2 ^ 53 - 1} (lt_of_lt_of_le h f) in absurd (omega arith);
    }

-- n is m · 2^t with m of at most 53 digits
pub record Shape (n : ℕ) : Type 0 where
  pub m : ℕ
  pub t : ℕ
  pub few : m < 2 ^ 53
  pub is : n ≡ m * 2 ^ t

coarse : (m t j : ℕ) → suc j ≤ t → m * 2 ^ t ≡ 2 * (m * 2 ^ (t - suc j)) * 2 ^ j
coarse m t j h =
    let d = t - suc j in
    let e : d + suc j ≡ t = omega arith in
    ap (λ (x : ℕ). m * 2 ^ x) (sym e)
    ∙ ap (λ (x : ℕ). m * x) (pow-add 2 d (suc j) ∙ ap (λ (x : ℕ). 2 ^ d * x) (pow-succ' 2 j))
    ∙ sym (mul_assoc m (2 ^ d) (2 * 2 ^ j))
    ∙ mul_left_comm (m * 2 ^ d) 2 (2 ^ j)
    ∙ sym (mul_assoc 2 (m * 2 ^ d) (2 ^ j))

grid : (n q j : ℕ) → Shape n → 2 ^ 52 ≤ q → Grid q (2 ^ j) n
grid n q j s g = go (leb (suc j) s.t) (leb→le (suc j) s.t) (nleb→lt (suc j) s.t)
  where
    go : (b : Bool) → (T b → suc j ≤ s.t) → (T (not b) → s.t < suc j) → Grid q (2 ^ j) n
    go true h k = subst (λ (x : ℕ). Grid q (2 ^ j) x) (sym (s.is ∙ coarse s.m s.t j (h tt))) (multiple (s.m * 2 ^ (s.t - suc j)) q (2 ^ j))
    go false h k =
        let few : s.m ≤ 2 ^ 53 - 1 = omega (arith, s.few) in
        finer n q (2 ^ j) g (subst (λ (x : ℕ). x ≤ (2 ^ 53 - 1) * 2 ^ j) (sym s.is) (mul-le-mul few (pow_mono (le_of_suc-le-suc (k tt)))))

-- m · 2^e, no finer than a unit, is a whole number of units: m · 2^t
pub record Whole (m : ℕ) (e : ℤ) : Type 0 where
  pub t : ℕ
  pub is : m * up e * 2 ^ 1074 ≡ m * 2 ^ t * down e

pub whole : (m : ℕ) (e : ℤ) → down e ≤ 2 ^ 1074 → Whole m e
whole m (pos k) l = record { t = k + 1074; is = mul_assoc m (2 ^ k) (2 ^ 1074) ∙ ap (λ (x : ℕ). m * x) (sym (pow-add 2 k 1074)) ∙ sym (mul-one (m * 2 ^ (k + 1074))) }
whole m (negsuc k) l =
    let t = 1074 - suc k in
    let small : suc k ≤ 1074 = le_of_suc-le-suc (lt_of_not-le (λ (g : 1075 ≤ suc k). not-le_of_lt (pow-lt {i = 1074} {j = suc k} g) l)) in
    let e : t + suc k ≡ 1074 = omega arith in
    record { t = t; is = ap (λ (x : ℕ). x * 2 ^ 1074) (mul-one m) ∙ ap (λ (x : ℕ). m * x) (ap (λ (x : ℕ). 2 ^ x) (sym e) ∙ pow-add 2 t (suc k)) ∙ sym (mul_assoc m (2 ^ t) (2 ^ suc k)) }

shape_of : (m : ℕ) (e : ℤ) → m < 2 ^ 53 → down e ≤ 2 ^ 1074 → Shape (m * up e * 2 ^ 1074 / down e)
shape_of m e h l = let w = whole m e l in record { m = m; t = w.t; few = h; is = ap (λ (x : ℕ). x / down e) w.is ∙ mul-div_cancel (m * 2 ^ w.t) (down_pos e) }

pub shape : (y : Float) → T (fits binary64 y) → T (plus y) → Shape (units y)
unfolding fits
shape nan f p = absurd p
shape (inf s) f p = absurd p
shape (fin s zero e) f p = record { m = 0; t = 0; few = omega arith; is = ap (λ (x : ℕ). x * 2 ^ 1074 / down e) (zero-mul (up e)) ∙ zero-div (down e) }
shape (fin s (suc m) e) f p =
    let A = eqb (suc m % 2) 1 in
    let B = ltb (suc m) (2 ^ 53) in
    let C = leb (down e) (2 ^ 1074) in
    let D = ltb (suc m * up e) (2 ^ 1024 * down e) in
    let abc = and_l (A && B && C) D f in
    shape_of (suc m) e (ltb→lt (suc m) (2 ^ 53) (and_r A B (and_l (A && B) C abc))) (leb→le (down e) (2 ^ 1074) (and_r (A && B) C abc))

pub on_grid : (y : Float) (q j : ℕ) → T (fits binary64 y) → T (plus y) → 2 ^ 52 ≤ q → Grid q (2 ^ j) (units y)
on_grid y q j f p g = grid (units y) q j (shape y f p) g
