-- A step's result beside what it stands for: a power of x, or a part of a polynomial in x over D. x is a - b units; the polynomial has the degree m.
use Rattle.std.specs.Prelude.{◌≡◌, Bool, false, ◌&&◌, List, [], ◌∷◌, ◌++◌, ℕ, zero, suc, ◌+◌, ◌-◌, ◌*◌, ◌^◌, ◌≤◌, ◌<◌, T, leb, ltb, length, Float}
use Rattle.std.proofs.Common.{ap, ◌∙◌, le_of_eq, mul-one, mul-pos, arith, leb→le, ltb→lt, pow-add}
use Rattle.std.proofs.Math.Nat.{pow-succ', pow-zero}
use Rattle.std.specs.Float.{binary64}
use Rattle.std.specs.Float.Ieee.{add, sub, mul}
use Rattle.std.specs.Float.Ieee.Fits.{and_l, and_r}
use Rattle.std.specs.Float.Ieee.Exact.{HasValue}
use Rattle.root.specs.Root.{units}
use Rattle.rounding.specs.Units.{U, U_pos, pos_side, neg_side}
use Rattle.rounding.specs.Beside.{N, W, U-is, Beside, four, restated, product_fits, times, sum_fits, plus, minus, constant as any_constant, itself}
use Rattle.series.specs.Polynomial.{power, part, power_suc_p, power_suc_n, power_zero_p, power_zero_n, power_add, part_cons_p, part_cons_n, part_nil_p, part_nil_n, joins, shifts}

-- w stands for x^k
pub record Pow (a b : ℕ) (w : Float) (k M E : ℕ) : Type 0 where
  pub is : Beside w (power a b k).p (power a b k).n (U ^ k) M E

-- y stands for (c0 x^j + c1 x^(j + 1) + ..) / D
pub record Part (m D a b : ℕ) (y : Float) (j : ℕ) (cs : List ℕ) (M E : ℕ) : Type 0 where
  pub some : 0 < D
  pub is : Beside y (part U m a b j cs).p (part U m a b j cs).n (D * U ^ m) M E

powers_pos : (k : ℕ) → 0 < U ^ k
powers_pos zero = rw (pow-zero U) (omega arith)
powers_pos (suc k) = rw (pow-succ' U k) (mul-pos U_pos (powers_pos k))

one_power : (n : ℕ) → n ^ 1 ≡ n
one_power n = pow-succ' n 0 ∙ ap (λ (x : ℕ). n * x) (pow-zero n) ∙ mul-one n

pub raise : {a b : ℕ} {w y : Float} {k j M E M' F : ℕ} (i G L : ℕ) → Pow a b w k M E → Pow a b y j M' F → T (product_fits i G L M E M' F) → Pow a b (mul binary64 w y) (k + j) L G
raise {a} {b} {w} {y} {k} {j} i G L p q fits =
    let s = power_add a b k j in
    record { is = rw (s.p, s.n, pow-add U k j) (times i G L p.is q.is fits) }

pub shift : {m D a b : ℕ} {w y : Float} {k j M E M' F : ℕ} {cs : List ℕ} (i G L : ℕ) → Pow a b w k M E → Part m D a b y j cs M' F
    → T (leb (length cs + (k + j)) (suc m) && product_fits i G L M E M' F) → Part m D a b (mul binary64 w y) (k + j) cs L G
shift {m} {D} {a} {b} {w} {y} {k} {j} {M} {E} {M'} {F} {cs} i G L p q fits =
    let few = leb→le (length cs + (k + j)) (suc m) (and_l (leb (length cs + (k + j)) (suc m)) (product_fits i G L M E M' F) fits) in
    let s = shifts U m a b k j cs few in
    let t = times i G L p.is q.is (and_r (leb (length cs + (k + j)) (suc m)) (product_fits i G L M E M' F) fits) in
    record { some = q.some; is = restated _ _ _ t (mul-pos (powers_pos k) (mul-pos q.some (powers_pos m))) (same _ _ _ _ (U ^ k) (D * U ^ m) s.p s.n) }
  where
    same : (A B A' B' t K : ℕ) → A' * t ≡ A → B' * t ≡ B → A * K + B' * (t * K) ≡ A' * (t * K) + B * K
    same A B A' B' t K e f = rw (← e, ← f) (omega arith)

pub join : {m D a b : ℕ} {x y : Float} {j M E M' F : ℕ} {cs ds : List ℕ} (i G L : ℕ) → Part m D a b x j cs M E → Part m D a b y (length cs + j) ds M' F → T (sum_fits i G L M E M' F)
    → Part m D a b (add binary64 x y) j (cs ++ ds) L G
join {m} {D} {a} {b} {x} {y} {j} {M} {E} {M'} {F} {cs} {ds} i G L p q fits =
    let s = joins U m a b j cs ds in
    record { some = p.some; is = rw (s.p, s.n) (plus i G L p.is q.is fits) }

-- what is left of a part without its beginning
pub without : {m D a b : ℕ} {x y : Float} {j M E M' F : ℕ} (ds es : List ℕ) (i G L : ℕ) → Part m D a b x j (ds ++ es) M E → Part m D a b y j ds M' F → T (sum_fits i G L M E M' F)
    → Part m D a b (sub binary64 x y) (length ds + j) es L G
without {m} {D} {a} {b} {x} {y} {j} {M} {E} {M'} {F} ds es i G L p q fits =
    let s = joins U m a b j ds es in
    let t = minus i G L p.is q.is fits in
    record { some = p.some; is = restated _ _ _ t (mul-pos p.some (powers_pos m)) (same _ _ _ _ _ _ (D * U ^ m) s.p s.n) }
  where
    same : (A B A' B' C C' K : ℕ) → A ≡ A' + C → B ≡ B' + C' → (A + B') * K + C' * K ≡ C * K + (B + A') * K
    same A B A' B' C C' K e f = rw (e, f) (omega arith)

-- a constant for c / D
abbrev pub constant_fits : (v c D M E : ℕ) → Bool
constant_fits v c D M E = (ltb 0 D && leb v (M * W)) && (leb (v * D) (c * U + E * W * D) && leb (c * U) (v * D + E * W * D))

pub constant : {m : ℕ} (a b : ℕ) (y : Float) (c D M E : ℕ) → HasValue y false (units y) U → T (constant_fits (units y) c D M E) → Part m D a b y 0 (c ∷ []) M E
constant {m} a b y c D M E h fits = go (units y) h fits
  where
    same : (c D t : ℕ) → c * (D * t) + (c * (0 * t) + 0) * D ≡ (c * (1 * t) + 0) * D + 0 * (D * t)
    same c D t = omega arith

    all : (m : ℕ) → m - 0 ≡ m
    all m = omega arith

    go : (v : ℕ) → HasValue y false v U → T (constant_fits v c D M E) → Part m D a b y 0 (c ∷ []) M E
    go v h fits =
        let f = four (ltb 0 D) (leb v (M * W)) (leb (v * D) (c * U + E * W * D)) (leb (c * U) (v * D + E * W * D)) fits in
        let some = ltb→lt 0 D f.first in
        record {
          some = some;
          is = rw (part_cons_p U m a b 0 c [], part_cons_n U m a b 0 c [], part_nil_p U m a b 1, part_nil_n U m a b 1, power_zero_p a b, power_zero_n a b, all m)
              (restated _ _ _ (any_constant v c D M E h (leb→le v (M * W) f.second) (leb→le (v * D) (c * U + E * W * D) f.third) (leb→le (c * U) (v * D + E * W * D) f.fourth)) some (same c D (U ^ m)));
        }

-- a part that begins with 0 begins later
pub later : {m D a b : ℕ} {y : Float} {j M E : ℕ} {cs : List ℕ} → Part m D a b y j (0 ∷ cs) M E → Part m D a b y (suc j) cs M E
later {m} {D} {a} {b} {y} {j} {M} {E} {cs} q =
    record { some = q.some; is = restated _ _ _ q.is (mul-pos q.some (powers_pos m)) (rw (part_cons_p U m a b j 0 cs, part_cons_n U m a b j 0 cs) (same _ _ _ _ (D * U ^ m))) }
  where
    same : (s t A B K : ℕ) → (0 * s + A) * K + B * K ≡ A * K + (0 * t + B) * K
    same s t A B K = omega arith

-- 1 as x^0
pub unit : (a b : ℕ) (y : Float) → HasValue y false U U → Pow a b y 0 N 0
unit a b y h =
    record {
      is = rw (power_zero_p a b, power_zero_n a b, pow-zero U) (restated _ _ _ (itself y false U N h (le_of_eq U-is)) U_pos (same U));
    }
  where
    same : (u : ℕ) → u * 1 + 0 * u ≡ 1 * u + 0 * 1
    same u = omega arith

-- x itself, with no error
pub argument : (x : Float) (s : Bool) (v M : ℕ) → HasValue x s v U → v ≤ M * W → Pow (pos_side s v) (neg_side s v) x 1 M 0
argument x s v M h l =
    let a = pos_side s v in
    let b = neg_side s v in
    record { is = rw (power_suc_p a b 0, power_suc_n a b 0, power_zero_p a b, power_zero_n a b, one_power U) (restated _ _ _ (itself x s v M h l) U_pos (same a b U)) }
  where
    same : (a b u : ℕ) → a * u + (1 * b + 0 * a) * u ≡ (1 * a + 0 * b) * u + b * u
    same a b u = omega arith

pub as_part : {m : ℕ} (x : Float) (s : Bool) (v D M : ℕ) → 0 < D → HasValue x s v U → v ≤ M * W → Part (suc m) D (pos_side s v) (neg_side s v) x 1 (D ∷ []) M 0
as_part {m} x s v D M some h l =
    let a = pos_side s v in
    let b = neg_side s v in
    record {
      some = some;
      is = rw (part_cons_p U (suc m) a b 1 D [], part_cons_n U (suc m) a b 1 D [], part_nil_p U (suc m) a b 2, part_nil_n U (suc m) a b 2, power_suc_p a b 0, power_suc_n a b 0, power_zero_p a b, power_zero_n a b, one_less m, pow-succ' U m)
          (restated _ _ _ (itself x s v M h l) U_pos (same a b D U (U ^ m)));
    }
  where
    one_less : (m : ℕ) → suc m - 1 ≡ m
    one_less m = omega arith

    same : (a b D u t : ℕ) → a * (D * (u * t)) + (D * ((1 * b + 0 * a) * t) + 0) * u ≡ (D * ((1 * a + 0 * b) * t) + 0) * u + b * (D * (u * t))
    same a b D u t = omega arith
