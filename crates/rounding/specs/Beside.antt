-- An f64 beside the fraction that it stands for, (A - B) / D: how large it is, how far off, and what each operation adds. Both are counted in 2^-64, W units.
use Rattle.std.specs.Prelude.{◌≡◌, refl, Bool, true, false, not, ◌&&◌, ℕ, ◌+◌, ◌-◌, ◌*◌, ◌^◌, ◌≤◌, ◌<◌, T, ltb, leb, Float}
use Rattle.std.proofs.Common.{sym, ap, ◌∙◌, lt_of_le_of_lt, mul_assoc, mul_comm, mul-le-mul, mul-le-mul_left, mul-le-mul_right, mul-pos, mul-lt-mul_of_pos_right, le_of_mul-le-mul_right, arith, ltb→lt, leb→le, pow-add, pow_pos}
use Rattle.std.specs.Float.{binary64}
use Rattle.std.specs.Float.Ieee.{unlike, neg, add, sub, mul}
use Rattle.std.specs.Float.Ieee.Exact.{HasValue}
use Rattle.rounding.specs.Gap.{Gap, gap_as, gap_trans, gap_mul, gap_both, gap_cancel}
use Rattle.rounding.specs.Units.{U, U_pos, pos_side, neg_side, sides, turned}
use Rattle.rounding.specs.Rounded.{product, added}

-- 2^64
abbrev pub N : ℕ
N = 0x1_0000_0000_0000_0000

unfoldable pub W : ℕ
W = 2 ^ 1010

pub W-pos : 0 < W
unfolding W
W-pos = pow_pos 1010

pub U-is : U ≡ N * W
unfolding U W
U-is = refl

-- y is at most M and lies within E of (A - B) / D, M and E in 2^-64
pub record Beside (y : Float) (A B D M E : ℕ) : Type 0 where
  pub z : Bool
  pub g : ℕ
  pub value : HasValue y z g U
  pub small : g ≤ M * W
  pub near : Gap (pos_side z g * D) (neg_side z g * D) (A * U) (B * U) (E * W * D)

-- four tests that passed
pub record Four (a b c d : Bool) : Type 0 where
  pub first : T a
  pub second : T b
  pub third : T c
  pub fourth : T d

pub four : (a b c d : Bool) → T ((a && b) && (c && d)) → Four a b c d
four true true true true h = record { first = tt; second = tt; third = tt; fourth = tt }
four true true true false h = absurd h
four true true false d h = absurd h
four true false c d h = absurd h
four false b c d h = absurd h

-- half a unit in the last place below 2^(i - 10), in 2^-64: 2^i
half_unit : (i : ℕ) → 2 ^ (1011 + i) ≡ 2 * (2 ^ i * W)
unfolding W
half_unit i = pow-add 2 1011 i ∙ mul_comm (2 ^ 1011) (2 ^ i) ∙ again (2 ^ i)
  where
    again : (n : ℕ) → n * (2 * 2 ^ 1010) ≡ 2 * (n * 2 ^ 1010)
    again n = sym (mul_assoc n 2 (2 ^ 1010)) ∙ ap (λ (x : ℕ). x * 2 ^ 1010) (mul_comm n 2) ∙ mul_assoc 2 n (2 ^ 1010)

room : (i : ℕ) → 2 ^ (53 + (1011 + i)) ≡ 2 ^ (54 + i) * W
unfolding W
room i = ap (λ (x : ℕ). 2 ^ x) (e i) ∙ pow-add 2 (54 + i) 1010
  where
    e : (i : ℕ) → 53 + (1011 + i) ≡ 54 + i + 1010
    e i = omega arith

-- the same fraction written otherwise
pub restated : {y : Float} {A B D M E : ℕ} (A' B' D' : ℕ) → Beside y A B D M E → 0 < D → A * D' + B' * D ≡ A' * D + B * D' → Beside y A' B' D' M E
restated {y} {A} {B} {D} {M} {E} A' B' D' b some e =
    let same = ap (λ (n : ℕ). n * U) e in
    let g = gap_mul _ _ _ _ _ D' 0 b.near in
    record { z = b.z; g = b.g; value = b.value; small = b.small; near = gap_cancel _ _ _ _ _ D some (record { above = omega (arith, g.above, same); below = omega (arith, g.below, same) }) }

-- ---- a product
-- the rounding of a product, by signs
signed : (s t : Bool) (g v w u h : ℕ) → g * u ≤ v * w + u * h → v * w ≤ g * u + u * h
    → Gap (pos_side (unlike s t) g * u) (neg_side (unlike s t) g * u) (pos_side s v * pos_side t w + neg_side s v * neg_side t w) (pos_side s v * neg_side t w + neg_side s v * pos_side t w) (u * h)
signed true true g v w u h x y = record { above = omega arith; below = omega arith }
signed true false g v w u h x y = record { above = omega arith; below = omega arith }
signed false true g v w u h x y = record { above = omega arith; below = omega arith }
signed false false g v w u h x y = record { above = omega arith; below = omega arith }

product_gap : (g g' a b c d A B A' B' D D' u h E F M M' G : ℕ) → 0 < u
    → Gap (g * u) (g' * u) (a * c + b * d) (a * d + b * c) (u * h)
    → Gap (a * D) (b * D) (A * u) (B * u) (E * D)
    → Gap (c * D') (d * D') (A' * u) (B' * u) (F * D')
    → a + b ≤ M → c + d ≤ M' → u * h + E * M' + M * F + E * F ≤ G * u
    → Gap (g * (D * D')) (g' * (D * D')) ((A * A' + B * B') * u) ((A * B' + B * A') * u) (G * (D * D'))
product_gap g g' a b c d A B A' B' D D' u h E F M M' G some R S Q x y z =
    let r = gap_as _ _ _ _ _ (g * (D * D') * u) (g' * (D * D') * u) ((a * c + b * d) * (D * D')) ((a * d + b * c) * (D * D')) (u * h * (D * D')) (gap_mul _ _ _ _ _ (D * D') 0 R) (one g g' u (D * D')) (other g g' u (D * D')) (omega arith) (omega arith) (omega arith) in
    let s = gap_as _ _ _ _ _ ((a * c + b * d) * (D * D')) ((a * d + b * c) * (D * D')) ((A * A' + B * B') * u * u) ((A * B' + B * A') * u * u) ((E * M' + M * F + E * F) * (D * D')) (gap_both _ _ _ _ _ _ _ _ _ _ S Q) (cross a b c d D D') (cross a b d c D D') (across A B A' B' u) (across A B B' A' u) (grown E F a b c d M M' D D' x y) in
    gap_cancel _ _ _ _ _ u some (gap_trans _ _ _ _ _ _ _ _ _ r s (all u h E M' M F G (D * D') z))
  where
    one : (g g' u k : ℕ) → g * u * k + g' * u * 0 ≡ g * k * u
    one g g' u k = omega arith

    other : (g g' u k : ℕ) → g * u * 0 + g' * u * k ≡ g' * k * u
    other g g' u k = omega arith

    cross : (a b c d D C : ℕ) → a * D * (c * C) + b * D * (d * C) ≡ (a * c + b * d) * (D * C)
    cross a b c d D C = omega arith

    across : (r m A B u : ℕ) → r * u * (A * u) + m * u * (B * u) ≡ (r * A + m * B) * u * u
    across r m A B u = omega arith

    grown : (E F a b c d M M' D C : ℕ) → a + b ≤ M → c + d ≤ M' → E * D * (c * C + d * C) + (a * D + b * D) * (F * C) + E * D * (F * C) ≤ (E * M' + M * F + E * F) * (D * C)
    grown E F a b c d M M' D C x y =
        let s = mul-le-mul_left (E * (D * C)) y in
        let t = mul-le-mul_left (F * (D * C)) x in
        omega (arith, s, t)

    all : (u h E M' M F G k : ℕ) → u * h + E * M' + M * F + E * F ≤ G * u → u * h * k + (E * M' + M * F + E * F) * k ≤ G * k * u
    all u h E M' M F G k l = let t = mul-le-mul_right k l in omega (arith, t)

fine : (v w M M' B u W : ℕ) → v ≤ M * W → w ≤ M' * W → M * M' < B * N → 0 < W → u ≡ N * W → v * w < B * W * u
fine v w M M' B u W x y z p e =
    let a = mul-le-mul x y in
    let b = mul-lt-mul_of_pos_right z (mul-pos p p) in
    rw e (omega (arith, a, b))

scaled : (u W h E F M M' G : ℕ) → u ≡ N * W → N * h + E * M' + M * F + E * F ≤ G * N → u * (h * W) + E * W * (M' * W) + M * W * (F * W) + E * W * (F * W) ≤ G * W * u
scaled u W h E F M M' G e l = let a = mul-le-mul_right (W * W) l in rw e (omega (arith, a))

sized : (u W h g v w M M' L : ℕ) → 0 < u → u ≡ N * W → v ≤ M * W → w ≤ M' * W → g * u ≤ v * w + u * (h * W) → M * M' + N * h ≤ L * N → g ≤ L * W
sized u W h g v w M M' L p e a b c l =
    let x = mul-le-mul a b in
    let y = mul-le-mul_right (W * W) l in
    let m : g * u ≤ L * W * u = rw e (omega (arith, x, y, (rw e at c))) in
    le_of_mul-le-mul_right m p

-- 2^i is the step's own error, G what it comes to with those of the factors, L the result's size
times_by : {x y : Float} {A B D M E A' B' D' M' F : ℕ} (i G L : ℕ) → Beside x A B D M E → Beside y A' B' D' M' F
    → M * M' < 2 ^ (54 + i) * N → i ≤ 900 → N * 2 ^ i + E * M' + M * F + E * F ≤ G * N → M * M' + N * 2 ^ i ≤ L * N
    → Beside (mul binary64 x y) (A * A' + B * B') (A * B' + B * A') (D * D') L G
times_by {x} {y} {A} {B} {D} {M} {E} {A'} {B'} {D'} {M'} {F} i G L p q below small error size =
    let l : p.g * q.g < 2 ^ (53 + (1011 + i)) * U = rw (room i) (fine p.g q.g M M' (2 ^ (54 + i)) U W p.small q.small below W-pos U-is) in
    let r = product x y p.z q.z p.g q.g (1011 + i) p.value q.value l (omega arith) in
    let h = 2 ^ i * W in
    let up : r.g * U * 2 ≤ p.g * q.g * 2 + U * (2 * h) = rw (half_unit i) at r.half.above in
    let down : p.g * q.g * 2 ≤ r.g * U * 2 + U * (2 * h) = rw (half_unit i) at r.half.below in
    let R = signed p.z q.z r.g p.g q.g U h (omega (arith, up)) (omega (arith, down)) in
    record {
      z = unlike p.z q.z;
      g = r.g;
      value = r.value;
      small = sized U W (2 ^ i) r.g p.g q.g M M' L U_pos U-is p.small q.small (omega (arith, up)) size;
      near = product_gap _ _ _ _ _ _ A B A' B' D D' U h (E * W) (F * W) (M * W) (M' * W) (G * W) U_pos R p.near q.near (rw (sides p.z p.g) p.small) (rw (sides q.z q.g) q.small) (scaled U W (2 ^ i) E F M M' G U-is error);
    }

-- the same as one test, to be computed
abbrev pub product_fits : (i G L M E M' F : ℕ) → Bool
product_fits i G L M E M' F = (ltb (M * M') (2 ^ (54 + i) * N) && leb i 900) && (leb (N * 2 ^ i + E * M' + M * F + E * F) (G * N) && leb (M * M' + N * 2 ^ i) (L * N))

pub times : {x y : Float} {A B D M E A' B' D' M' F : ℕ} (i G L : ℕ) → Beside x A B D M E → Beside y A' B' D' M' F → T (product_fits i G L M E M' F)
    → Beside (mul binary64 x y) (A * A' + B * B') (A * B' + B * A') (D * D') L G
times {x} {y} {A} {B} {D} {M} {E} {A'} {B'} {D'} {M'} {F} i G L p q fits =
    let f = four (ltb (M * M') (2 ^ (54 + i) * N)) (leb i 900) (leb (N * 2 ^ i + E * M' + M * F + E * F) (G * N)) (leb (M * M' + N * 2 ^ i) (L * N)) fits in
    times_by i G L p q (ltb→lt (M * M') (2 ^ (54 + i) * N) f.first) (leb→le i 900 f.second) (leb→le (N * 2 ^ i + E * M' + M * F + E * F) (G * N) f.third) (leb→le (M * M' + N * 2 ^ i) (L * N) f.fourth)

-- ---- a sum
sum_size : (z s t : Bool) (g v w h M M' L W : ℕ) → Gap (pos_side z g) (neg_side z g) (pos_side s v + pos_side t w) (neg_side s v + neg_side t w) (h * W) → v ≤ M * W → w ≤ M' * W → M + M' + h ≤ L → g ≤ L * W
sum_size z s t g v w h M M' L W n a b l = go z n
  where
    go : (z : Bool) → Gap (pos_side z g) (neg_side z g) (pos_side s v + pos_side t w) (neg_side s v + neg_side t w) (h * W) → g ≤ L * W
    go true n = omega (arith, n.below, mul-le-mul_right W l, sides s v, sides t w, a, b)
    go false n = omega (arith, n.above, mul-le-mul_right W l, sides s v, sides t w, a, b)

sum_gap : (g g' c d c' d' A B A' B' D u h E F G : ℕ) → Gap g g' (c + c') (d + d') h → Gap (c * D) (d * D) (A * u) (B * u) (E * D) → Gap (c' * D) (d' * D) (A' * u) (B' * u) (F * D) → h + E + F ≤ G
    → Gap (g * D) (g' * D) ((A + A') * u) ((B + B') * u) (G * D)
sum_gap g g' c d c' d' A B A' B' D u h E F G R x y l =
    let r = gap_mul _ _ _ _ _ D 0 R in
    let e = mul-le-mul_right D l in
    record { above = omega (arith, r.above, x.above, y.above, e); below = omega (arith, r.below, x.below, y.below, e) }

plus_by : {x y : Float} {A B D M E A' B' M' F : ℕ} (i G L : ℕ) → Beside x A B D M E → Beside y A' B' D M' F
    → M + M' < 2 ^ (54 + i) → i ≤ 900 → 2 ^ i + E + F ≤ G → M + M' + 2 ^ i ≤ L
    → Beside (add binary64 x y) (A + A') (B + B') D L G
plus_by {x} {y} {A} {B} {D} {M} {E} {A'} {B'} {M'} {F} i G L p q below small error size =
    let l : p.g + q.g < 2 ^ (53 + (1011 + i)) = rw (room i) (lt_of_le_of_lt (all p.g q.g M M' W p.small q.small) (mul-lt-mul_of_pos_right below W-pos)) in
    let t = added x y p.z q.z p.g q.g (1011 + i) p.value q.value l (omega arith) in
    let n = rw (half_unit i) at t.near in
    let near : Gap (pos_side t.z t.g) (neg_side t.z t.g) (pos_side p.z p.g + pos_side q.z q.g) (neg_side p.z p.g + neg_side q.z q.g) (2 ^ i * W) = record { above = omega (arith, n.above); below = omega (arith, n.below) } in
    record {
      z = t.z;
      g = t.g;
      value = t.value;
      small = sum_size t.z p.z q.z t.g p.g q.g (2 ^ i) M M' L W near p.small q.small size;
      near = sum_gap _ _ _ _ _ _ _ _ _ _ D U (2 ^ i * W) (E * W) (F * W) (G * W) near p.near q.near (spread W (2 ^ i) E F G error);
    }
  where
    all : (v w M M' W : ℕ) → v ≤ M * W → w ≤ M' * W → v + w ≤ (M + M') * W
    all v w M M' W x y = omega arith

    spread : (W h E F G : ℕ) → h + E + F ≤ G → h * W + E * W + F * W ≤ G * W
    spread W h E F G l = let a = mul-le-mul_right W l in omega (arith, a)

abbrev pub sum_fits : (i G L M E M' F : ℕ) → Bool
sum_fits i G L M E M' F = (ltb (M + M') (2 ^ (54 + i)) && leb i 900) && (leb (2 ^ i + E + F) G && leb (M + M' + 2 ^ i) L)

pub plus : {x y : Float} {A B D M E A' B' M' F : ℕ} (i G L : ℕ) → Beside x A B D M E → Beside y A' B' D M' F → T (sum_fits i G L M E M' F)
    → Beside (add binary64 x y) (A + A') (B + B') D L G
plus {x} {y} {A} {B} {D} {M} {E} {A'} {B'} {M'} {F} i G L p q fits =
    let f = four (ltb (M + M') (2 ^ (54 + i))) (leb i 900) (leb (2 ^ i + E + F) G) (leb (M + M' + 2 ^ i) L) fits in
    plus_by i G L p q (ltb→lt (M + M') (2 ^ (54 + i)) f.first) (leb→le i 900 f.second) (leb→le (2 ^ i + E + F) G f.third) (leb→le (M + M' + 2 ^ i) L f.fourth)

-- ---- a difference
turned_gap : (s : Bool) (v D P Q e : ℕ) → Gap (pos_side s v * D) (neg_side s v * D) P Q e → Gap (pos_side (not s) v * D) (neg_side (not s) v * D) Q P e
turned_gap true v D P Q e g = record { above = omega (arith, g.below); below = omega (arith, g.above) }
turned_gap false v D P Q e g = record { above = omega (arith, g.below); below = omega (arith, g.above) }

pub opposite : {y : Float} {A B D M E : ℕ} → Beside y A B D M E → Beside (neg y) B A D M E
opposite {y} b = record { z = not b.z; g = b.g; value = turned y b.z b.g b.value; small = b.small; near = turned_gap b.z b.g _ _ _ _ b.near }

pub minus : {x y : Float} {A B D M E A' B' M' F : ℕ} (i G L : ℕ) → Beside x A B D M E → Beside y A' B' D M' F → T (sum_fits i G L M E M' F)
    → Beside (sub binary64 x y) (A + B') (B + A') D L G
unfolding sub
minus i G L p q fits = plus i G L p (opposite q) fits

-- ---- where no step was made: a positive constant v / U for c / D, and a number itself
pub constant : {y : Float} (v c D M E : ℕ) → HasValue y false v U → v ≤ M * W → v * D ≤ c * U + E * W * D → c * U ≤ v * D + E * W * D → Beside y c 0 D M E
constant v c D M E h small above below = record { z = false; g = v; value = h; small = small; near = record { above = omega (arith, above); below = omega (arith, below) } }

pub itself : (x : Float) (s : Bool) (v M : ℕ) → HasValue x s v U → v ≤ M * W → Beside x (pos_side s v) (neg_side s v) U M 0
itself x s v M h small = record { z = s; g = v; value = h; small = small; near = record { above = omega arith; below = omega arith } }
