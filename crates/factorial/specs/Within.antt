-- `Within b x`: if the bound b is finite, x is at most b in magnitude, and so finite too. The bound of a result is the operation on its parts' bounds, a sum also for a difference:
-- however long a computation is, one closed test says at its end that no step of it overflows.
use Rattle.std.specs.Prelude.{◌≡◌, Bool, ℕ, zero, suc, ◌+◌, ◌-◌, ◌*◌, ◌^◌, ◌≤◌, ◌<◌, ℤ, pos, ltb, eqb, Float}
use Rattle.std.proofs.Math.Path.{refl}
use Rattle.std.proofs.Common.{◌∙◌, mul-pos, mul-le-mul_right, arith, ne_eqb}
use Rattle.std.proofs.Math.Bool.{true, false}
use Rattle.std.proofs.lemmas.Bool.{false≢true}
use borrow.Table.Steps.{cases}
use Rattle.std.specs.Float.{nan, inf, fin, Format, binary64}
use Rattle.std.specs.Float.Ieee.{prec, emax, low, up, down, unlike, odd, units, round, neg, sum, add, sub, mul, div, le, is_nan, of_bits, of_int}
use Rattle.std.specs.Float.Ieee.Bits.{is_true}
use Rattle.std.specs.Float.Ieee.Exact.{HasValue}
use Rattle.std.specs.Float.Ieee.Fits.{down_pos, round_is}
use Rattle.std.specs.Float.Ieee.Order.{round_mono}
use Rattle.num.specs.F64.{◌⊕◌, ◌⊖◌, ◌⊗◌, ◌⊘◌, whole, zero·, one·}
use Rattle.num.specs.Helpers.{is_finite_of}
use Rattle.order.specs.Values.{tests}
use Rattle.order.specs.Numbers.{one_finite, finite_number}
use Rattle.order.specs.Places.{le_is, le_values}
use Rattle.order.specs.Order.{le_self, le_then_le}
use Rattle.order.specs.Sums.{add_swap, add_left, add_right}
use Rattle.order.specs.Products.{mul_swap, mul_left}

-- the sign dropped
abbrev pub magnitude : Float → Float
magnitude nan = nan
magnitude (inf s) = inf false
magnitude (fin s m e) = fin false m e

pub record Within (b x : Float) : Type 0 where
  pub bounds : is_finite_of b ≡ true → le (magnitude x) b ≡ true

finite_below : (x b : Float) → is_finite_of b ≡ true → le (magnitude x) b ≡ true → is_finite_of x ≡ true
unfolding is_finite_of le
finite_below nan b i h = cc
finite_below (inf s) nan i h = cc
finite_below (inf s) (inf t) i h = cc
finite_below (inf s) (fin t n d) i h = cc
finite_below (fin s m e) b i h = refl

pub within_finite : {b x : Float} → Within b x → is_finite_of b ≡ true → is_finite_of x ≡ true
within_finite {b} {x} h i = finite_below x b i (h.bounds i)

-- ---- magnitudes
magnitude_finite : (x : Float) → is_finite_of (magnitude x) ≡ is_finite_of x
unfolding is_finite_of
magnitude_finite nan = refl
magnitude_finite (inf s) = refl
magnitude_finite (fin s m e) = refl

magnitude_neg : (x : Float) → magnitude (neg x) ≡ magnitude x
unfolding neg
magnitude_neg nan = refl
magnitude_neg (inf s) = refl
magnitude_neg (fin s m e) = refl

magnitude_not_below : (x : Float) → is_finite_of x ≡ true → le zero· (magnitude x) ≡ true
unfolding is_finite_of is_nan of_bits
magnitude_not_below nan i = cc
magnitude_not_below (inf s) i = cc
magnitude_not_below (fin s m e) i = rw (le_is (fin false 0 (pos 0)) (fin false m e) refl refl) (omega tests)

magnitude_odd : (s : Bool) (d q k l : ℕ) → magnitude (odd d s q k l) ≡ odd d false q k l
unfolding odd
magnitude_odd s d zero k l = refl
magnitude_odd s d (suc q) k l = refl

magnitude_units : (f : Format) (s : Bool) (q k : ℕ) → magnitude (units f s q k) ≡ units f false q k
unfolding units
magnitude_units f s q k =
    cases (ltb (q * 2 ^ k) (2 ^ (low f + suc (emax f)))) (λ t. rw t (magnitude_odd s (suc (prec f)) q k (low f))) (λ t. rw t)

magnitude_round : (f : Format) (s : Bool) (a c : ℕ) → magnitude (round f s a c) ≡ round f false a c
magnitude_round f s a c = rw (round_is f s a c, round_is f false a c) (magnitude_units f s _ _)

pub magnitude_plus : (x : Float) (a c : ℕ) → HasValue x false a c → magnitude x ≡ x
magnitude_plus nan a c h = absurd h
magnitude_plus (inf s) a c h = absurd h
magnitude_plus (fin s m e) a c h = rw h.0

-- ---- numbers by themselves
pub itself : (x : Float) → Within (magnitude x) x
itself x = record { bounds = λ i. le_self (magnitude x) (finite_number (magnitude x) i) }

plus_order : (a c b d : ℕ) → 0 < c → 0 < d → a * d ≤ b * c → le (round binary64 false a c) (round binary64 false b d) ≡ true
plus_order a c b d C D h = is_true _ (round_mono binary64 a c b d C D h)

pub whole_order : (m n : ℕ) → m ≤ n → le (whole m) (whole n) ≡ true
unfolding of_int
whole_order m n h = plus_order m 1 n 1 (omega arith) (omega arith) (omega arith)

magnitude_whole : (n : ℕ) → magnitude (whole n) ≡ whole n
unfolding of_int
magnitude_whole n = magnitude_round binary64 false n 1

pub whole_within : (m n : ℕ) → m ≤ n → Within (whole n) (whole m)
whole_within m n h = record { bounds = λ i. rw (magnitude_whole m) (whole_order m n h) }

-- ---- sums and differences
sum_at_most : (s t : Bool) (a b c : ℕ) → 0 < c → le (magnitude (sum binary64 s a t b c)) (round binary64 false (a + b) c) ≡ true
unfolding sum
sum_at_most true true a b c C = rw (magnitude_round binary64 true (a + b) c) (plus_order (a + b) c (a + b) c C C (omega arith))
sum_at_most false false a b c C = rw (magnitude_round binary64 false (a + b) c) (plus_order (a + b) c (a + b) c C C (omega arith))
sum_at_most false true a b c C =
    cases (ltb a b) (λ h. rw (h, magnitude_round binary64 true (b - a) c) (plus_order (b - a) c (a + b) c C C (mul-le-mul_right c (omega arith))))
    (λ h. rw (h, magnitude_round binary64 false (a - b) c) (plus_order (a - b) c (a + b) c C C (mul-le-mul_right c (omega arith))))
sum_at_most true false a b c C =
    cases (ltb a b) (λ h. rw (h, magnitude_round binary64 false (b - a) c) (plus_order (b - a) c (a + b) c C C (mul-le-mul_right c (omega arith))))
    (λ h. rw (h, magnitude_round binary64 (ltb b a) (a - b) c) (plus_order (a - b) c (a + b) c C C (mul-le-mul_right c (omega arith))))

add_at_most : (x y : Float) → is_finite_of x ≡ true → is_finite_of y ≡ true → le (magnitude (x ⊕ y)) (magnitude x ⊕ magnitude y) ≡ true
unfolding is_finite_of add sum
add_at_most nan y i j = absurd (false≢true i)
add_at_most (inf s) y i j = absurd (false≢true i)
add_at_most (fin s m e) nan i j = absurd (false≢true j)
add_at_most (fin s m e) (inf t) i j = absurd (false≢true j)
add_at_most (fin s m e) (fin t n d) i j = sum_at_most s t (m * up e * down d) (n * up d * down e) (down e * down d) (mul-pos (down_pos e) (down_pos d))

add_finite_left : (x y : Float) → is_finite_of (x ⊕ y) ≡ true → is_finite_of x ≡ true
unfolding is_finite_of add
add_finite_left nan y i = i
add_finite_left (inf s) nan i = i
add_finite_left (inf true) (inf true) i = i
add_finite_left (inf true) (inf false) i = i
add_finite_left (inf false) (inf true) i = i
add_finite_left (inf false) (inf false) i = i
add_finite_left (inf s) (fin t n d) i = i
add_finite_left (fin s m e) y i = refl

add_finite_right : (x y : Float) → is_finite_of (x ⊕ y) ≡ true → is_finite_of y ≡ true
add_finite_right x y i = add_finite_left y x (rw (add_swap y x) i)

pub add_within : {a b x y : Float} → Within a x → Within b y → Within (a ⊕ b) (x ⊕ y)
add_within {a} {b} {x} {y} h k = record { bounds = both }
  where
    both : is_finite_of (a ⊕ b) ≡ true → le (magnitude (x ⊕ y)) (a ⊕ b) ≡ true
    both i =
        let p = add_finite_left a b i in
        let q = add_finite_right a b i in
        let j = within_finite k q in
        le_then_le _ _ _ (add_at_most x y (within_finite h p) j)
        (le_then_le _ _ _ (add_left (magnitude x) (magnitude y) a (magnitude_finite y ∙ j) (h.bounds p)) (add_right a (magnitude y) b p (k.bounds q)))

neg_within : {b x : Float} → Within b x → Within b (neg x)
neg_within {b} {x} h = record { bounds = λ i. rw (magnitude_neg x) (h.bounds i) }

pub sub_within : {a b x y : Float} → Within a x → Within b y → Within (a ⊕ b) (x ⊖ y)
unfolding sub
sub_within h k = add_within h (neg_within k)

-- ---- products
mul_magnitude : (x y : Float) → is_finite_of x ≡ true → is_finite_of y ≡ true → magnitude (x ⊗ y) ≡ magnitude x ⊗ magnitude y
unfolding is_finite_of mul
mul_magnitude nan y i j = absurd (false≢true i)
mul_magnitude (inf s) y i j = absurd (false≢true i)
mul_magnitude (fin s m e) nan i j = absurd (false≢true j)
mul_magnitude (fin s m e) (inf t) i j = absurd (false≢true j)
mul_magnitude (fin s m e) (fin t n d) i j = magnitude_round binary64 (unlike s t) (m * up e * (n * up d)) (down e * down d)

mul_finite_left : (x y : Float) → is_finite_of (x ⊗ y) ≡ true → is_finite_of x ≡ true
unfolding is_finite_of mul
mul_finite_left nan y i = i
mul_finite_left (inf s) nan i = i
mul_finite_left (inf s) (inf t) i = i
mul_finite_left (inf s) (fin t n d) i = cases (eqb n 0) (λ z. rw z at i) (λ z. rw z at i)
mul_finite_left (fin s m e) y i = refl

mul_finite_right : (x y : Float) → is_finite_of (x ⊗ y) ≡ true → is_finite_of y ≡ true
mul_finite_right x y i = mul_finite_left y x (rw (mul_swap y x) i)

pub mul_within : {a b x y : Float} → Within a x → Within b y → Within (a ⊗ b) (x ⊗ y)
mul_within {a} {b} {x} {y} h k = record { bounds = both }
  where
    both : is_finite_of (a ⊗ b) ≡ true → le (magnitude (x ⊗ y)) (a ⊗ b) ≡ true
    both i =
        let p = mul_finite_left a b i in
        let q = mul_finite_right a b i in
        let f = within_finite h p in
        let g = within_finite k q in
        let u = magnitude_finite x ∙ f in
        let v = magnitude_finite y ∙ g in
        let up-to-a = mul_left (magnitude x) (magnitude y) a u v p (magnitude_not_below y g) (h.bounds p) in
        let a-not-below = le_then_le _ _ _ (magnitude_not_below x f) (h.bounds p) in
        let up-to-b = mul_left (magnitude y) a b v p q a-not-below (k.bounds q) in
        rw (mul_magnitude x y f g) (le_then_le _ _ _ up-to-a (rw (mul_swap a (magnitude y), mul_swap a b) up-to-b))

-- ---- 1 / x, of an x from 1 on
round_one : round binary64 false 1 1 ≡ one·
unfolding round of_bits
round_one = refl

one_over : (n : ℕ) (d : ℤ) → down d ≤ n * up d → one· ⊘ fin false n d ≡ round binary64 false (1 * down d) (n * up d * 1)
unfolding div of_bits
one_over n d h = rw (ne_eqb n 0 (λ z. let l : down d ≤ 0 * up d = rw z at h in omega (arith, down_pos d)))

one_order : (n : ℕ) (d : ℤ) → down d ≤ n * up d → le (magnitude (one· ⊘ fin false n d)) one· ≡ true
one_order n d h =
    let C : 0 < n * up d * 1 = omega (arith, down_pos d) in
    rw (one_over n d h, magnitude_round binary64 false (1 * down d) (n * up d * 1), ← round_one) (plus_order (1 * down d) (n * up d * 1) 1 1 C (omega arith) (omega arith))

one_values : (x : Float) → is_finite_of x ≡ true → le one· x ≡ true → le (magnitude (one· ⊘ x)) one· ≡ true
unfolding is_finite_of
one_values nan i h = absurd (false≢true i)
one_values (inf s) i h = absurd (false≢true i)
one_values (fin true n d) i h = absurd (unfold of_bits in omega (arith, down_pos d, le_values one· (fin true n d) one_finite refl h))
one_values (fin false n d) i h = one_order n d (unfold of_bits in omega (arith, le_values one· (fin false n d) one_finite refl h))

pub one_over_within : (x : Float) → is_finite_of x ≡ true → le one· x ≡ true → Within one· (one· ⊘ x)
one_over_within x i h = record { bounds = λ j. one_values x i h }
