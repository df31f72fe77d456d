-- The magnitude of an f64: `abs_of` gives its units with no sign, and below a positive constant it has no more units than that.
use Rattle.std.specs.Prelude.{◌≡◌, Bool, true, false, ◌&&◌, ◌||◌, cond, ℕ, zero, suc, ◌+◌, ◌*◌, ◌%◌, ◌^◌, ◌≤◌, ◌<◌, T, ltb, leb, eqb, ℤ, pos, Float}
use Rattle.std.proofs.Common.{sym, ap, ◌∙◌, subst, one-mul, zero-mul, mul_right_comm, lt_of_mul-lt-mul_right, mul-lt-mul_of_pos_right, le_of_mul-le-mul_right, mul-le-mul_right, arith, ltb→lt, lt→ltb, eqb→eq, pow-add, pow_pos}
use Rattle.std.proofs.Math.Nat.{zero-div, eq_of_mul-eq-mul_right}
use Rattle.std.specs.Float.{nan, inf, fin, binary64}
use Rattle.std.specs.Float.Ieee.{up, down, neg, add, sub, sum, round, lt, eq, le, fits, of_bits}
use Rattle.std.specs.Float.Ieee.Fits.{and_r, down_pos, neg-fits}
use Rattle.std.specs.Float.Ieee.Exact.{HasValue, round_exact}
use Rattle.std.specs.Float.Ieee.Scale.{finite}
use Rattle.num.specs.F64.{zero·}
use Rattle.num.specs.Helpers.{abs_of}
use Rattle.root.specs.Root.{units}
use Rattle.root.specs.Grid.{shape}
use Rattle.rounding.specs.Units.{U, U_pos, value_of}

-- the same fraction over U
over_units : (x : Float) (num den v : ℕ) → 0 < den → num * U ≡ v * den → HasValue x false num den → HasValue x false v U
over_units nan num den v h e i = i
over_units (inf s) num den v h e i = i
over_units (fin s m k) num den v h e i = (
  i.0,
  eq_of_mul-eq-mul_right den h (m * up k * U) (v * down k)
      (mul_right_comm (m * up k) U den ∙ ap (λ (n : ℕ). n * U) i.1 ∙ mul_right_comm num (down k) U ∙ ap (λ (n : ℕ). n * down k) e ∙ mul_right_comm v den (down k)),
)

units_below : (m : ℕ) (e : ℤ) → T (fits binary64 (fin false m e)) → units (fin false m e) < 2 ^ 2098
unfolding fits U
units_below zero e f = rw (zero-mul (up e), zero-mul (2 ^ 1074), zero-div (down e)) (pow_pos 2098)
units_below (suc m) e f =
    let A = eqb (suc m % 2) 1 in
    let B = ltb (suc m) (2 ^ 53) in
    let C = leb (down e) (2 ^ 1074) in
    let D = ltb (suc m * up e) (2 ^ 1024 * down e) in
    let l = ltb→lt (suc m * up e) (2 ^ 1024 * down e) (and_r (A && B && C) D f) in
    let v = value_of (fin false (suc m) e) f tt in
    lt_of_mul-lt-mul_right (down e) (go (suc m * up e) (down e) (2 ^ 1074) (2 ^ 1024) (2 ^ 2098) (units (fin false (suc m) e)) (sym (pow-add 2 1024 1074)) (mul-lt-mul_of_pos_right l U_pos) v.1)
  where
    go : (a d u p q v : ℕ) → p * u ≡ q → a * u < p * d * u → a * u ≡ v * d → v * d < q * d
    go a d u p q v e h i = let j = ap (λ (n : ℕ). n * d) e in omega (arith, h, i, j)

-- a positive one is rounded to itself
kept : (m : ℕ) (e : ℤ) (num den : ℕ) → 0 < den → T (fits binary64 (fin false m e)) → num * down e ≡ m * up e * den → HasValue (round binary64 false num den) false (units (fin false m e)) U
unfolding U
kept m e num den h f i =
    let x = fin false m e in
    let v = value_of x f tt in
    let s = shape x f tt in
    let j : num * 2 ^ 1074 ≡ units x * den =
    eq_of_mul-eq-mul_right (down e) (down_pos e) (num * 2 ^ 1074) (units x * den) (mul_right_comm num (2 ^ 1074) (down e) ∙ ap (λ (n : ℕ). n * 2 ^ 1074) i ∙ mul_right_comm (m * up e) den (2 ^ 1074) ∙ ap (λ (n : ℕ). n * den) v.1 ∙ mul_right_comm (units x) (down e) den) in
    over_units (round binary64 false num den) num den (units x) h j
    (round_exact binary64 false num den s.m s.t h s.few (subst (λ (n : ℕ). n < 2 ^ 2098) s.is (units_below m e f)) (j ∙ ap (λ (n : ℕ). n * den) s.is))

either : (p q r : Bool) (a b : ℕ) → T (p || (q && r)) → (T p → a < b) → (T q → a ≡ b) → a ≤ b
either true q r a b h i j = let l = i tt in omega arith
either false true r a b h i j = let e = j tt in omega arith
either false false r a b h i j = absurd h

-- at most k · 2^d, by units
pub le_units : (y : Float) (g k : ℕ) (d : ℤ) → HasValue y false g U → T (le y (fin false k d)) → g * down d ≤ k * up d * U
unfolding le lt eq
le_units nan g k d v h = absurd v
le_units (inf s) g k d v h = absurd v
le_units (fin true m e) g k d v h = absurd (subst T v.0 tt)
le_units (fin false m e) g k d v h =
    let a = m * up e * down d in
    let b = k * up d * down e in
    let l = either (ltb a b) (eqb a b) (true || eqb a 0) a b h (ltb→lt a b) (eqb→eq a b) in
    go (m * up e) (down d) (k * up d) (down e) U g (down_pos e) l v.1
  where
    go : (a d b e u g : ℕ) → 0 < e → a * d ≤ b * e → a * u ≡ g * e → g * d ≤ b * u
    go a d b e u g p l i =
        let j = mul-le-mul_right u l in
        let n = ap (λ (x : ℕ). x * d) i in
        let q : g * d * e ≤ b * u * e = omega (arith, j, n) in
        le_of_mul-le-mul_right q p

left : (p q : Bool) → T p → T (p || q)
left true q h = tt
left false q h = absurd h

not_above_zero : (a b : ℕ) → b ≡ 0 → T (ltb 0 (a + b) || (eqb a b && (false || eqb a 0)))
not_above_zero zero b e = rw e tt
not_above_zero (suc a) b e = left (ltb 0 (suc a + b)) _ (lt→ltb 0 (suc a + b) (omega arith))

minus_le : (m : ℕ) (e : ℤ) → T (le (fin true m e) zero·)
unfolding le lt eq of_bits
minus_le m e = not_above_zero (m * up e * 1) (0 * 1 * down e) (zero-mul (down e))

no_nan : (k : ℕ) (d : ℤ) → T (le (abs_of nan) (fin false k d)) → ⊥
unfolding abs_of le lt eq
no_nan k d h = h

no_inf : (s : Bool) (k : ℕ) (d : ℤ) → T (le (abs_of (inf s)) (fin false k d)) → ⊥
unfolding abs_of le lt eq of_bits sub add neg
no_inf true k d h = h
no_inf false k d h = h

-- one that has no sign is itself, or a zero
plain_at : (m : ℕ) (e : ℤ) (t : Bool) → T (fits binary64 (fin false m e)) → (T t → units (fin false m e) * 1 ≤ 0 * 1 * U) → (k : ℕ) (d : ℤ)
    → T (le (cond t (sub binary64 zero· (fin false m e)) (fin false m e)) (fin false k d)) → units (fin false m e) * down d ≤ k * up d * U
plain_at m e true f z k d h = none (units (fin false m e)) U (down d) (k * up d) (z tt)
  where
    none : (n t a b : ℕ) → n * 1 ≤ 0 * 1 * t → n * a ≤ b * t
    none n t a b l = let z : n ≡ 0 = omega arith in rw z (omega arith)
plain_at m e false f z k d h = le_units (fin false m e) _ k d (value_of (fin false m e) f tt) h

zero_units : (m : ℕ) (e : ℤ) → T (fits binary64 (fin false m e)) → T (le (fin false m e) zero·) → units (fin false m e) * 1 ≤ 0 * 1 * U
unfolding of_bits
zero_units m e f h = le_units (fin false m e) _ 0 (pos 0) (value_of (fin false m e) f tt) h

plain : (m : ℕ) (e : ℤ) (k : ℕ) (d : ℤ) → T (fits binary64 (fin false m e)) → T (le (abs_of (fin false m e)) (fin false k d)) → units (fin false m e) * down d ≤ k * up d * U
unfolding abs_of
plain m e k d f h = plain_at m e (le (fin false m e) zero·) f (zero_units m e f) k d h

-- one with a sign is taken from zero
turned_fits : (m : ℕ) (e : ℤ) → T (fits binary64 (fin true m e)) → T (fits binary64 (fin false m e))
unfolding neg
turned_fits m e f = neg-fits binary64 (fin true m e) f

from_zero : (m : ℕ) (e : ℤ) → T (fits binary64 (fin false m e)) → HasValue (sub binary64 zero· (fin true m e)) false (units (fin false m e)) U
unfolding sub add neg sum of_bits
from_zero m e f = kept m e (0 * 1 * down e + m * up e * 1) (1 * down e) (rw (one-mul (down e)) (down_pos e)) f (same (m * up e) (down e))
  where
    same : (a d : ℕ) → (0 * 1 * d + a * 1) * d ≡ a * (1 * d)
    same a d = omega arith

minus_at : (m : ℕ) (e : ℤ) (t : Bool) → T t → T (fits binary64 (fin true m e)) → (k : ℕ) (d : ℤ)
    → T (le (cond t (sub binary64 zero· (fin true m e)) (fin true m e)) (fin false k d)) → units (fin true m e) * down d ≤ k * up d * U
minus_at m e true t f k d h = le_units (sub binary64 zero· (fin true m e)) _ k d (from_zero m e (turned_fits m e f)) h
minus_at m e false t f k d h = absurd t

minus : (m : ℕ) (e : ℤ) (k : ℕ) (d : ℤ) → T (fits binary64 (fin true m e)) → T (le (abs_of (fin true m e)) (fin false k d)) → units (fin true m e) * down d ≤ k * up d * U
unfolding abs_of
minus m e k d f h = minus_at m e (le (fin true m e) zero·) (minus_le m e) f k d h

-- x has no more units than the constant that its magnitude is at most
pub magnitude : (x : Float) (k : ℕ) (d : ℤ) → T (fits binary64 x) → T (le (abs_of x) (fin false k d)) → T (finite x) × (units x * down d ≤ k * up d * U)
magnitude nan k d f h = absurd (no_nan k d h)
magnitude (inf s) k d f h = absurd (no_inf s k d h)
magnitude (fin false m e) k d f h = (tt, plain m e k d f h)
magnitude (fin true m e) k d f h = (tt, minus m e k d f h)
