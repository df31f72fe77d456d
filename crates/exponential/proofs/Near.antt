-- The exponential within 3/8 of zero is as near to the exact one as Statement says.
use Rattle.std.specs.Prelude.{◌≡◌, refl, Bool, true, false, ℕ, ◌+◌, ◌*◌, ◌≤◌, ◌<◌, T, negsuc, Float}
use Rattle.std.proofs.Common.{mul-le-mul_right, le_of_mul-le-mul_right, arith, le-ltb, lit≤}
use Rattle.std.specs.Float.{nan, inf, fin, binary64}
use Rattle.std.specs.Float.Ieee.{up, down, neg, lt, le, fits, of_bits}
use Rattle.std.specs.Float.Ieee.Exact.{HasValue}
use Rattle.std.specs.Float.Ieee.Scale.{finite}
use Rattle.num.specs.Helpers.{abs_of}
use Rattle.root.specs.Root.{units}
use Rattle.elementary.specs.Exp.{exp_of, exp_small, three_eighths}
use Rattle.rounding.specs.Units.{U, U_pos, sign_of, value_of}
use Rattle.rounding.specs.Magnitude.{magnitude}
use Rattle.rounding.specs.Beside.{N, W, U-is}
use Rattle.exponential.specs.Statement.{value, allowed, Enclosed}
use Rattle.exponential.specs.Found.{Found, as_sum, all, remains, enclosed as any_enclosed}
use Rattle.exponential.specs.Steps.{limit, size, off, steps}

-- ---- both tests of `exp` fail there

inside : (m u d v : ℕ) → 0 < u → m * u ≡ v * d → v * 8 ≤ 3 * u → m * 8 ≤ 3 * 1 * d
inside m u d v h e l = let k = mul-le-mul_right d l in let i : m * 8 * u ≤ 3 * 1 * d * u = omega (arith, k, e) in le_of_mul-le-mul_right i h

not_below : (x : Float) (s : Bool) (v : ℕ) → HasValue x s v U → v * 8 ≤ 3 * U → lt x (neg three_eighths) ≡ false
unfolding lt neg of_bits
not_below nan s v h l = absurd h
not_below (inf z) s v h l = absurd h
not_below (fin true m e) s v h l = le-ltb (3 * 1 * down e) (m * up e * 8) (inside (m * up e) U (down e) v U_pos h.1 l)
not_below (fin false m e) s v h l = refl

not_above : (x : Float) (s : Bool) (v : ℕ) → HasValue x s v U → v * 8 ≤ 3 * U → lt three_eighths x ≡ false
unfolding lt of_bits
not_above nan s v h l = absurd h
not_above (inf z) s v h l = absurd h
not_above (fin true m e) s v h l = refl
not_above (fin false m e) s v h l = le-ltb (3 * 1 * down e) (m * up e * 8) (inside (m * up e) U (down e) v U_pos h.1 l)

by_series : (x : Float) (s : Bool) (v : ℕ) → HasValue x s v U → v * 8 ≤ 3 * U → exp_of x ≡ exp_small x
unfolding exp_of
by_series x s v h l = rw (not_below x s v h l, not_above x s v h l)

-- ---- what the steps give is enclosed

few : (x : Float) → units x * 8 ≤ 3 * U → units x ≤ limit * W
few x l = go (units x) U W U-is l
  where
    go : (v u w : ℕ) → u ≡ N * w → v * 8 ≤ 3 * u → v ≤ limit * w
    go v u w e l = omega arith

pub half : (x : Float) → units x * 8 ≤ 3 * U → 2 * ((value x).p + (value x).n) ≤ U
half x l = rw (all x) (go (units x) U l)
  where
    go : (v u : ℕ) → v * 8 ≤ 3 * u → 2 * v ≤ u
    go v u l = omega arith

-- the remainder is at most 16 · 2^-64
close : (off + 16) * allowed ≤ N
close = lit≤ tt

pub enclosed : (x y : Float) → units x * 8 ≤ 3 * U → Found 14 size off x y → (n : ℕ) → 14 ≤ n → Enclosed x y n
enclosed x y l q n k = any_enclosed 14 size off 16 x y (half x l) q (remains limit 14 16 x (few x l) (lit≤ tt)) close n k

pub found : (x : Float) → T (fits binary64 x) → T (finite x) → units x * 8 ≤ 3 * U → Found 14 size off x (exp_of x)
found x f h l =
    let v = value_of x f h in
    rw (by_series x (sign_of x) (units x) v l) (as_sum 14 size off x (exp_small x) (steps x (sign_of x) (units x) v (few x l)))

-- For every f64 x with magnitude at most 3/8, by units, and every n from 14 on.
pub exp_near : (x : Float) → T (fits binary64 x) → T (finite x) → units x * 8 ≤ 3 * U → (n : ℕ) → 14 ≤ n → Enclosed x (exp_of x) n
exp_near x f h l n k = enclosed x (exp_of x) l (found x f h l) n k

-- The same where f64s say that the magnitude is at most 3/8.
pub at_most : (x : Float) → T (fits binary64 x) → T (le (abs_of x) three_eighths) → T (finite x) × (units x * 8 ≤ 3 * U)
unfolding of_bits
at_most x f h = magnitude x 3 (negsuc 2) f h

pub exp_near_compared : (x : Float) → T (fits binary64 x) → T (le (abs_of x) three_eighths) → (n : ℕ) → 14 ≤ n → Enclosed x (exp_of x) n
exp_near_compared x f h n k = let m = at_most x f h in exp_near x f m.0 m.1 n k
