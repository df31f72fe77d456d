-- An f64 beside a sum of the power series is enclosed as Statement says, where the bound on the remainder and what it is off come to 2^-48 at most.
use Rattle.std.specs.Prelude.{◌≡◌, ℕ, zero, suc, ◌+◌, ◌-◌, ◌*◌, ◌^◌, ◌≤◌, Float}
use Rattle.std.proofs.Common.{ap, ◌∙◌, subst, le_trans, le_of_eq, mul-le-mul_right, arith, lit<}
use Rattle.std.proofs.Math.Nat.{pow-succ', pow-zero, pow-le-pow_left}
use Rattle.root.specs.Root.{units}
use Rattle.rounding.specs.Units.{U, U_pos, sign_of, sides, one_value}
use Rattle.rounding.specs.Beside.{N, W, U-is, Beside}
use Rattle.series.specs.Fraction.{AtMost, raised, at_most_trans, held}
use Rattle.series.specs.Exponential.{over, factorial, over_suc, over_is, over_pos, shares, polynomial}
use Rattle.series.specs.Enclosure.{lower_rises, upper_falls, lower_below_upper, later_above, later_below, closes}
use Rattle.exponential.specs.Statement.{value, sum, lower, upper, allowed, Enclosed}
use Rattle.exponential.specs.Parts.{Part}

-- y lies within off · 2^-64 of the sum to x^m / m!
abbrev pub Found : ℕ → ℕ → ℕ → Float → Float → Type 0
Found m size off x y = Beside y (sum x m).p (sum x m).n (sum x m).over size off

pub as_sum : (m size off : ℕ) (x y : Float) → Part m (factorial m) (value x).p (value x).n y 0 (shares m) size off → Found m size off x y
as_sum m size off x y q = let e = polynomial U (value x).p (value x).n m in rw (← e.p, ← e.n, over_is U m) q.is

pub all : (x : Float) → (value x).p + (value x).n ≡ units x
all x = sides (sign_of x) (units x)

-- ---- the bound on the remainder, 2 |x|^k / k!, by a limit of |x| in 2^-64

powers : (a b k : ℕ) → (a * b) ^ k ≡ a ^ k * b ^ k
powers a b zero = rw (pow-zero (a * b), pow-zero a, pow-zero b)
powers a b (suc k) = rw (pow-succ' (a * b) k, pow-succ' a k, pow-succ' b k, powers a b k) (omega arith)

least : (Y A p B q u n w f R : ℕ) → Y ≤ A * p → q ≡ B * p → u ≡ n * w → 2 * A * n ≤ R * f * B → 2 * Y * u ≤ R * w * (f * q)
least Y A p B q u n w f R y e d l =
    let s = mul-le-mul_right (n * w) y in
    let t = mul-le-mul_right (w * p) l in
    rw (e, d) (omega (arith, s, t))

tiny : (limit k f R y w u : ℕ) → y ≤ limit * w → u ≡ N * w → 2 * limit ^ k * N ≤ R * f * N ^ k → 2 * y ^ k * u ≤ R * w * (f * u ^ k)
tiny limit k f R y w u l e c =
    least (y ^ k) (limit ^ k) (w ^ k) (N ^ k) (u ^ k) u N w f R (le_trans (pow-le-pow_left l k) (le_of_eq (powers limit w k))) (ap (λ (x : ℕ). x ^ k) e ∙ powers N w k) e c

pub remains : (limit m R : ℕ) (x : Float) → units x ≤ limit * W → 2 * limit ^ suc m * N ≤ R * factorial (suc m) * N ^ suc m → 2 * ((value x).p + (value x).n) ^ suc m * U ≤ R * W * (over U m * (suc m * U))
remains limit m R x l c = rw (all x, ← over_suc U m, over_is U (suc m)) (tiny limit (suc m) (factorial (suc m)) R (units x) W U l U-is c)

-- ---- what was found of y, said of the two fractions at m: o is `over` there, k the next factor, 2 Y / (o k) the bound on the remainder

spent : (k o Y w u l e R : ℕ) → 2 * Y * u ≤ R * w * (o * k) → u ≡ N * w → (e + R) * l ≤ N → e * w * o * (k * l) + 2 * Y * (l * u) ≤ u * (o * k)
spent k o Y w u l e R r d f =
    let b = mul-le-mul_right l r in
    let c = mul-le-mul_right (w * (o * k)) f in
    let i : u * (o * k) ≡ N * (w * (o * k)) = rw d (omega arith) in
    omega (arith, b, c, i)

from_lower : (P Q t t' k o Y u l E : ℕ) → P * o + t' * u ≤ t * u + Q * o + E → E * (k * l) + Y * (l * u) ≤ u * (o * k)
    → P * (o * k * l) + (t' * k + Y) * l * u ≤ (t * k * l + 1 * (o * k)) * u + Q * (o * k * l)
from_lower P Q t t' k o Y u l E h r = let a = mul-le-mul_right (k * l) h in omega (arith, a, r)

from_upper : (P Q t t' k o Y u l E : ℕ) → t * u + Q * o ≤ P * o + t' * u + E → E * (k * l) + Y * (l * u) ≤ u * (o * k)
    → (t * k + Y) * (u * l) + Q * l * (o * k) ≤ (P * l + 1 * u) * (o * k) + t' * k * (u * l)
from_upper P Q t t' k o Y u l E h r = let a = mul-le-mul_right (k * l) h in omega (arith, a, r)

module _ (m size off R : ℕ) (x y : Float) (half : 2 * ((value x).p + (value x).n) ≤ U) (q : Found m size off x y)
    (remainder : 2 * ((value x).p + (value x).n) ^ suc m * U ≤ R * W * (over U m * (suc m * U))) (close : (off + R) * allowed ≤ N) where
  room : off * W * over U m * (suc m * U * allowed) + 2 * ((value x).p + (value x).n) ^ suc m * (allowed * U) ≤ U * (over U m * (suc m * U))
  room = spent (suc m * U) (over U m) _ W U allowed off R remainder U-is close

  at_lower : AtMost (value y) (raised (lower x m) 1 allowed)
  at_lower =
      let e = one_value y q.z q.g q.value in
      rw (e.0, e.1, over_suc U m) (from_lower _ _ _ _ (suc m * U) (over U m) _ U allowed _ q.near.above room)

  at_upper : AtMost (upper x m) (raised (value y) 1 allowed)
  at_upper =
      let e = one_value y q.z q.g q.value in
      rw (e.0, e.1, over_suc U m) (from_upper _ _ _ _ (suc m * U) (over U m) _ U allowed _ q.near.below room)

  enclosed_after : (d : ℕ) → Enclosed x y (m + d)
  enclosed_after d =
      let a = (value x).p in
      let b = (value x).n in
      let n = m + d in
      let rises = lower_rises U a b U_pos half m d in
      let falls = upper_falls U a b U_pos half m d in
      let between = lower_below_upper U a b U_pos half n in
      let some = over_pos U (suc n) U_pos in
      let first = over_pos U (suc m) U_pos in
      record {
        above_lower = λ k. later_above U a b U_pos half n k;
        below_upper = λ k. later_below U a b U_pos half n k;
        closing = closes U a b U_pos half n;
        near_lower = held (value y) (lower x m) (lower x n) (upper x m) 1 allowed first first (lit< tt) at_lower at_upper rises (at_most_trans (lower x n) (upper x n) (upper x m) some between falls);
        near_upper = held (value y) (lower x m) (upper x n) (upper x m) 1 allowed first first (lit< tt) at_lower at_upper (at_most_trans (lower x m) (lower x n) (upper x n) some rises between) falls;
      }

  pub enclosed : (n : ℕ) → m ≤ n → Enclosed x y n
  enclosed n h = let e : m + (n - m) ≡ n = omega arith in subst (λ (k : ℕ). Enclosed x y k) e (enclosed_after (n - m))
