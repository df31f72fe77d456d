-- On which side of the middle a fraction X / den lies: v, its nearest in units, is c · 2^k, and n is another f64's number of units.
use Rattle.std.specs.Prelude.{◌≡◌, ℕ, ◌+◌, ◌-◌, ◌*◌, ◌%◌, ◌^◌, ◌≤◌, ◌<◌, ltb}
use Rattle.std.proofs.Common.{sym, ap, mul-le-mul_left, arith, ltb-true, ltb-false}
use Rattle.std.proofs.Math.Nat.{mul-lt-mul_of_pos_left}
use borrow.Table.Steps.{cases}
use Rattle.std.proofs.Math.Arith.{lt_of_le-ne}
use Rattle.root.specs.Grid.{Grid}
use Rattle.decimal.specs.Whole.{Whole}

pub record Sides (den X c v n : ℕ) : Type 0 where
  pub lower : n < v → den * (n + v) ≤ 2 * X
  pub higher : v < n → 2 * X ≤ den * (n + v)
  pub even : (n ≡ v → ⊥) → den * (n + v) ≡ 2 * X → c % 2 ≡ 0

either : {A : Type 0} (n v : ℕ) → (n ≡ v → ⊥) → (n < v → A) → (v < n → A) → A
either n v d l h = cases (ltb n v) (λ b. l (ltb-true n v b)) (λ b. h (lt_of_le-ne (ltb-false n v b) (λ e. d (sym e))))

-- every whole number of units is an f64's: n may be any
pub fine : (den X c n : ℕ) → Whole X den c → Sides den X c c n
fine den X c n w =
    record {
      lower = lower;
      higher = higher;
      even = λ d e. either n c d (λ l. w.tie_under (let k = step n c l in omega (arith, w.not_under))) (λ l. w.tie_over (let k = step c n l in omega (arith, w.not_over)));
    }
  where
    step : (a b : ℕ) → a < b → den * a + den ≤ den * b
    step a b l = let m = mul-le-mul_left den l in omega (arith, m)

    lower : n < c → den * (n + c) ≤ 2 * X
    lower l = let k = step n c l in omega (arith, w.not_under)

    higher : c < n → 2 * X ≤ den * (n + c)
    higher l = let k = step c n l in omega (arith, w.not_over)

-- c has all its digits, and n is on the grid of what is H or more away, H half a unit in the last place
pub coarse : (den X c H n : ℕ) → 0 < den → 0 < H → Grid c H n → Whole X (2 * (den * H)) c → 2 ^ 52 ≤ c → 2 ^ 52 * (2 * (den * H)) ≤ X → Sides den X c (2 * c * H) n
coarse den X c H n pos some g w full reached =
    record { lower = lower; higher = λ l. higher l; even = λ d e. either n (2 * c * H) d (λ l. low_even l e) (λ l. w.tie_over (let k = up l in omega (arith, w.not_over))) }
  where
    up : 2 * c * H < n → den * ((2 * c + 2) * H) ≤ den * n
    up l = mul-le-mul_left den (g.above l)

    higher : 2 * c * H < n → 2 * X ≤ den * (n + 2 * c * H)
    higher l = let k = up l in omega (arith, w.not_over)

    down : 2 ^ 52 < c → n < 2 * c * H → den * (n + 2 * H) ≤ den * (2 * c * H)
    down m l =
        let d = 2 * c - 2 in
        let e : d + 2 ≡ 2 * c = omega arith in
        let f : (d + 2) * H ≡ 2 * c * H = ap (λ (x : ℕ). x * H) e in
        let b : n ≤ d * H = g.well_below m l in
        mul-le-mul_left den (omega arith)

    split : {A : Type 0} → (2 ^ 52 < c → A) → (c ≡ 2 ^ 52 → A) → A
    split a b = cases (ltb (2 ^ 52) c) (λ t. a (ltb-true (2 ^ 52) c t)) (λ t. b (omega (arith, ltb-false (2 ^ 52) c t)))

    at_least : c ≡ 2 ^ 52 → c * (2 * (den * H)) ≤ X
    at_least i = rw i reached

    lower : n < 2 * c * H → den * (n + 2 * c * H) ≤ 2 * X
    lower l =
        split (λ m. let k = down m l in omega (arith, w.not_under))
        (λ i. let a = at_least i in let k = mul-lt-mul_of_pos_left {m = n} {n = 2 * c * H} {k = den} l pos in omega arith)

    low_even : n < 2 * c * H → den * (n + 2 * c * H) ≡ 2 * X → c % 2 ≡ 0
    low_even l e =
        split (λ m. w.tie_under (let k = down m l in omega (arith, w.not_under)))
        (λ i. let a = at_least i in let k = mul-lt-mul_of_pos_left {m = n} {n = 2 * c * H} {k = den} l pos in absurd (omega arith))
