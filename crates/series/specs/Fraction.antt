-- Fractions of whole numbers, (p - n) / over, their order and their distance.
use Rattle.std.specs.Prelude.{ℕ, ◌+◌, ◌*◌, ◌≤◌, ◌<◌}
use Rattle.std.proofs.Common.{mul-pos, mul-le-mul_right, le_of_mul-le-mul_right, arith}

pub record Fraction : Type 0 where
  pub p : ℕ
  pub n : ℕ
  pub over : ℕ

abbrev pub AtMost : Fraction → Fraction → Type 0
AtMost f g = f.p * g.over + g.n * f.over ≤ g.p * f.over + f.n * g.over

-- f - g
abbrev pub less : Fraction → Fraction → Fraction
less f g = record { p = f.p * g.over + g.n * f.over; n = f.n * g.over + g.p * f.over; over = f.over * g.over }

abbrev pub twice : Fraction → Fraction
twice f = record { p = 2 * f.p; n = 2 * f.n; over = f.over }

-- f + k / l
abbrev pub raised : Fraction → ℕ → ℕ → Fraction
raised f k l = record { p = f.p * l + k * f.over; n = f.n * l; over = f.over * l }

-- f and g are at most k / l apart
pub record Within (f g : Fraction) (k l : ℕ) : Type 0 where
  pub above : AtMost f (raised g k l)
  pub below : AtMost g (raised f k l)

pub at_most_trans : (f g h : Fraction) → 0 < g.over → AtMost f g → AtMost g h → AtMost f h
at_most_trans f g h some x y = go f.p f.n f.over g.p g.n g.over h.p h.n h.over some x y
  where
    go : (p n o p' n' o' p'' n'' o'' : ℕ) → 0 < o' → p * o' + n' * o ≤ p' * o + n * o' → p' * o'' + n'' * o' ≤ p'' * o' + n' * o'' → p * o'' + n'' * o ≤ p'' * o + n * o''
    go p n o p' n' o' p'' n'' o'' some x y =
        let a = mul-le-mul_right o'' x in
        let b = mul-le-mul_right o y in
        let c : (p * o'' + n'' * o) * o' ≤ (p'' * o + n * o'') * o' = omega (arith, a, b) in
        le_of_mul-le-mul_right c some

pub raised_mono : (f g : Fraction) (k l : ℕ) → AtMost f g → AtMost (raised f k l) (raised g k l)
raised_mono f g k l x = go f.p f.n f.over g.p g.n g.over x
  where
    go : (p n o p' n' o' : ℕ) → p * o' + n' * o ≤ p' * o + n * o' → (p * l + k * o) * (o' * l) + n' * l * (o * l) ≤ (p' * l + k * o') * (o * l) + n * l * (o' * l)
    go p n o p' n' o' x = let a = mul-le-mul_right (l * l) x in omega (arith, a)

-- what lies between two fractions is as near as they are
pub held : (y low f high : Fraction) (k l : ℕ) → 0 < low.over → 0 < high.over → 0 < l → AtMost y (raised low k l) → AtMost high (raised y k l) → AtMost low f → AtMost f high → Within y f k l
held y low f high k l a b c up down x z =
    record {
      above = at_most_trans y (raised low k l) (raised f k l) (mul-pos a c) up (raised_mono low f k l x);
      below = at_most_trans f high (raised y k l) b z down;
    }
