-- Where |x| is at most 1/2, each lower fraction is at most the next and each upper one at least the next, so every later sum lies between them; and from each n to
-- the next their distance falls to a half or less. What the sums tend to lies between all of them.
use Rattle.std.specs.Prelude.{◌≡◌, ℕ, zero, suc, ◌+◌, ◌*◌, ◌≤◌, ◌<◌}
use Rattle.std.proofs.Common.{ap, add-suc, add-zero, mul-le-mul_left, arith}
use Rattle.std.proofs.Math.Nat.{pow-succ'}
use Rattle.series.specs.Fraction.{AtMost, less, twice, at_most_trans}
use Rattle.series.specs.Polynomial.{power_size}
use Rattle.series.specs.Exponential.{over, top, sum_at, lower_at, upper_at, over_suc, over_pos, top_suc_p, top_suc_n}

-- P - Q is the sum over O, q - q' the next term's top and Y its size, w the size of x over u
rise : (P Q q q' Y w k O : ℕ) → q + q' ≡ Y → 2 * w ≤ k → P * (O * k) + ((Q + q') * k + 2 * (w * Y)) * O ≤ (P + q) * k * O + (Q + 2 * Y) * (O * k)
rise P Q q q' Y w k O e l =
    let a = mul-le-mul_left (Y * O) l in
    let b = ap (λ (n : ℕ). n * (k * O)) e in
    omega (arith, a, b)

fall : (P Q q q' Y w k O : ℕ) → q + q' ≡ Y → 2 * w ≤ k → ((P + q) * k + 2 * (w * Y)) * O + Q * (O * k) ≤ (P + 2 * Y) * (O * k) + (Q + q') * k * O
fall P Q q q' Y w k O e l =
    let a = mul-le-mul_left (Y * O) l in
    let b = ap (λ (n : ℕ). n * (k * O)) e in
    omega (arith, a, b)

halve : (P Q R S Y w k O : ℕ) → 2 * w ≤ k
    → 2 * ((R + 2 * (w * Y)) * (O * k) + (S + 2 * (w * Y)) * (O * k)) * (O * O) + (Q * O + P * O) * (O * k * (O * k))
    ≤ ((P + 2 * Y) * O + (Q + 2 * Y) * O) * (O * k * (O * k)) + 2 * (S * (O * k) + R * (O * k)) * (O * O)
halve P Q R S Y w k O l =
    let a = mul-le-mul_left (4 * (Y * (O * O * O * k))) l in
    omega (arith, a)

-- a sum between its own two fractions
beneath : (t t' k o Y : ℕ) → t * k * o + t' * (o * k) ≤ t * (o * k) + (t' * k + 2 * Y) * o
beneath t t' k o Y = omega arith

over_it : (t t' k o Y : ℕ) → t * (o * k) + t' * k * o ≤ (t * k + 2 * Y) * o + t' * (o * k)
over_it t t' k o Y = omega arith

module _ (u a b : ℕ) (some : 0 < u) (small : 2 * (a + b) ≤ u) where
  wide : (n : ℕ) → 2 * (a + b) ≤ suc n * u
  wide n = go n u small
    where
      go : (n v : ℕ) → 2 * (a + b) ≤ v → 2 * (a + b) ≤ suc n * v
      go n v l = omega arith

  lower_next : (n : ℕ) → AtMost (lower_at u a b n) (lower_at u a b (suc n))
  lower_next n = rw (over_suc u (suc n), top_suc_p u a b n, top_suc_n u a b n, pow-succ' (a + b) (suc n)) (rise _ _ _ _ _ _ _ _ (power_size a b (suc n)) (wide (suc n)))

  upper_next : (n : ℕ) → AtMost (upper_at u a b (suc n)) (upper_at u a b n)
  upper_next n = rw (over_suc u (suc n), top_suc_p u a b n, top_suc_n u a b n, pow-succ' (a + b) (suc n)) (fall _ _ _ _ _ _ _ _ (power_size a b (suc n)) (wide (suc n)))

  pub lower_rises : (n d : ℕ) → AtMost (lower_at u a b n) (lower_at u a b (n + d))
  lower_rises n zero = rw (add-zero n) (omega arith)
  lower_rises n (suc d) = rw (add-suc n d) (at_most_trans (lower_at u a b n) (lower_at u a b (n + d)) (lower_at u a b (suc (n + d))) (over_pos u (suc (n + d)) some) (lower_rises n d) (lower_next (n + d)))

  pub upper_falls : (n d : ℕ) → AtMost (upper_at u a b (n + d)) (upper_at u a b n)
  upper_falls n zero = rw (add-zero n) (omega arith)
  upper_falls n (suc d) = rw (add-suc n d) (at_most_trans (upper_at u a b (suc (n + d))) (upper_at u a b (n + d)) (upper_at u a b n) (over_pos u (suc (n + d)) some) (upper_next (n + d)) (upper_falls n d))

  pub above_lower : (n : ℕ) → AtMost (lower_at u a b n) (sum_at u a b n)
  above_lower n = rw (over_suc u n) (beneath _ _ _ _ _)

  pub below_upper : (n : ℕ) → AtMost (sum_at u a b n) (upper_at u a b n)
  below_upper n = rw (over_suc u n) (over_it _ _ _ _ _)

  pub later_above : (n d : ℕ) → AtMost (lower_at u a b n) (sum_at u a b (n + d))
  later_above n d = at_most_trans (lower_at u a b n) (lower_at u a b (n + d)) (sum_at u a b (n + d)) (over_pos u (suc (n + d)) some) (lower_rises n d) (above_lower (n + d))

  pub later_below : (n d : ℕ) → AtMost (sum_at u a b (n + d)) (upper_at u a b n)
  later_below n d = at_most_trans (sum_at u a b (n + d)) (upper_at u a b (n + d)) (upper_at u a b n) (over_pos u (suc (n + d)) some) (below_upper (n + d)) (upper_falls n d)

  pub lower_below_upper : (n : ℕ) → AtMost (lower_at u a b n) (upper_at u a b n)
  lower_below_upper n = at_most_trans (lower_at u a b n) (sum_at u a b n) (upper_at u a b n) (over_pos u n some) (above_lower n) (below_upper n)

  pub closes : (n : ℕ) → AtMost (twice (less (upper_at u a b (suc n)) (lower_at u a b (suc n)))) (less (upper_at u a b n) (lower_at u a b n))
  closes n = rw (over_suc u (suc n), pow-succ' (a + b) (suc n)) (halve _ _ _ _ _ _ _ _ (wide (suc n)))
