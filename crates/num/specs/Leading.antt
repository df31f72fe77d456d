-- A subnormal's significand brought up by its leading zeros: the shift is within a word, and nothing is lost.
use Rattle.std.specs.Prelude.{◌≡◌, ℕ, ◌+◌, ◌-◌, ◌*◌, ◌%◌, ◌^◌, ◌≤◌, ◌<◌}
use Rattle.std.proofs.Common.{subst, arith, mod-eq_of_lt, lt_of_not-le, le_trans, pow_mono, shl_lt}
use Rattle.std.specs.Int.Count.{count_leading_zeros}
use Rattle.std.proofs.lemmas.Nat.{leading_length}

pub record BroughtUp (m : ℕ) : Type 0 where
  pub at_least : 12 ≤ count_leading_zeros 64 m
  pub at_most : count_leading_zeros 64 m ≤ 64
  pub below : m * 2 ^ (count_leading_zeros 64 m - 11) < 2 ^ 53
  pub whole : m * 2 ^ (count_leading_zeros 64 m - 11) % 2 ^ 64 ≡ m * 2 ^ (count_leading_zeros 64 m - 11)

pub brought_up : (m : ℕ) → m < 2 ^ 52 → BroughtUp m
brought_up m h =
    let l = leading_length 64 m (omega arith) in
    let n = l.0 in
    let short : n < 53 = lt_of_not-le (λ (g : 53 ≤ n). let p : 2 ^ 53 ≤ 2 * m + 1 = le_trans (pow_mono g) l.3 in omega arith) in
    let count : count_leading_zeros 64 m + n ≡ 64 = l.1 in
    let e : n + (count_leading_zeros 64 m - 11) ≡ 53 = omega arith in
    let b : m * 2 ^ (count_leading_zeros 64 m - 11) < 2 ^ 53 = subst (λ (x : ℕ). m * 2 ^ (count_leading_zeros 64 m - 11) < 2 ^ x) e (shl_lt {a = m} n (count_leading_zeros 64 m - 11) l.2) in
    record { at_least = omega arith; at_most = omega arith; below = b; whole = mod-eq_of_lt (omega arith) }
