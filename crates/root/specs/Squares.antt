-- Squares of whole numbers: of a double, of the next, and how a sum S against s times H stands to four times M times H squared.
use Rattle.std.specs.Prelude.{◌≡◌, ℕ, ◌+◌, ◌*◌, ◌≤◌, ◌<◌}
use Rattle.std.proofs.Common.{sym, le_of_eq, le_trans, lt_of_le_of_lt, lt_of_lt_of_le, mul_assoc, mul_left_comm, mul-add, add-mul, mul-le-mul, mul-pos, mul-lt-mul_of_pos_right, arith}
use Rattle.std.proofs.Math.Nat.{mul-mul-mul_comm}

pub twice_squared : (n : ℕ) → 2 * n * (2 * n) ≡ 4 * (n * n)
twice_squared n = omega (arith, mul_assoc 2 n (2 * n), mul_left_comm n 2 n)

pub next_squared : (n : ℕ) → (n + 1) * (n + 1) ≡ n * n + 2 * n + 1
next_squared n = omega (arith, mul-add (n + 1) n 1, add-mul n 1 n)

four_of : (M H : ℕ) → 4 * M * (H * H) ≡ 4 * (M * (H * H))
four_of M H = mul_assoc 4 M (H * H)

pub below_four : (S s H M : ℕ) → 0 < H → S ≤ s * H → s * s < 4 * M → S * S < 4 * (M * (H * H))
below_four S s H M p l h =
    lt_of_le_of_lt (le_trans (mul-le-mul l l) (le_of_eq (mul-mul-mul_comm s H s H)))
    (lt_of_lt_of_le (mul-lt-mul_of_pos_right h (mul-pos p p)) (le_of_eq (four_of M H)))

pub above_four : (S s H M : ℕ) → 0 < H → s * H ≤ S → 4 * M < s * s → 4 * (M * (H * H)) < S * S
above_four S s H M p l h =
    lt_of_le_of_lt (le_of_eq (sym (four_of M H)))
    (lt_of_lt_of_le (mul-lt-mul_of_pos_right h (mul-pos p p)) (le_trans (le_of_eq (sym (mul-mul-mul_comm s H s H))) (mul-le-mul l l)))
