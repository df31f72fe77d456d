-- The logarithm of a factorial is finite and above zero from 2 to 1000.
use Rattle.std.proofs.Common.{inl, inr, eq-or-lt_of_le, zero-add, suc-add, add-zero, add-suc, arith}
use Rattle.std.specs.Prelude.{ℕ, zero, suc, ◌+◌, ◌≤◌, ◌<◌, T}
use Rattle.std.specs.Float.Ieee.Fits.{and_i, and_l, and_r}
use Rattle.std.specs.Float.Ieee.Positive.{positive}
use Rattle.factorial.specs.Factorial.{log_factorial_of}
use Rattle.factorial.specs.Computed.{above, from_2, from_113, from_224, from_335, from_446, from_557, from_668, from_779, from_890}

within : (k n i : ℕ) → T (above k n) → k ≤ i → i < k + n → T (positive (log_factorial_of i))
unfolding above
within k zero i t h l = absurd (omega arith)
within k (suc n) i t h l =
    elim (eq-or-lt_of_le h) [
      | inl e ↦ rw (← e) (and_l (positive (log_factorial_of k)) (above (suc k) n) t)
      | inr g ↦ within (suc k) n i (and_r (positive (log_factorial_of k)) (above (suc k) n) t) g (omega arith)
    ]

joined : (k n m : ℕ) → T (above k n) → T (above (k + n) m) → T (above k (n + m))
unfolding above
joined k zero m t u = rw (zero-add m) (rw (add-zero k) at u)
joined k (suc n) m t u =
    let p = positive (log_factorial_of k) in
    let v : T (above (suc k + n) m) = rw (suc-add k n, ← add-suc k n) u in
    rw (suc-add n m) (and_i p (above (suc k) (n + m)) (and_l p (above (suc k) n) t) (joined (suc k) n m (and_r p (above (suc k) n) t) v))

from_2_to_1000 : T (above 2 999)
from_2_to_1000 =
    joined 2 111 888 from_2 (joined 113 111 777 from_113 (joined 224 111 666 from_224 (joined 335 111 555 from_335 (joined 446 111 444 from_446 (joined 557 111 333 from_557 (joined 668 111 222 from_668 (joined 779 111 111 from_779 from_890)))))))

pub log_factorial_above : (n : ℕ) → 2 ≤ n → n ≤ 1000 → T (positive (log_factorial_of n))
log_factorial_above n h l = within 2 999 n from_2_to_1000 h (omega arith)
