-- A box of four bounds each way, and the points in it. A list's entry that is not there counts as a NaN.
use Rattle.std.specs.Prelude.{◌≡◌, true, List, ℕ, zero, suc, ◌<◌, get_or, Float}
use Rattle.std.proofs.Common.{arith}
use Rattle.std.specs.Float.{nan}
use Rattle.std.specs.Float.Ieee.{le}
use Rattle.num.specs.Helpers.{is_finite_of}
use Rattle.order.specs.Numbers.{between_finite}

abbrev pub Four : (ℕ → Type 0) → Type 0
Four P = (i : ℕ) → i < 4 → P i

pub four : (P : ℕ → Type 0) → P 0 → P 1 → P 2 → P 3 → Four P
four P a b c d zero l = a
four P a b c d (suc zero) l = b
four P a b c d (suc (suc zero)) l = c
four P a b c d (suc (suc (suc zero))) l = d
four P a b c d (suc (suc (suc (suc i)))) l = absurd (omega arith)

abbrev pub FiniteFour : List Float → Type 0
FiniteFour v = Four (λ i. is_finite_of (get_or v i nan) ≡ true)

-- finite bounds, in order
pub record Box (lo hi : List Float) : Type 0 where
  pub low : FiniteFour lo
  pub high : FiniteFour hi
  pub ordered : Four (λ i. le (get_or lo i nan) (get_or hi i nan) ≡ true)

pub record Inside (lo hi x : List Float) : Type 0 where
  pub above : Four (λ i. le (get_or lo i nan) (get_or x i nan) ≡ true)
  pub below : Four (λ i. le (get_or x i nan) (get_or hi i nan) ≡ true)

pub inside_finite : (lo hi x : List Float) → Box lo hi → Inside lo hi x → FiniteFour x
inside_finite lo hi x b s i l = between_finite _ _ _ (b.low i l) (b.high i l) (s.above i l) (s.below i l)
