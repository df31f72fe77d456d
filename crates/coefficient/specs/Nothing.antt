-- The coefficient is exactly +0 where there is nothing to choose: no successes or no failures among up to 1000 pups.
use Rattle.std.specs.Prelude.{◌≡◌, refl, true, false, ◌⊎◌, ℕ, zero, suc, ◌*◌, ◌≤◌, ◌<◌, ℤ, T, Float}
use Rattle.std.proofs.Common.{sym, ◌∙◌, inl, inr, mul-pos, le_refl, zero-mul, arith, ltb→lt, lit<}
use Rattle.std.proofs.Math.Nat.{sub_self, sub-zero}
use borrow.Author.Tests.{lt-ltb, le-ltb}
use Rattle.std.specs.Float.{nan, inf, fin, binary64}
use Rattle.std.specs.Float.Ieee.{up, down, round, sum, add, sub, neg, lt, eq, of_bits}
use Rattle.std.specs.Float.Ieee.Fits.{up_pos, down_pos}
use Rattle.std.specs.Float.Ieee.Scale.{round_same}
use Rattle.std.specs.Float.Ieee.Positive.{positive}
use Rattle.num.specs.F64.{◌⊖◌, zero·}
use Rattle.num.specs.Helpers.{max_of, min_of}
use Rattle.order.specs.Rounding.{round_zero}
use Rattle.order.specs.Zeros.{zero_less_zero}
use Rattle.factorial.specs.Computed.{at_0, at_1}
use Rattle.factorial.specs.Above.{log_factorial_above}
use Rattle.coefficient.specs.Coefficient.{coefficient_of}
use Rattle.coefficient.specs.Exchanged.{exchanged}

-- zero beside a number above it
module _ (m : ℕ) (e : ℤ) (p : 0 < m) where
  size : 0 < m * up e * 1
  size = omega (arith, mul-pos p (up_pos e))

  larger : max_of zero· (fin false m e) ≡ fin false m e
  unfolding max_of lt of_bits
  larger = rw (zero-mul (down e), lt-ltb 0 (m * up e * 1) size)

  smaller : min_of zero· (fin false m e) ≡ zero·
  unfolding min_of max_of lt neg of_bits
  smaller = rw (zero-mul (down e), le-ltb (m * up e * 1) 0 (omega arith), lt-ltb 0 (m * up e * 1) size)

less_itself : (m : ℕ) (e : ℤ) → fin false m e ⊖ fin false m e ≡ zero·
unfolding sub add neg sum
less_itself m e =
    let a = m * up e * down e in
    let c = down e * down e in
    rw (le-ltb a a (le_refl a), sub_self a) (round_same binary64 false 0 c 0 1 (mul-pos (down_pos e) (down_pos e)) (lit< tt) (sym (zero-mul c)) ∙ round_zero)

less_both : (x : Float) → T (positive x) → x ⊖ max_of zero· x ⊖ min_of zero· x ≡ zero·
less_both nan p = absurd p
less_both (inf s) p = absurd p
less_both (fin true m e) p = absurd p
less_both (fin false m e) p = let q = ltb→lt 0 m p in rw (larger m e q, smaller m e q, less_itself m e) zero_less_zero

less_zeros : zero· ⊖ max_of zero· zero· ⊖ min_of zero· zero· ≡ zero·
unfolding max_of min_of sub add neg sum round lt eq of_bits
less_zeros = refl

none_of : (total : ℕ) → total ≤ 1000 → coefficient_of 0 total ≡ zero·
unfolding coefficient_of
none_of zero h = rw at_0 less_zeros
none_of (suc zero) h = rw (at_0, at_1) less_zeros
none_of (suc (suc n)) h = rw (sub-zero (suc (suc n)), at_0) (less_both _ (log_factorial_above (suc (suc n)) (omega arith) h))

pub nothing : (successes total : ℕ) → total ≤ 1000 → (successes ≡ 0) ⊎ (successes ≡ total) → coefficient_of successes total ≡ zero·
nothing successes total h (inl e) = rw e (none_of total h)
nothing successes total h (inr e) = rw e (exchanged total total (le_refl total) ∙ rw (sub_self total) (none_of total h))
