-- `normal` of the source: the logarithm of the normal distribution at x, and the ratio of density to distribution there.
use Rattle.std.specs.Prelude.{◌≡◌, cond, ℕ, zero, suc, ◌-◌, ◌<◌, Float}
use Rattle.std.proofs.Common.{not-suc-le-zero, arith}
use Rattle.std.specs.Float.Ieee.{neg, lt}
use Rattle.num.specs.F64.{◌⊕◌, ◌⊖◌, ◌⊗◌, ◌⊘◌, whole, bits, zero·, half·, eight·}
use Rattle.elementary.specs.Exp.{exp_of}
use Rattle.elementary.specs.Log.{log_of}
use Rattle.elementary.specs.Erfc.{erfc_of}
use Rattle.normal.specs.declared.mills.LogMills.{LogMills}

abbrev pub log_two_pi : Float
log_two_pi = bits 0x3ffd_67f1_c864_beb4

abbrev pub sqrt_two : Float
sqrt_two = bits 0x3ff6_a09e_667f_3bcd

-- the logarithm of the density
abbrev pub log_phi_of : Float → Float
log_phi_of x = neg half· ⊗ x ⊗ x ⊖ half· ⊗ log_two_pi

-- the terms k down to 1 of the continued fraction, inside out, from f
unfoldable pub fraction_from : Float → ℕ → Float → Float
fraction_from t zero f = f
fraction_from t (suc k) f = fraction_from t k (whole (suc k) ⊘ (t ⊕ f))

pub fraction_step : (t f : Float) (k : ℕ) → 0 < k → fraction_from t k f ≡ fraction_from t (k - 1) (whole k ⊘ (t ⊕ f))
unfolding fraction_from
fraction_step t f zero h = absurd (not-suc-le-zero h)
fraction_step t f (suc k) h = let s : suc k - 1 ≡ k = omega arith in rw s

unfoldable pub fraction_of : Float → Float
fraction_of t = fraction_from t 64 zero·

-- far in the tail the ratio comes first, by the fraction
unfoldable pub normal_tail : Float → LogMills
normal_tail x =
    let t = neg x in
    let mills = t ⊕ fraction_of t in
    record { log = log_phi_of x ⊖ log_of mills; mills = mills }

unfoldable pub normal_centre : Float → LogMills
normal_centre x =
    let cdf = half· ⊗ erfc_of (neg x ⊘ sqrt_two) in
    let log-cdf = log_of cdf in
    record { log = log-cdf; mills = exp_of (log_phi_of x ⊖ log-cdf) }

unfoldable pub normal_of : Float → LogMills
normal_of x = cond (lt x (neg eight·)) (normal_tail x) (normal_centre x)
