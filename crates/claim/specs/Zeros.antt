-- Which test sees a zero's sign and a NaN: the box's compares numbers, the likelihood's compares bits.
use Rattle.std.specs.Prelude.{◌≡◌, refl, true, false, Float}
use Rattle.std.specs.Float.{nan, inf, fin}
use Rattle.std.specs.Float.Ieee.{le, of_bits, to_bits}
use Rattle.num.specs.F64.{bits, zero·}
use Rattle.claim.specs.Claim.{within_of, same_bits_of}

abbrev minus_zero : Float
minus_zero = bits (0x8000_0000_0000_0000)

pub zero_lies_at_zero : (within_of minus_zero zero· zero· ≡ true) × (within_of zero· minus_zero minus_zero ≡ true)
unfolding le of_bits
zero_lies_at_zero = (refl, refl)

pub nan_outside : (lo hi : Float) → within_of nan lo hi ≡ false
unfolding le
nan_outside nan hi = refl
nan_outside (inf s) hi = refl
nan_outside (fin s m e) hi = refl

pub zeros_differ : (same_bits_of zero· minus_zero ≡ false) × (same_bits_of minus_zero zero· ≡ false)
unfolding same_bits_of to_bits of_bits
zeros_differ = (refl, refl)

-- every NaN is this one in the definitions
pub nan_same : same_bits_of nan nan ≡ true
unfolding same_bits_of to_bits
nan_same = refl
