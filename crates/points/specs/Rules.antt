-- The rules of docs/RULES.md for max, min, clamp, powi and sums, of the definitions that the helpers' contracts cite.
use Rattle.std.specs.Prelude.{◌≡◌, refl, Bool, true, false, cond, [], ◌∷◌, T, Float}
use Rattle.std.proofs.Common.{sym, ap, subst, ◌∙◌}
use Rattle.std.specs.Float.{nan, inf, fin}
use Rattle.std.specs.Float.Ieee.{add, sum, round, neg, lt, eq, ne, of_bits, of_fields}
use Rattle.std.specs.Float.Ieee.Compare.{differs_from_itself}
use Rattle.num.specs.F64.{◌⊗◌, bits, zero·, one·}
use Rattle.num.specs.Helpers.{max_of, min_of, clamp_of, powi_of, powi_from, sum_of}
use Rattle.order.specs.Negation.{neg_neg}

-- no comparison holds beside a NaN
lt_nan : (x : Float) → lt x nan ≡ false
unfolding lt
lt_nan nan = refl
lt_nan (inf s) = refl
lt_nan (fin s m e) = refl

eq_nan : (x : Float) → eq x nan ≡ false
unfolding eq
eq_nan nan = refl
eq_nan (inf s) = refl
eq_nan (fin s m e) = refl

-- max and min drop a NaN beside a number
pub max_drops_first : (b : Float) → max_of nan b ≡ b
unfolding max_of lt eq ne
max_drops_first nan = refl
max_drops_first (inf s) = refl
max_drops_first (fin s m e) = refl

pub max_drops_second : (a : Float) → max_of a nan ≡ a
unfolding max_of lt
max_drops_second a = rw (lt_nan a, eq_nan a) (by (ne a a) refl)
  where
    by : (t : Bool) → ne a a ≡ t → cond t nan a ≡ a
    by true e = sym (differs_from_itself a (subst T (sym e) tt))
    by false e = refl

pub min_drops_first : (b : Float) → min_of nan b ≡ b
unfolding min_of neg
min_drops_first b = ap neg (max_drops_first (neg b)) ∙ neg_neg b

pub min_drops_second : (a : Float) → min_of a nan ≡ a
unfolding min_of neg
min_drops_second a = ap neg (max_drops_second (neg a)) ∙ neg_neg a

abbrev minus_zero : Float
minus_zero = bits 0x8000_0000_0000_0000

-- and hold plus zero the larger
pub zeros_by_size : (max_of zero· minus_zero ≡ zero·) × (max_of minus_zero zero· ≡ zero·) × (min_of zero· minus_zero ≡ minus_zero) × (min_of minus_zero zero· ≡ minus_zero)
unfolding max_of min_of neg lt eq ne add sum round of_bits of_fields
zeros_by_size = (refl, refl, refl, refl)

-- clamp keeps a NaN, and what is neither below nor above: a zero's sign with it
pub clamp_keeps_nan : (low high : Float) → clamp_of nan low high ≡ nan
unfolding clamp_of lt
clamp_keeps_nan low high = rw (lt_nan high)

pub clamp_keeps : (x low high : Float) → lt x low ≡ false → lt high x ≡ false → clamp_of x low high ≡ x
unfolding clamp_of
clamp_keeps x low high p q = rw (p, q)

-- powi multiplies from the low bit
pub powi_by_low_bits : (x : Float) → powi_of x 6 ≡ one· ⊗ (x ⊗ x) ⊗ (x ⊗ x ⊗ (x ⊗ x))
unfolding powi_of powi_from
powi_by_low_bits x = refl

-- a sum starts at plus zero
pub sum_of_minus_zeros : sum_of (minus_zero ∷ minus_zero ∷ minus_zero ∷ minus_zero ∷ []) ≡ zero·
unfolding add sum round of_bits of_fields
sum_of_minus_zeros = refl
