-- An f64 by its sign and its units of 2^-1074.
use Rattle.std.specs.Prelude.{◌≡◌, refl, Bool, true, false, not, ◌&&◌, cond, ℕ, zero, suc, ◌+◌, ◌*◌, ◌/◌, ◌%◌, ◌^◌, ◌<◌, T, ltb, leb, eqb, Float}
use Rattle.std.proofs.Common.{sym, ap, ◌∙◌, mul-div_cancel, zero-mul, arith, leb→le, pow_pos}
use Rattle.std.proofs.Math.Nat.{zero-div}
use Rattle.std.specs.Float.{nan, inf, fin, binary64}
use Rattle.std.specs.Float.Ieee.{up, down, neg, fits}
use Rattle.std.specs.Float.Ieee.Fits.{and_l, and_r, down_pos}
use Rattle.std.specs.Float.Ieee.Exact.{HasValue}
use Rattle.std.specs.Float.Ieee.Scale.{finite}
use Rattle.root.specs.Root.{units}
use Rattle.root.specs.Units.{units_is}
use Rattle.root.specs.Grid.{whole}

-- 2^1074, the units in 1
unfoldable pub U : ℕ
U = 2 ^ 1074

pub U_pos : 0 < U
unfolding U
U_pos = pow_pos 1074

abbrev pub sign_of : Float → Bool
sign_of nan = false
sign_of (inf s) = s
sign_of (fin s m e) = s

-- the two sides of a number v with the sign s, one of them 0
abbrev pub pos_side : Bool → ℕ → ℕ
pos_side s v = cond s 0 v

abbrev pub neg_side : Bool → ℕ → ℕ
neg_side s v = cond s v 0

pub sides : (s : Bool) (v : ℕ) → pos_side s v + neg_side s v ≡ v
sides true v = omega arith
sides false v = omega arith

pub value_of : (x : Float) → T (fits binary64 x) → T (finite x) → HasValue x (sign_of x) (units x) U
unfolding U fits
value_of nan f h = absurd h
value_of (inf s) f h = absurd h
value_of (fin s zero e) f h = (refl, rw (zero-mul (up e), zero-mul (2 ^ 1074), zero-div (down e), zero-mul (down e)))
value_of (fin s (suc m) e) f h =
    let A = eqb (suc m % 2) 1 in
    let B = ltb (suc m) (2 ^ 53) in
    let C = leb (down e) (2 ^ 1074) in
    let D = ltb (suc m * up e) (2 ^ 1024 * down e) in
    let w = whole (suc m) e (leb→le (down e) (2 ^ 1074) (and_r (A && B) C (and_l (A && B && C) D f))) in
    (refl, w.is ∙ sym (ap (λ (n : ℕ). n * down e) (ap (λ (n : ℕ). n / down e) w.is ∙ mul-div_cancel (suc m * 2 ^ w.t) (down_pos e))))

-- it has one sign and one number of units
pub one_value : (y : Float) (z : Bool) (g : ℕ) → HasValue y z g U → (sign_of y ≡ z) × (units y ≡ g)
unfolding U
one_value nan z g h = absurd h
one_value (inf s) z g h = absurd h
one_value (fin s m e) z g h = (h.0, units_is (fin false m e) g (refl, h.1))

pub turned : (y : Float) (s : Bool) (v : ℕ) → HasValue y s v U → HasValue (neg y) (not s) v U
unfolding neg
turned nan s v h = h
turned (inf z) s v h = h
turned (fin z m e) s v h = (ap not h.0, h.1)
