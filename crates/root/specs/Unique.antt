-- A number has one root: of two f64s nearest to it neither is the lower, and an f64 with no minus sign is known by its units.
use Rattle.std.specs.Prelude.{◌≡◌, refl, true, false, ℕ, zero, suc, ◌+◌, ◌-◌, ◌*◌, ◌/◌, ◌^◌, ◌<◌, T, Float}
use Rattle.std.proofs.Common.{sym, ap, ◌∙◌, add_comm, lt_of_not-le, le_antisymm, le_of_suc-le-suc, lt_irrefl, lt_trans}
use Rattle.std.specs.Float.{nan, inf, fin, binary64}
use Rattle.std.specs.Float.Ieee.{size, fits, of_bits, to_bits}
use Rattle.std.specs.Float.Ieee.Bits.{of_bits-to_bits}
use Rattle.root.specs.Root.{units, plus, Nearest, IsRoot}

-- as `to_bits` has it, with no sign
bits_of_units : ℕ → ℕ
bits_of_units n = let k = size n - 53 in 0 + k * 2 ^ 52 + n / 2 ^ k

by_units : (x : Float) → T (plus x) → to_bits binary64 x ≡ bits_of_units (units x)
unfolding to_bits bits_of_units
by_units nan p = absurd p
by_units (inf s) p = absurd p
by_units (fin true m e) p = absurd p
by_units (fin false m e) p = refl

pub same_units : (x y : Float) → T (fits binary64 x) → T (fits binary64 y) → T (plus x) → T (plus y) → units x ≡ units y → x ≡ y
same_units x y f g p q e =
    sym (of_bits-to_bits binary64 x f) ∙ ap (λ (b : ℕ). of_bits binary64 b) (by_units x p ∙ ap bits_of_units e ∙ sym (by_units y q)) ∙ of_bits-to_bits binary64 y g

not_lower : (x r r' : Float) → Nearest x r → Nearest x r' → units r < units r' → ⊥
not_lower x r r' n n' l =
    lt_irrefl _ (lt_trans (n'.above_lower r n.an_f64 n.not_minus l) (rw (add_comm (units r') (units r)) at (n.below_higher r' n'.an_f64 n'.not_minus l)))

one_nearest : (x r r' : Float) → Nearest x r → Nearest x r' → r ≡ r'
one_nearest x r r' n n' =
    same_units r r' n.an_f64 n'.an_f64 n.not_minus n'.not_minus
    (le_antisymm (le_of_suc-le-suc (lt_of_not-le (not_lower x r' r n' n))) (le_of_suc-le-suc (lt_of_not-le (not_lower x r r' n n'))))

pub one_root : (x r r' : Float) → IsRoot x r → IsRoot x r' → r ≡ r'
one_root nan r r' h k = h ∙ sym k
one_root (inf s) r r' h k = h ∙ sym k
one_root (fin s zero e) r r' h k = h ∙ sym k
one_root (fin true (suc m) e) r r' h k = h ∙ sym k
one_root (fin false (suc m) e) r r' h k = one_nearest (fin false (suc m) e) r r' h k
