-- What the steps give is the root, correctly rounded. With H half a unit in the result's last place, x is M · H², the pencil finds the root Q of M, rounded down,
-- and the result is the even one of Q and Q + 1, times H.
use Rattle.std.specs.Prelude.{◌≡◌, refl, Bool, true, false, cond, ℕ, zero, suc, ◌+◌, ◌-◌, ◌*◌, ◌/◌, ◌%◌, ◌^◌, ◌≤◌, ◌<◌, T, eqb, Float}
use Rattle.std.proofs.Common.{sym, ap, ◌∙◌, subst, mul_assoc, mul_left_comm, arith, eqb-true, pow-add, pow_pos}
use Rattle.std.proofs.Math.Nat.{pow-succ'}
use Rattle.std.proofs.lemmas.Bool.{eqb-false}
use Rattle.std.specs.Float.{nan, inf, fin, binary64}
use Rattle.std.specs.Float.Ieee.{odd, fits, lt, of_fields, of_bits}
use Rattle.std.specs.Float.Ieee.Bits.{of_bits-fits}
use Rattle.std.specs.Float.Ieee.Exact.{HasValue}
use Rattle.num.specs.F64.{bits, bits_of}
use Rattle.root.specs.Root.{units, Nearest, IsRoot}
use Rattle.root.specs.Steps.{pencil_of, digits, power, radicand_of, rounded_of, packed_of, root_bits_of, sqrt_of}
use Rattle.root.specs.Pencil.{RootOf, pencil_law, pencil_ge, pencil_le}
use Rattle.root.specs.Units.{units_is, plus_is, written, bits_read}
use Rattle.root.specs.Digits.{Scaled, scaled, even_power}
use Rattle.root.specs.Tests.{zero_not_above, zero_not_below, minus_not_above, minus_below, plus_above, finite_below, between}
use Rattle.root.specs.Grid.{on_grid}
use Rattle.root.proofs.Middle.{lower, higher}

-- x in units, times 2^1074, is M · H²
scale : (m a : ℕ) → m * 2 ^ 54 * (2 ^ a * 2 ^ a) ≡ m * 2 ^ (54 + (a + a))
scale m a = mul_assoc m (2 ^ 54) (2 ^ a * 2 ^ a) ∙ ap (λ (x : ℕ). m * x) (ap (λ (x : ℕ). 2 ^ 54 * x) (sym (pow-add 2 a a)) ∙ sym (pow-add 2 54 (a + a)))

parts : (b : Bool) (d p h : ℕ) → p / 2 ≡ suc (suc h) → eqb (p % 2) 1 ≡ b → d * 2 ^ (p + 50) ≡ cond b (2 * d) d * 2 ^ (54 + (h + h))
parts true d p h half odd =
    let o = eqb-true (p % 2) 1 odd in
    let e : p + 50 ≡ suc (54 + (h + h)) = omega arith in
    ap (λ (x : ℕ). d * 2 ^ x) e ∙ ap (λ (x : ℕ). d * x) (pow-succ' 2 _) ∙ mul_left_comm d 2 _ ∙ sym (mul_assoc 2 d _)
parts false d p h half odd =
    let o = eqb-false (p % 2) 1 odd in
    let e : p + 50 ≡ 54 + (h + h) = omega arith in
    ap (λ (x : ℕ). d * 2 ^ x) e

exact : (n d p h : ℕ) → p / 2 ≡ suc (suc h) → n * 2 ^ 1024 ≡ d * 2 ^ p → n * 2 ^ 1074 ≡ radicand_of d p * 2 ^ 54 * (2 ^ h * 2 ^ h)
exact n d p h half same =
    sym (mul_assoc n (2 ^ 1024) (2 ^ 50))
    ∙ ap (λ (x : ℕ). x * 2 ^ 50) same
    ∙ mul_assoc d (2 ^ p) (2 ^ 50)
    ∙ ap (λ (x : ℕ). d * x) (sym (pow-add 2 p 50))
    ∙ parts (eqb (p % 2) 1) d p h half refl
    ∙ sym (scale (radicand_of d p) h)

near_by : (x r : Float) (Q q h M : ℕ) → T (fits binary64 r) → HasValue r false (2 * q * 2 ^ h) (2 ^ 1074) → q ≡ rounded_of Q → RootOf M Q → M % 2 ≡ 0 → 2 ^ 53 ≤ Q → units x * 2 ^ 1074 ≡ M * (2 ^ h * 2 ^ h) → Nearest x r
near_by x r Q q h M f v rounds at even full e =
    let u = units_is r (2 * q * 2 ^ h) v in
    let w : 2 ^ 52 ≤ q = omega arith in
    record {
      an_f64 = f;
      not_minus = plus_is r (2 * q * 2 ^ h) v;
      above_lower = λ y a b l. rw (u, e) (lower Q q (2 ^ h) M (units y) rounds (pow_pos h) at even full (on_grid y q h a b w) (rw u at l));
      below_higher = λ y a b l. rw (u, e) (higher Q q (2 ^ h) M (units y) rounds (pow_pos h) at even full (on_grid y q h a b w) (rw u at l));
    }

-- the result's bits: the field, then the digits of q without the first
placed : (q h k : ℕ) → 2 ^ 52 ≤ q → q < 2 ^ 53 → k ≡ suc (suc h) → k < 2046 → HasValue (bits (packed_of k q)) false (2 * q * 2 ^ h) (2 ^ 1074)
placed q h k l g e small =
    let t = q % 2 ^ 52 in
    let lead : 2 ^ 52 + t ≡ q = omega arith in
    let much : (2 ^ 52 + t) * 2 ^ suc h ≡ 2 * q * 2 ^ h = ap (λ (x : ℕ). x * 2 ^ suc h) lead ∙ ap (λ (x : ℕ). q * x) (pow-succ' 2 h) ∙ mul_left_comm q 2 (2 ^ h) ∙ sym (mul_assoc 2 q (2 ^ h)) in
    subst (λ (v : ℕ). HasValue (bits (packed_of k q)) false v (2 ^ 1074)) much
    (subst (λ (f : ℕ). HasValue (bits (packed_of f q)) false ((2 ^ 52 + t) * 2 ^ suc h) (2 ^ 1074)) (sym e) (written (suc h) t (omega arith) (omega arith)))

near : (x : Float) (d p : ℕ) → Scaled d p (units x) → Nearest x (bits (root_bits_of d p))
near x d p s =
    let m = radicand_of d p in
    let Q = pencil_of m in
    let h = p / 2 - 2 in
    let half : p / 2 ≡ suc (suc h) = omega (arith, s.least) in
    let e = even_power (eqb (p % 2) 1) d s.low s.high in
    let few : m < 2 ^ 54 = omega (arith, e.1) in
    let full = pencil_ge m e.0 few in
    let top = pencil_le m e.1 in
    near_by x (bits (root_bits_of d p)) Q (rounded_of Q) h (m * 2 ^ 54) (of_bits-fits binary64 (root_bits_of d p))
    (placed (rounded_of Q) h (p / 2) (omega (arith, full)) (omega (arith, top)) half (omega (arith, s.within)))
    refl
    (pencil_law m few)
    (omega arith)
    full
    (exact (units x) d p h half s.same)

no_number : sqrt_of nan ≡ nan
unfolding sqrt_of lt of_bits of_fields odd
no_number = refl

infinite : (s : Bool) → sqrt_of (inf s) ≡ cond s nan (inf false)
unfolding sqrt_of lt of_bits of_fields odd
infinite true = refl
infinite false = refl

pub sqrt_is_root : (x : Float) → T (fits binary64 x) → IsRoot x (sqrt_of x)
unfolding sqrt_of
sqrt_is_root nan f = no_number
sqrt_is_root (inf s) f = infinite s
sqrt_is_root (fin s zero e) f = rw (zero_not_above s e, zero_not_below s e)
sqrt_is_root (fin true (suc m) e) f = rw (minus_not_above (suc m) e, minus_below m e)
sqrt_is_root (fin false (suc m) e) f =
    let x = fin false (suc m) e in
    let a = plus_above m e in
    let b = finite_below (suc m) e in
    let r = bits_read x f (between x a b) in
    rw (a, b) (near x (digits (bits_of x)) (power (bits_of x)) (subst (λ (n : ℕ). Scaled (digits (bits_of x)) (power (bits_of x)) n) (sym r.is) (scaled (bits_of x) r.some r.finite)))
