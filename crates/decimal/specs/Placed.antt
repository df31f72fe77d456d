-- The f64 c · 2^k units, c the whole number nearest num · 2^1074 / (den · 2^k), is the nearest num / den.
use Rattle.std.specs.Prelude.{◌≡◌, refl, not, ℕ, zero, suc, ◌+◌, ◌*◌, ◌%◌, ◌^◌, ◌≤◌, ◌<◌, T, Float}
use Rattle.std.proofs.Common.{sym, ap, ◌∙◌, subst, mul_assoc, mul_left_comm, mul-pos, le_of_mul-le-mul_right, arith, pow_pos}
use Rattle.std.proofs.Math.Nat.{pow-succ'}
use Rattle.std.specs.Float.{nan, inf, fin, binary64}
use Rattle.std.specs.Float.Ieee.{fits, is_nan}
use Rattle.std.specs.Float.Ieee.Bits.{of_bits-fits, to_bits-of_bits}
use Rattle.num.specs.F64.{bits, bits_of}
use Rattle.root.specs.Root.{units, plus}
use Rattle.root.specs.Grid.{on_grid}
use Rattle.decimal.specs.Nearest.{Nearest}
use Rattle.decimal.specs.Whole.{Whole}
use Rattle.decimal.specs.Sides.{Sides, fine, coarse}
use Rattle.decimal.specs.Bits.{inf_bits, units_at_lem, plus_at, Full, normal, least, placed}

-- the result's number of digits: k is 0, or the fraction has all 53 in units of 2^k
abbrev pub Reached : ℕ → ℕ → ℕ → Type 0
Reached X den zero = Unit {0}
Reached X den (suc j) = 2 ^ 52 * (2 * (den * 2 ^ j)) ≤ X

-- u in units of the last place
twice : (den j : ℕ) → den * 2 ^ suc j ≡ 2 * (den * 2 ^ j)
twice den j = ap (λ (x : ℕ). den * x) (pow-succ' 2 j) ∙ mul_left_comm den 2 (2 ^ j)

-- all digits
pub all_digits : (X u c : ℕ) → 0 < u → Whole X u c → 2 ^ 52 * u ≤ X → 2 ^ 52 ≤ c
all_digits X u c h w l =
    let k : 2 ^ 53 * u ≤ (2 * c + 1) * u = omega (arith, w.not_over) in
    let m : 2 ^ 53 ≤ 2 * c + 1 = le_of_mul-le-mul_right k h in
    omega arith

pub full_of : (X den c k : ℕ) → 0 < den → Whole X (den * 2 ^ k) c → Reached X den k → Full c k
full_of X den c zero p w r = least refl
full_of X den c (suc j) p w r = normal (all_digits X (den * 2 ^ suc j) c (mul-pos p (pow_pos (suc j))) w (rw (twice den j) r))

sides_of_lem : (X den c k : ℕ) → 0 < den → Whole X (den * 2 ^ k) c → Reached X den k → (y : Float) → T (fits binary64 y) → T (plus y) → Sides den X c (c * 2 ^ k) (units y)
sides_of_lem X den c zero p w r y f q =
    let a : c ≡ c * 2 ^ 0 = omega arith in
    let b : den * 2 ^ 0 ≡ den = omega arith in
    subst (λ (v : ℕ). Sides den X c v (units y)) a (fine den X c (units y) (subst (λ (u : ℕ). Whole X u c) b w))
sides_of_lem X den c (suc j) p w r y f q =
    let full : 2 ^ 52 ≤ c = all_digits X (den * 2 ^ suc j) c (mul-pos p (pow_pos (suc j))) w (rw (twice den j) r) in
    let a : 2 * c * 2 ^ j ≡ c * 2 ^ suc j = sym (ap (λ (x : ℕ). c * x) (pow-succ' 2 j) ∙ mul_left_comm c 2 (2 ^ j) ∙ sym (mul_assoc 2 c (2 ^ j))) in
    subst (λ (v : ℕ). Sides den X c v (units y)) a
    (coarse den X c (2 ^ j) (units y) p (pow_pos j) (on_grid y c j f q full) (subst (λ (u : ℕ). Whole X u c) (twice den j) w) full r)

number : (x : Float) → T (plus x) → T (not (is_nan x))
unfolding is_nan
number nan p = absurd p
number (inf s) p = tt
number (fin s m e) p = tt

even_bits : (c k : ℕ) → c + k * 2 ^ 52 < inf_bits → c % 2 ≡ 0 → bits_of (bits (c + k * 2 ^ 52)) % 2 ≡ 0
even_bits c k h e =
    let b = c + k * 2 ^ 52 in
    let s : bits_of (bits b) ≡ b = to_bits-of_bits binary64 b (omega arith) (number (bits b) (plus_at b h)) in
    rw s (omega arith)

pub near_placed : (num den c k : ℕ) → 0 < den → c ≤ 2 ^ 53 → c + k * 2 ^ 52 < inf_bits → Whole (num * 2 ^ 1074) (den * 2 ^ k) c → Reached (num * 2 ^ 1074) den k → Nearest num den (bits (c + k * 2 ^ 52))
near_placed num den c k p h below w r =
    let b = c + k * 2 ^ 52 in
    let u : units (bits b) ≡ c * 2 ^ k = units_at_lem b below ∙ placed c k (full_of (num * 2 ^ 1074) den c k p w r) h in
    let s = sides_of_lem (num * 2 ^ 1074) den c k p w r in
    record {
      an_f64 = of_bits-fits binary64 b;
      not_minus = plus_at b below;
      above_lower = λ y f q. rw u (s y f q).lower;
      below_higher = λ y f q. rw u (s y f q).higher;
      even_at_tie = λ y f q d e. even_bits c k below ((s y f q).even (rw u at d) (rw u at e));
    }
