-- An f64 with no minus sign by its bits: how many units it is, that more bits are more units, and that c · 2^k units are the bits c + k · 2^52.
use Rattle.std.specs.Prelude.{◌≡◌, refl, Bool, true, false, cond, ℕ, zero, suc, ◌+◌, ◌-◌, ◌*◌, ◌/◌, ◌%◌, ◌^◌, ◌≤◌, ◌<◌, T, leb, eqb, ltb, Float}
use Rattle.std.proofs.Common.{sym, ap, ◌∙◌, subst, mod-eq_of_lt, lt_trans, mul-lt-mul_of_pos_right, lt_of_not-le, arith, ltb-true, ltb-false, eqb-true, pow_pos}
use Rattle.std.proofs.Math.Nat.{pow-succ'}
use Rattle.std.proofs.lemmas.Bool.{lt-leb, eqb-false}
use borrow.Table.Steps.{cases}
use Rattle.std.specs.Float.{nan, inf, fin, binary64}
use Rattle.std.specs.Float.Ieee.{fits, of_fields, of_bits}
use Rattle.std.specs.Float.Ieee.Bits.{of_bits-to_bits}
use Rattle.std.specs.Float.Ieee.Exact.{HasValue, odd_sign}
use Rattle.num.specs.F64.{bits, bits_of}
use Rattle.num.specs.Numbers.{plus_bits}
use Rattle.root.specs.Root.{units, plus}
use Rattle.root.specs.Units.{value, units_is, plus_is, write}

-- the bits of infinity: below them are those of the finite ones
abbrev pub inf_bits : ℕ
inf_bits = 0x7ff0_0000_0000_0000

abbrev pub units_at : ℕ → ℕ
units_at b = value (b / 2 ^ 52) (b % 2 ^ 52)

fields : (k t : ℕ) → k < 2047 → HasValue (of_fields binary64 false k t) false (value k t) (2 ^ 1074)
unfolding of_fields
fields zero t h = odd_sign 53 false t 0 1074
fields (suc k) t h = write k t (omega arith)

at_bits : (b : ℕ) → b < inf_bits → HasValue (bits b) false (units_at b) (2 ^ 1074)
unfolding of_bits
at_bits b h =
    let s : leb (2 ^ 63) b ≡ false = lt-leb (2 ^ 63) b (omega arith) in
    let f : b % 2 ^ 63 ≡ b = mod-eq_of_lt (omega arith) in
    rw (s, f) (fields (b / 2 ^ 52) (b % 2 ^ 52) (omega arith))

pub units_at_lem : (b : ℕ) → b < inf_bits → units (bits b) ≡ units_at b
units_at_lem b h = units_is (bits b) (units_at b) (at_bits b h)

pub plus_at : (b : ℕ) → b < inf_bits → T (plus (bits b))
plus_at b h = plus_is (bits b) (units_at b) (at_bits b h)

-- ---- more bits, more units

value_up : (k t : ℕ) → value k t < value k (t + 1)
value_up zero t = omega arith
value_up (suc k) t = mul-lt-mul_of_pos_right (omega arith) (pow_pos k)

value_over : (k : ℕ) → value k (2 ^ 52 - 1) < value (suc k) 0
value_over zero = omega arith
value_over (suc k) = omega (arith, pow_pos k, pow-succ' 2 k)

next : (b : ℕ) → units_at b < units_at (suc b)
next b =
    cases (eqb (b % 2 ^ 52) (2 ^ 52 - 1))
    (λ e.
    let last : b % 2 ^ 52 ≡ 2 ^ 52 - 1 = eqb-true (b % 2 ^ 52) (2 ^ 52 - 1) e in
    let k : suc b / 2 ^ 52 ≡ suc (b / 2 ^ 52) = omega arith in
    let t : suc b % 2 ^ 52 ≡ 0 = omega arith in
    rw (k, t, last) (value_over (b / 2 ^ 52)))
    (λ e.
    let before = eqb-false (b % 2 ^ 52) (2 ^ 52 - 1) e in
    let k : suc b / 2 ^ 52 ≡ b / 2 ^ 52 = omega arith in
    let t : suc b % 2 ^ 52 ≡ b % 2 ^ 52 + 1 = omega arith in
    rw (k, t) (value_up (b / 2 ^ 52) (b % 2 ^ 52)))

pub more_bits : (b d : ℕ) → b < d → units_at b < units_at d
more_bits b zero h = absurd (omega arith)
more_bits b (suc d) h =
    cases (ltb b d)
    (λ l. lt_trans (more_bits b d (ltb-true b d l)) (next d))
    (λ l. let e : b ≡ d = omega (arith, ltb-false b d l) in rw e (next d))

-- ---- the bits of an f64 with no minus sign

no_number : (b s : Bool) → T (plus (cond b (inf s) nan)) → ⊥
no_number true s p = p
no_number false s p = p

not_2047 : (s : Bool) (t : ℕ) → T (plus (of_fields binary64 s 2047 t)) → ⊥
unfolding of_fields
not_2047 s t p = no_number (eqb t 0) s p

not_there : (b : ℕ) → inf_bits ≤ b → b < 2 ^ 63 → T (plus (bits b)) → ⊥
unfolding of_bits
not_there b h l p =
    let k : b % 2 ^ 63 / 2 ^ 52 ≡ 2047 = omega arith in
    not_2047 (leb (2 ^ 63) b) (b % 2 ^ 52) (rw k at p)

low : (x : Float) → T (fits binary64 x) → T (plus x) → bits_of x < 2 ^ 63
low nan f p = absurd p
low (inf s) f p = absurd p
low (fin true m e) f p = absurd p
low (fin false m e) f p = plus_bits m e f

pub finite_bits : (x : Float) → T (fits binary64 x) → T (plus x) → bits_of x < inf_bits
finite_bits x f p =
    lt_of_not-le (λ (g : inf_bits ≤ bits_of x). not_there (bits_of x) g (low x f p) (subst (λ (y : Float). T (plus y)) (sym (of_bits-to_bits binary64 x f)) p))

pub units_of : (x : Float) → T (fits binary64 x) → T (plus x) → units x ≡ units_at (bits_of x)
units_of x f p = ap units (sym (of_bits-to_bits binary64 x f)) ∙ units_at_lem (bits_of x) (finite_bits x f p)

-- ---- c · 2^k units

-- c has all its digits, or a unit is the smallest
pub data Full (c k : ℕ) : Type 0 where
  normal : 2 ^ 52 ≤ c → Full c k
  least : k ≡ 0 → Full c k

placed_normal : (c k : ℕ) → 2 ^ 52 ≤ c → c ≤ 2 ^ 53 → units_at (c + k * 2 ^ 52) ≡ c * 2 ^ k
placed_normal c k l h =
    cases (ltb c (2 ^ 53))
    (λ b.
    let i = ltb-true c (2 ^ 53) b in
    let f : (c + k * 2 ^ 52) / 2 ^ 52 ≡ suc k = omega arith in
    let t : (c + k * 2 ^ 52) % 2 ^ 52 ≡ c - 2 ^ 52 = omega arith in
    let e : 2 ^ 52 + (c - 2 ^ 52) ≡ c = omega arith in
    rw (f, t, e) refl)
    (λ b.
    let i = ltb-false c (2 ^ 53) b in
    let top : c ≡ 2 ^ 53 = omega arith in
    let f : (c + k * 2 ^ 52) / 2 ^ 52 ≡ suc (suc k) = omega arith in
    let t : (c + k * 2 ^ 52) % 2 ^ 52 ≡ 0 = omega arith in
    rw (f, t) (omega (arith, pow-succ' 2 k, ap (λ (x : ℕ). x * 2 ^ k) top)))

placed_least : (c : ℕ) → c ≤ 2 ^ 53 → units_at (c + 0 * 2 ^ 52) ≡ c * 2 ^ 0
placed_least c h =
    cases (ltb c (2 ^ 52))
    (λ b.
    let i = ltb-true c (2 ^ 52) b in
    let z : c + 0 * 2 ^ 52 ≡ c = omega arith in
    let f : c / 2 ^ 52 ≡ 0 = omega arith in
    let t : c % 2 ^ 52 ≡ c = omega arith in
    rw (z, f, t) refl)
    (λ b. placed_normal c 0 (ltb-false c (2 ^ 52) b) h)

pub placed : (c k : ℕ) → Full c k → c ≤ 2 ^ 53 → units_at (c + k * 2 ^ 52) ≡ c * 2 ^ k
placed c k (normal l) h = placed_normal c k l h
placed c k (least e) h = subst (λ (k : ℕ). units_at (c + k * 2 ^ 52) ≡ c * 2 ^ k) (sym e) (placed_least c h)
