-- How many units an f64 is, by the fields of its bits: of a positive finite one that is taken to its bits, and of one that is made from bits.
use Rattle.std.specs.Prelude.{◌≡◌, refl, Bool, true, false, not, cond, ℕ, zero, suc, ◌+◌, ◌*◌, ◌/◌, ◌%◌, ◌^◌, ◌<◌, T, leb, eqb, Float}
use Rattle.std.proofs.Common.{sym, ap, ◌∙◌, subst, mul-div_cancel, mod-eq_of_lt, pos_of_ne-zero, arith, pow_pos, leb-false, ne_eqb}
use Rattle.std.specs.Float.{nan, inf, fin, binary64}
use Rattle.std.specs.Float.Ieee.{down, odd, fits, of_fields, of_bits, to_bits}
use Rattle.std.specs.Float.Ieee.Fits.{down_pos}
use Rattle.std.specs.Float.Ieee.Bits.{of_bits-to_bits}
use Rattle.std.specs.Float.Ieee.Exact.{HasValue, odd_sign}
use Rattle.std.specs.Float.Ieee.Positive.{positive, value_pos}
use Rattle.std.proofs.lemmas.Bool.{eqb-false, lt-leb}
use Rattle.root.specs.Root.{units, plus}

-- an exponent's field k and the digits t below the leading one
abbrev pub value : ℕ → ℕ → ℕ
value zero t = t * 2 ^ 0
value (suc k) t = (2 ^ 52 + t) * 2 ^ k

pub units_is : (x : Float) (v : ℕ) → HasValue x false v (2 ^ 1074) → units x ≡ v
units_is nan v h = absurd h
units_is (inf s) v h = absurd h
units_is (fin s m e) v h = ap (λ (x : ℕ). x / down e) h.1 ∙ mul-div_cancel v (down_pos e)

pub plus_is : (x : Float) (v : ℕ) → HasValue x false v (2 ^ 1074) → T (plus x)
plus_is nan v h = absurd h
plus_is (inf s) v h = absurd h
plus_is (fin s m e) v h = subst (λ (b : Bool). T (not b)) (sym h.0) tt

-- the fields of a positive finite f64 of n units
record Fields (s : Bool) (k t n : ℕ) : Type 0 where
  not_minus : s ≡ false
  finite : k ≡ 2047 → ⊥
  positive : 0 < n
  is : n ≡ value k t

fields : (s : Bool) (k t : ℕ) (x : Float) → T (positive x) → (k ≡ 2047 → ⊥) → HasValue x s (value k t) (2 ^ 1074) → Fields s k t (units x)
fields s k t nan p n h = absurd p
fields s k t (inf z) p n h = absurd p
fields s k t (fin true m e) p n h = absurd p
fields s k t (fin false m e) p n h =
    let i : units (fin false m e) ≡ value k t = units_is (fin false m e) (value k t) (refl, h.1) in
    record {
      not_minus = sym h.0;
      finite = n;
      positive = subst (λ (v : ℕ). 0 < v) (sym i) (value_pos (fin false m e) (value k t) (2 ^ 1074) p (pow_pos 1074) (refl, h.1));
      is = i;
    }

no_number : (b s : Bool) → T (positive (cond b (inf s) nan)) → ⊥
no_number true s p = p
no_number false s p = p

read : (s : Bool) (k t : ℕ) → T (positive (of_fields binary64 s k t)) → Fields s k t (units (of_fields binary64 s k t))
unfolding of_fields
read s zero t p = fields s 0 t (odd 53 s t 0 1074) p (λ e. omega (arith, e)) (odd_sign 53 s t 0 1074)
read s (suc k) t p = go (eqb (suc k) 2047) refl p
  where
    go : (b : Bool) → eqb (suc k) 2047 ≡ b → let x = cond b (cond (eqb t 0) (inf s) nan) (odd 53 s (2 ^ 52 + t) k 1074) in T (positive x) → Fields s (suc k) t (units x)
    go true e q = absurd (no_number (eqb t 0) s q)
    go false e q = fields s (suc k) t (odd 53 s (2 ^ 52 + t) k 1074) q (eqb-false (suc k) 2047 e) (odd_sign 53 s (2 ^ 52 + t) k 1074)

-- a positive finite f64 whose bits are b, in units
pub record Read (b n : ℕ) : Type 0 where
  pub some : 0 < b
  pub finite : b < 0x7ff0_0000_0000_0000
  pub is : n ≡ value (b / 2 ^ 52) (b % 2 ^ 52)

not_at : (b : ℕ) → b < 2 ^ 63 → (b / 2 ^ 52 ≡ 2047 → ⊥) → b < 0x7ff0_0000_0000_0000
not_at b h n = omega arith

of_fields_lem : (b n : ℕ) → Fields (leb (2 ^ 63) b) (b % 2 ^ 63 / 2 ^ 52) (b % 2 ^ 52) n → Read b n
of_fields_lem b n r =
    let low : b < 2 ^ 63 = leb-false (2 ^ 63) b r.not_minus in
    let same : b % 2 ^ 63 ≡ b = mod-eq_of_lt low in
    let is : n ≡ value (b / 2 ^ 52) (b % 2 ^ 52) = rw same at r.is in
    record { some = pos_of_ne-zero (λ z. let e : n ≡ 0 = rw z at is in omega (arith, r.positive)); finite = not_at b low (rw same at r.finite); is = is }

read_at : (b : ℕ) → T (positive (of_bits binary64 b)) → Read b (units (of_bits binary64 b))
unfolding of_bits
read_at b p = of_fields_lem b _ (read (leb (2 ^ 63) b) (b % 2 ^ 63 / 2 ^ 52) (b % 2 ^ 52) p)

pub bits_read : (x : Float) → T (fits binary64 x) → T (positive x) → Read (to_bits binary64 x) (units x)
bits_read x f p =
    let e = of_bits-to_bits binary64 x f in
    subst (λ (y : Float). Read (to_bits binary64 x) (units y)) e (read_at (to_bits binary64 x) (subst (λ (y : Float). T (positive y)) (sym e) p))

pub write : (k t : ℕ) → k < 2046 → HasValue (of_fields binary64 false (suc k) t) false (value (suc k) t) (2 ^ 1074)
unfolding of_fields
write k t h = rw (ne_eqb (suc k) 2047 (λ e. omega (arith, h, e))) (odd_sign 53 false (2 ^ 52 + t) k 1074)

pub written : (k t : ℕ) → k < 2046 → t < 2 ^ 52 → HasValue (of_bits binary64 (suc k * 2 ^ 52 + t)) false (value (suc k) t) (2 ^ 1074)
unfolding of_bits
written k t h l =
    let b = suc k * 2 ^ 52 + t in
    let s : leb (2 ^ 63) b ≡ false = lt-leb (2 ^ 63) b (omega arith) in
    let f : b % 2 ^ 63 / 2 ^ 52 ≡ suc k = omega arith in
    let d : b % 2 ^ 52 ≡ t = omega arith in
    rw (s, f, d) (write k t h)
