-- The digits of a positive finite f64 are from 2^52 up and below 2^53, a subnormal's by the count of its leading zeros.
use Rattle.std.specs.Prelude.{◌≡◌, refl, Bool, true, false, cond, ℕ, zero, suc, ◌+◌, ◌-◌, ◌*◌, ◌/◌, ◌%◌, ◌^◌, ◌≤◌, ◌<◌, eqb}
use Rattle.std.proofs.Common.{sym, ap, ◌∙◌, le_trans, lt_of_not-le, not-le_of_lt, mul-le-mul_right, mul-lt-mul_of_pos_right, mul_assoc, arith, pow-add, pow_pos, pow_mono}
use Rattle.std.proofs.Math.Dec.{eqb-suc-zero}
use Rattle.std.specs.Int.Count.{count_leading_zeros}
use Rattle.std.proofs.lemmas.Nat.{leading_top}
use Rattle.root.specs.Steps.{digits, power, radicand_of, root_bits_of}
use Rattle.root.specs.Units.{value}

-- b with z leading zeros, brought up by z - 11 places
pub record Brought (b z : ℕ) : Type 0 where
  pub some : 12 ≤ z
  pub all : z ≤ 63
  pub low : 2 ^ 52 ≤ b * 2 ^ (z - 11)
  pub high : b * 2 ^ (z - 11) < 2 ^ 53

brought_by : (b z j : ℕ) → z + suc j ≡ 64 → j < 52 → 2 ^ j ≤ b → b < 2 ^ suc j → Brought b z
brought_by b z j e k l h =
    let s = z - 11 in
    let e' : j + s ≡ 52 = omega arith in
    let e'' : suc j + s ≡ 53 = omega arith in
    let p : 2 ^ j * 2 ^ s ≡ 2 ^ 52 = sym (pow-add 2 j s) ∙ ap (λ (x : ℕ). 2 ^ x) e' in
    let q : 2 ^ suc j * 2 ^ s ≡ 2 ^ 53 = sym (pow-add 2 (suc j) s) ∙ ap (λ (x : ℕ). 2 ^ x) e'' in
    record {
      some = omega arith;
      all = omega arith;
      low = omega (arith, mul-le-mul_right (2 ^ s) l, p);
      high = omega (arith, mul-lt-mul_of_pos_right h (pow_pos s), q);
    }

pub brought : (b : ℕ) → 0 < b → b < 2 ^ 52 → Brought b (count_leading_zeros 64 b)
brought b h k =
    let t = leading_top 64 b h (omega arith) in
    brought_by b (count_leading_zeros 64 b) t.0 t.1 (lt_of_not-le (λ (g : 52 ≤ t.0). not-le_of_lt k (le_trans (pow_mono g) t.2))) t.2 t.3

-- digits d and power p of n units
pub record Scaled (d p n : ℕ) : Type 0 where
  pub low : 2 ^ 52 ≤ d
  pub high : d < 2 ^ 53
  pub least : 972 ≤ p
  pub within : p ≤ 3069
  pub same : n * 2 ^ 1024 ≡ d * 2 ^ p

pub scaled : (b : ℕ) → 0 < b → b < 0x7ff0_0000_0000_0000 → Scaled (digits b) (power b) (value (b / 2 ^ 52) (b % 2 ^ 52))
scaled b h l = go (b / 2 ^ 52) refl
  where
    go : (k : ℕ) → b / 2 ^ 52 ≡ k → Scaled (cond (eqb k 0) (b * 2 ^ (count_leading_zeros 64 b - 11)) (2 ^ 52 + b % 2 ^ 52)) (cond (eqb k 0) (1024 - (count_leading_zeros 64 b - 11)) (k + 1023)) (value k (b % 2 ^ 52))
    go zero e =
        let t = brought b h (omega arith) in
        let s = count_leading_zeros 64 b - 11 in
        let whole : s + (1024 - s) ≡ 1024 = omega arith in
        let own : b % 2 ^ 52 * 1 ≡ b = omega arith in
        record {
          low = t.low;
          high = t.high;
          least = omega arith;
          within = omega arith;
          same = ap (λ (x : ℕ). x * 2 ^ 1024) own ∙ sym (mul_assoc b (2 ^ s) (2 ^ (1024 - s)) ∙ ap (λ (x : ℕ). b * x) (sym (pow-add 2 s (1024 - s)) ∙ ap (λ (x : ℕ). 2 ^ x) whole));
        }
    go (suc k) e =
        let t = b % 2 ^ 52 in
        let whole : k + 1024 ≡ suc k + 1023 = omega arith in
        rw (eqb-suc-zero k)
        (record {
          low = omega arith;
          high = omega arith;
          least = omega arith;
          within = omega arith;
          same = mul_assoc (2 ^ 52 + t) (2 ^ k) (2 ^ 1024) ∙ ap (λ (x : ℕ). (2 ^ 52 + t) * x) (sym (pow-add 2 k 1024) ∙ ap (λ (x : ℕ). 2 ^ x) whole);
        })

-- what the pencil is given
pub even_power : (odd : Bool) (d : ℕ) → 2 ^ 52 ≤ d → d < 2 ^ 53 → (2 ^ 52 ≤ cond odd (2 * d) d) × (cond odd (2 * d) d ≤ 2 ^ 54 - 2)
even_power true d l h = (omega arith, omega arith)
even_power false d l h = (omega arith, omega arith)

-- the bounds on the way of b
pub record Bounds (b : ℕ) : Type 0 where
  pub few : digits b < 2 ^ 53
  pub given : radicand_of (digits b) (power b) < 2 ^ 54
  pub field : power b / 2 < 2 ^ 11

pub bounds : (b : ℕ) → 0 < b → b < 0x7ff0_0000_0000_0000 → Bounds b
bounds b h l =
    let s = scaled b h l in
    record { few = s.high; given = omega (arith, (even_power (eqb (power b % 2) 1) (digits b) s.low s.high).1); field = omega (arith, s.within) }

pub root_finite : {n : ℕ} (d p : ℕ) → Scaled d p n → root_bits_of d p < 0x7ff0_0000_0000_0000
root_finite d p s = omega (arith, s.within)
