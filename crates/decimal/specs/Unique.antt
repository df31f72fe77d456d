-- A fraction has one nearest f64: were one of two the lower, the fraction would lie in their middle and both would be even; but then there is an f64 between them.
use Rattle.std.specs.Prelude.{◌≡◌, Bool, cond, ℕ, suc, ◌+◌, ◌*◌, ◌%◌, ◌^◌, ◌≤◌, ◌<◌, T, ltb, Float}
use Rattle.std.proofs.Common.{sym, ap, ◌∙◌, add_comm, lt_of_not-le, le_antisymm, le_of_suc-le-suc, lt_irrefl, lt_trans, arith, ltb-true, ltb-false}
use Rattle.std.proofs.Math.Nat.{mul-lt-mul_of_pos_left, one-le-pow}
use borrow.Table.Steps.{cases}
use Rattle.std.specs.Float.{binary64}
use Rattle.std.specs.Float.Ieee.{fits, neg}
use Rattle.std.specs.Float.Ieee.Bits.{of_bits-fits}
use Rattle.num.specs.F64.{bits, bits_of}
use Rattle.root.specs.Root.{units, plus}
use Rattle.root.specs.Unique.{same_units}
use Rattle.decimal.specs.Nearest.{Nearest, Decimal}
use Rattle.decimal.specs.Bits.{inf_bits, units_at, units_at_lem, plus_at, finite_bits, units_of, more_bits}

-- fewer units, fewer bits
fewer : (x y : Float) → T (fits binary64 x) → T (fits binary64 y) → T (plus x) → T (plus y) → units x < units y → bits_of x < bits_of y
fewer x y f g p q l =
    lt_of_not-le (λ (h : bits_of y ≤ bits_of x). not_more (bits_of y) (bits_of x) h (rw (units_of x f p, units_of y g q) at l))
  where
    not_more : (b d : ℕ) → b ≤ d → units_at d < units_at b → ⊥
    not_more b d h l =
        cases (ltb b d)
        (λ t. lt_irrefl _ (lt_trans (more_bits b d (ltb-true b d t)) l))
        (λ t. let e : b ≡ d = omega (arith, ltb-false b d t) in lt_irrefl (units_at d) (rw e at l))

not_lower : (num den : ℕ) (r r' : Float) → 0 < den → Nearest num den r → Nearest num den r' → units r < units r' → ⊥
not_lower num den r r' h n n' l =
    let F = 2 * (num * 2 ^ 1074) in
    let a : F ≤ den * (units r' + units r) = n.below_higher r' n'.an_f64 n'.not_minus l in
    let b : den * (units r + units r') ≤ F = n'.above_lower r n.an_f64 n.not_minus l in
    let b' : den * (units r' + units r) ≤ F = rw (add_comm (units r') (units r)) b in
    let e : den * (units r' + units r) ≡ F = le_antisymm b' a in
    let e' : den * (units r + units r') ≡ F = rw (add_comm (units r) (units r')) e in
    let even : bits_of r % 2 ≡ 0 = n.even_at_tie r' n'.an_f64 n'.not_minus (λ i. lt_irrefl _ (rw i at l)) e in
    let even' : bits_of r' % 2 ≡ 0 = n'.even_at_tie r n.an_f64 n.not_minus (λ i. lt_irrefl _ (rw i at l)) e' in
    let fewer-bits : bits_of r < bits_of r' = fewer r r' n.an_f64 n'.an_f64 n.not_minus n'.not_minus l in
    let top : bits_of r' < inf_bits = finite_bits r' n'.an_f64 n'.not_minus in
    let m = suc (bits_of r) in
    let between : m < bits_of r' = apart (bits_of r) (bits_of r') fewer-bits even even' in
    let y = bits m in
    let is : units y ≡ units_at m = units_at_lem m (lt_trans between top) in
    let above : units r < units y = rw (is, units_of r n.an_f64 n.not_minus) (more_bits (bits_of r) m (lt_succ (bits_of r))) in
    let under : units y < units r' = rw (is, units_of r' n'.an_f64 n'.not_minus) (more_bits m (bits_of r') between) in
    let c : F ≤ den * (units y + units r) = n.below_higher y (of_bits-fits binary64 m) (plus_at m (lt_trans between top)) above in
    closer den F (units r) (units y) (units r') h e under c
  where
    lt_succ : (b : ℕ) → b < suc b
    lt_succ b = omega arith

    apart : (b d : ℕ) → b < d → b % 2 ≡ 0 → d % 2 ≡ 0 → suc b < d
    apart b d h e f = omega arith

    closer : (den F a b c : ℕ) → 0 < den → den * (c + a) ≡ F → b < c → F ≤ den * (b + a) → ⊥
    closer den F a b c h e l k = let m = mul-lt-mul_of_pos_left {m = b} {n = c} {k = den} l h in omega arith

pub one_nearest : (num den : ℕ) (r r' : Float) → 0 < den → Nearest num den r → Nearest num den r' → r ≡ r'
one_nearest num den r r' h n n' =
    same_units r r' n.an_f64 n'.an_f64 n.not_minus n'.not_minus
    (le_antisymm (le_of_suc-le-suc (lt_of_not-le (not_lower num den r' r h n' n))) (le_of_suc-le-suc (lt_of_not-le (not_lower num den r r' h n n'))))

pub one_decimal : (minus : Bool) (digits places : ℕ) (r r' : Float) → Decimal minus digits places r → Decimal minus digits places r' → r ≡ r'
one_decimal minus digits places r r' d d' =
    d.is ∙ ap (λ (x : Float). cond minus (neg x) x) (one_nearest digits (10 ^ places) d.size d'.size (one-le-pow places 10 (omega arith)) d.nearest d'.nearest) ∙ sym d'.is
