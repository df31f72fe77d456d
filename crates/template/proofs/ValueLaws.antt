-- The parts of a decimal, by the bytes that stand there: a run of digits, and the point between two of them.
use Rattle.std.specs.Prelude.{◌≡◌, refl, Bool, true, false, cond, not, List, ℕ, ◌+◌, ◌-◌, ◌*◌, ◌^◌, ◌≤◌, ◌<◌, T, Float}
use Rattle.std.specs.Float.{binary64}
use Rattle.std.specs.Float.Ieee.{nan, inf, fin, neg, is_nan, round}
use Rattle.std.proofs.Common.{sym, ◌∙◌, arith, eq-eqb, ne_eqb, add-one, add_assoc, lt_of_lt_of_le}
use Rattle.std.proofs.Math.Nat.{pow-le-pow_right, pow-succ'}
use Rattle.num.specs.Left.{left_one}
use Rattle.num.specs.F64.{bits_of}
use Rattle.root.specs.Root.{plus}
use Rattle.decimal.specs.Nearest.{Decimal}
use Rattle.template.specs.Template.{first, after}
use Rattle.template.specs.Field.{is_digit_of, found}
use Rattle.template.specs.Decimal.{Run, run, read_run, decimal_bits, read_unsigned}
use Rattle.template.specs.Says.{Digit}

-- ---- a run, of whose `most` digits k are behind and v stands before what is left

ten : (e : ℕ) → 10 ^ (e + 1) ≡ 10 * 10 ^ e
ten e = rw add-one (pow-succ' 10 e)

more_digits : (e v d : ℕ) → v < 10 ^ e → d ≤ 9 → 10 * v + d < 10 ^ (e + 1)
more_digits e v d h k = rw ten (omega arith)

module _ (most k v : ℕ) (s : List ℕ) (w : Run) (inv : read_run (most - k) v k s ≡ w) where
  pub run_stops : k < most → is_digit_of (first s) ≡ false → w ≡ run v k s
  unfolding read_run
  run_stops l e = sym inv ∙ rw (left_one most k l, e) refl

  pub run_turns : (d : ℕ) (t : List ℕ) → k < most → Digit s d t → read_run (most - (k + 1)) (10 * v + d) (k + 1) t ≡ w
  unfolding read_run
  run_turns d t l h = rw (h.value_is, h.rest_is) (rw (left_one most k l, h.is_digit) at inv)

  pub run_ends : k ≡ most → w ≡ run v most s
  unfolding read_run
  run_ends e = let z : most - k ≡ 0 = omega arith in sym inv ∙ rw (z, e) refl

pub run_small : (first k v d : ℕ) → ((n : ℕ) → first < 10 ^ n → v < 10 ^ (n + k)) → d ≤ 9 → (n : ℕ) → first < 10 ^ n → 10 * v + d < 10 ^ (n + (k + 1))
run_small first k v d h s n b = rw (← add_assoc n k 1) (more_digits (n + k) v d (h n b) s)

pub run_fits : (most first k v d : ℕ) → ((n : ℕ) → first < 10 ^ n → v < 10 ^ (n + k)) → first < 10 ^ (17 - most) → most ≤ 17 → k < most → d ≤ 9 → 10 * v + d < 2 ^ 64
run_fits most first k v d h b m l s =
    let a = run_small first k v d h s (17 - most) b in
    let few : 17 - most + (k + 1) ≤ 17 = omega arith in
    let c : 10 ^ (17 - most + (k + 1)) ≤ 10 ^ 17 = pow-le-pow_right {n = 10} (omega arith) few in
    omega arith

-- ---- both runs

-- what the run before the point leaves for the one behind it, and what both make
pub left_over : (a v : ℕ) → a ≤ 16 → ((n : ℕ) → 0 < 10 ^ n → v < 10 ^ (n + a)) → v < 10 ^ (17 - (17 - a))
left_over a v h l =
    let z : 0 + a ≡ a = omega arith in
    let b : v < 10 ^ (0 + a) = l 0 (omega arith) in
    let few : a ≤ 17 - (17 - a) = omega arith in
    lt_of_lt_of_le (rw z at b) (pow-le-pow_right {n = 10} (omega arith) few)

pub in_all : (a k v w : ℕ) → a ≤ 16 → (a ≡ 0 → ⊥) → (k ≡ 0 → ⊥) → k ≤ 17 - a → ((n : ℕ) → 0 < 10 ^ n → v < 10 ^ (n + a)) → ((n : ℕ) → v < 10 ^ n → w < 10 ^ (n + k)) → (w < 10 ^ 17) × (1 ≤ k) × (k ≤ 16)
in_all a k v w h s t l b f =
    let z : 0 + a ≡ a = omega arith in
    let g : v < 10 ^ (0 + a) = b 0 (omega arith) in
    let few : a + k ≤ 17 = omega arith in
    let c : 10 ^ (a + k) ≤ 10 ^ 17 = pow-le-pow_right {n = 10} (omega arith) few in
    (lt_of_lt_of_le (f a (rw z at g)) c, omega arith, omega arith)

pub is_decimal : (minus : Bool) (s r t u : List ℕ) (v a w k : ℕ) (x : Float) → read_run 16 0 0 s ≡ run v a r → (a ≡ 0 → ⊥) → first r ≡ 46 → t ≡ after r → read_run (17 - a) v 0 t ≡ run w k u → (k ≡ 0 → ⊥) → x ≡ round binary64 minus w (10 ^ k) →
    found (bits_of x) u ≡ read_unsigned minus s
unfolding read_unsigned decimal_bits
is_decimal minus s r t u v a w k x e some point same f more i =
    let g : read_run (17 - a) v 0 (after r) ≡ run w k u = rw same at f in
    rw (e, ne_eqb a 0 some, eq-eqb (first r) 46 point, g, ne_eqb k 0 more, i) refl

-- ---- a decimal's f64 is a number

plain : (minus : Bool) (x : Float) → T (plus x) → T (not (is_nan (cond minus (neg x) x)))
unfolding is_nan neg
plain minus nan p = absurd p
plain minus (inf s) p = absurd p
plain true (fin s m e) p = tt
plain false (fin s m e) p = tt

pub no_nan : (minus : Bool) (digits places : ℕ) (r : Float) → Decimal minus digits places r → T (not (is_nan r))
no_nan minus digits places r d = rw d.is (plain minus d.size d.nearest.not_minus)
