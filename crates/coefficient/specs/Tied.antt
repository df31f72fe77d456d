-- The larger of two f64 is the same datum in either order, and so is the smaller: two of equal size are one f64, but for the two zeros, of which +0 is the larger.
use Rattle.std.specs.Prelude.{◌≡◌, refl, Bool, true, false, ℕ, ◌+◌, ◌*◌, ◌≤◌, ◌<◌, ℤ, pos, T, Float}
use Rattle.std.proofs.Common.{sym, ap, ◌∙◌, inl, inr, mul-pos, zero-mul, eq-zero-or-pos, arith, ltb-true, ltb-false, le-ltb, eq-eqb}
use borrow.Table.Steps.{cases}
use Rattle.std.specs.Float.{nan, inf, fin, binary64}
use Rattle.std.specs.Float.Ieee.{up, down, add, neg, lt, eq, ne, fits, of_bits}
use Rattle.std.specs.Float.Ieee.Fits.{down_pos, neg-fits}
use Rattle.num.specs.Helpers.{max_of, min_of}
use Rattle.order.specs.Zeros.{one_number}

ruleset tests = (arith, ltb-true, ltb-false)

first_zero : (a b : ℕ) → 0 < b → a * b ≤ 0 → a ≡ 0
first_zero a b p h =
    elim (eq-zero-or-pos a) [
      | inl e ↦ e
      | inr q ↦ absurd (omega (arith, mul-pos q p))
    ]

a_zero : (s : Bool) (m : ℕ) (e d : ℤ) → T (fits binary64 (fin s m e)) → m * up e * down d ≤ 0 → fin s m e ≡ fin s 0 (pos 0)
unfolding fits
a_zero s m e d h z = one_number s m 0 e (pos 0) (rw (first_zero (m * up e) (down d) (down_pos d) z) (sym (zero-mul (down e)))) h tt

swap_same : (a b : Float) → a ≡ b → max_of a b ≡ max_of b a
swap_same a b q = ap (λ x. max_of x b) q ∙ ap (λ x. max_of b x) (sym q)

zeros_swap : (a b : Float) → a ≡ fin false 0 (pos 0) → b ≡ fin true 0 (pos 0) → max_of a b ≡ max_of b a
unfolding max_of lt eq ne add of_bits
zeros_swap a b p q = rw (p, q)

-- where neither is the smaller
tied : (s t : Bool) (m n : ℕ) (e d : ℤ) → T (fits binary64 (fin s m e)) → T (fits binary64 (fin t n d)) → lt (fin s m e) (fin t n d) ≡ false → lt (fin t n d) (fin s m e) ≡ false → max_of (fin s m e) (fin t n d) ≡ max_of (fin t n d) (fin s m e)
unfolding lt
tied false false m n e d h k p q = swap_same _ _ (one_number false m n e d (omega tests) h k)
tied true true m n e d h k p q = swap_same _ _ (one_number true m n e d (omega tests) h k)
tied false true m n e d h k p q = zeros_swap _ _ (a_zero false m e d h (omega tests)) (a_zero true n d e k (omega tests))
tied true false m n e d h k p q = sym (zeros_swap _ _ (a_zero false n d e k (omega tests)) (a_zero true m e d h (omega tests)))

asymmetric : (s t : Bool) (m n : ℕ) (e d : ℤ) → lt (fin s m e) (fin t n d) ≡ true → lt (fin t n d) (fin s m e) ≡ false
unfolding lt
asymmetric false false m n e d p = le-ltb (n * up d * down e) (m * up e * down d) (omega tests)
asymmetric true true m n e d p = le-ltb (m * up e * down d) (n * up d * down e) (omega tests)
asymmetric false true m n e d p = cc
asymmetric true false m n e d p = refl

finite_swap : (s t : Bool) (m n : ℕ) (e d : ℤ) → T (fits binary64 (fin s m e)) → T (fits binary64 (fin t n d)) → max_of (fin s m e) (fin t n d) ≡ max_of (fin t n d) (fin s m e)
unfolding max_of
finite_swap s t m n e d h k =
    cases (lt (fin s m e) (fin t n d)) (λ p. rw (p, asymmetric s t m n e d p))
    (λ p. cases (lt (fin t n d) (fin s m e)) (λ q. rw (p, q)) (λ q. tied s t m n e d h k p q))

itself : (s : Bool) (m : ℕ) (e : ℤ) → ne (fin s m e) (fin s m e) ≡ false
unfolding ne
itself true m e = rw (eq-eqb (m * up e * down e) (m * up e * down e) refl)
itself false m e = rw (eq-eqb (m * up e * down e) (m * up e * down e) refl)

pub max_swap : (a b : Float) → T (fits binary64 a) → T (fits binary64 b) → max_of a b ≡ max_of b a
unfolding max_of lt eq ne
max_swap nan nan h k = refl
max_swap nan (inf true) h k = refl
max_swap nan (inf false) h k = refl
max_swap (inf true) nan h k = refl
max_swap (inf false) nan h k = refl
max_swap (inf true) (inf true) h k = refl
max_swap (inf true) (inf false) h k = refl
max_swap (inf false) (inf true) h k = refl
max_swap (inf false) (inf false) h k = refl
max_swap (inf true) (fin t n d) h k = refl
max_swap (inf false) (fin t n d) h k = refl
max_swap (fin s m e) (inf true) h k = refl
max_swap (fin s m e) (inf false) h k = refl
max_swap nan (fin t n d) h k = rw (itself t n d)
max_swap (fin s m e) nan h k = rw (itself s m e)
max_swap (fin s m e) (fin t n d) h k = finite_swap s t m n e d h k

pub min_swap : (a b : Float) → T (fits binary64 a) → T (fits binary64 b) → min_of a b ≡ min_of b a
unfolding min_of
min_swap a b h k = ap neg (max_swap (neg a) (neg b) (neg-fits binary64 a h) (neg-fits binary64 b k))
