-- The power series of the exponential at x = (a - b) / u: its sum to x^n / n!, and two fractions on either side of it, twice the next term away.
use Rattle.std.specs.Prelude.{◌≡◌, List, [], ◌∷◌, ◌++◌, ℕ, zero, suc, ◌+◌, ◌-◌, ◌*◌, ◌^◌, ◌≤◌, ◌<◌, length}
use Rattle.std.proofs.Math.Path.{refl}
use Rattle.std.proofs.Common.{ap, ◌∙◌, add-zero, mul-pos, arith, length-append}
use Rattle.std.proofs.Math.Nat.{pow-succ', pow-zero}
use Rattle.series.specs.Fraction.{Fraction}
use Rattle.series.specs.Polynomial.{Signed, power, part, power_zero_p, power_zero_n, part_cons_p, part_cons_n, part_nil_p, part_nil_n, joins, scaled, scaled_length, scales}

-- n! u^n
unfoldable pub over : ℕ → ℕ → ℕ
over u zero = 1
over u (suc n) = over u n * (suc n * u)

-- (1 + x + .. + x^n / n!) n! u^n
unfoldable pub top : ℕ → ℕ → ℕ → ℕ → Signed
top u a b zero = record { p = 1; n = 0 }
top u a b (suc n) =
    let t = top u a b n in
    let q = power a b (suc n) in
    record { p = t.p * (suc n * u) + q.p; n = t.n * (suc n * u) + q.n }

abbrev pub sum_at : ℕ → ℕ → ℕ → ℕ → Fraction
sum_at u a b n = record { p = (top u a b n).p; n = (top u a b n).n; over = over u n }

-- 2 |x|^(n + 1) / (n + 1)! below the sum, and above it
abbrev pub lower_at : ℕ → ℕ → ℕ → ℕ → Fraction
lower_at u a b n = record { p = (top u a b n).p * (suc n * u); n = (top u a b n).n * (suc n * u) + 2 * (a + b) ^ suc n; over = over u (suc n) }

abbrev pub upper_at : ℕ → ℕ → ℕ → ℕ → Fraction
upper_at u a b n = record { p = (top u a b n).p * (suc n * u) + 2 * (a + b) ^ suc n; n = (top u a b n).n * (suc n * u); over = over u (suc n) }

-- at 1/2 and -1/2 to x^3 / 3!: 79/48 and 29/48
pub points : (over 2 3 ≡ 48) × ((top 2 1 0 3).p ≡ 79) × ((top 2 1 0 3).n ≡ 0) × ((top 2 0 1 3).p ≡ 29 + (top 2 0 1 3).n)
unfolding over top power
points = (refl, refl, refl, refl)

pub over_suc : (u n : ℕ) → over u (suc n) ≡ over u n * (suc n * u)
unfolding over
over_suc u n = refl

over_zero : (u : ℕ) → over u 0 ≡ 1
unfolding over
over_zero u = refl

abbrev pub factorial : ℕ → ℕ
factorial zero = 1
factorial (suc n) = factorial n * suc n

pub over_is : (u n : ℕ) → over u n ≡ factorial n * u ^ n
over_is u zero = rw (pow-zero u, over_zero u)
over_is u (suc n) = rw (over_suc u n, over_is u n, pow-succ' u n) (again (factorial n) (u ^ n) n u)
  where
    again : (f p n u : ℕ) → f * p * (suc n * u) ≡ f * suc n * (u * p)
    again f p n u = omega arith

pub over_pos : (u n : ℕ) → 0 < u → 0 < over u n
over_pos u zero h = rw (over_zero u) (omega arith)
over_pos u (suc n) h = rw (over_suc u n) (mul-pos (over_pos u n h) (mul-pos (some n) h))
  where
    some : (n : ℕ) → 0 < suc n
    some n = omega arith

module _ (u a b : ℕ) where
  pub top_suc_p : (n : ℕ) → (top u a b (suc n)).p ≡ (top u a b n).p * (suc n * u) + (power a b (suc n)).p
  unfolding top
  top_suc_p n = refl

  pub top_suc_n : (n : ℕ) → (top u a b (suc n)).n ≡ (top u a b n).n * (suc n * u) + (power a b (suc n)).n
  unfolding top
  top_suc_n n = refl

  top_zero_p : (top u a b 0).p ≡ 1
  unfolding top
  top_zero_p = refl

  top_zero_n : (top u a b 0).n ≡ 0
  unfolding top
  top_zero_n = refl

-- n! / k! for k from 0 to n
unfoldable pub shares : ℕ → List ℕ
shares zero = 1 ∷ []
shares (suc n) = scaled (suc n) (shares n) ++ (1 ∷ [])

shares_zero : shares 0 ≡ 1 ∷ []
unfolding shares
shares_zero = refl

shares_suc : (n : ℕ) → shares (suc n) ≡ scaled (suc n) (shares n) ++ (1 ∷ [])
unfolding shares
shares_suc n = refl

shares_length : (n : ℕ) → length (shares n) ≡ suc n
shares_length zero = ap (λ (l : List ℕ). length l) shares_zero
shares_length (suc n) =
    ap (λ (l : List ℕ). length l) (shares_suc n)
    ∙ length-append (scaled (suc n) (shares n)) (1 ∷ [])
    ∙ ap (λ (k : ℕ). k + 1) (scaled_length (suc n) (shares n) ∙ shares_length n)
    ∙ next n
  where
    next : (n : ℕ) → suc n + 1 ≡ suc (suc n)
    next n = omega arith

-- the sum as a polynomial over n! u^n
pub record Polynomial (u a b m : ℕ) : Type 0 where
  pub p : (part u m a b 0 (shares m)).p ≡ (top u a b m).p
  pub n : (part u m a b 0 (shares m)).n ≡ (top u a b m).n

pub polynomial : (u a b n : ℕ) → Polynomial u a b n
polynomial u a b zero =
    record {
      p = rw (shares_zero, part_cons_p u 0 a b 0 1 [], part_nil_p u 0 a b 1, power_zero_p a b, top_zero_p u a b, pow-zero u);
      n = rw (shares_zero, part_cons_n u 0 a b 0 1 [], part_nil_n u 0 a b 1, power_zero_n a b, top_zero_n u a b, pow-zero u);
    }
polynomial u a b (suc n) =
    let i = polynomial u a b n in
    let l = shares_length n in
    let j = joins u (suc n) a b 0 (scaled (suc n) (shares n)) (1 ∷ []) in
    let s = scales u n a b (suc n) 0 (shares n) (rw l (full n)) in
    let place : length (scaled (suc n) (shares n)) + 0 ≡ suc n = add-zero (length (scaled (suc n) (shares n))) ∙ scaled_length (suc n) (shares n) ∙ l in
    record {
      p = rw (shares_suc n, j.p, place, s.p, i.p, part_cons_p u (suc n) a b (suc n) 1 [], part_nil_p u (suc n) a b (suc (suc n)), none n, pow-zero u, top_suc_p u a b n) (last _ _);
      n = rw (shares_suc n, j.n, place, s.n, i.n, part_cons_n u (suc n) a b (suc n) 1 [], part_nil_n u (suc n) a b (suc (suc n)), none n, pow-zero u, top_suc_n u a b n) (last _ _);
    }
  where
    full : (n : ℕ) → suc n + 0 ≤ suc n
    full n = omega arith

    none : (n : ℕ) → suc n - suc n ≡ 0
    none n = omega arith

    last : (t q : ℕ) → t + (1 * (q * 1) + 0) ≡ t + q
    last t q = omega arith
