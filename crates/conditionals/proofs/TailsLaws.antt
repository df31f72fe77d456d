-- The laws of the far tail at sixteen places.
use mathlib.Core.Path.{◌≡◌, refl, sym}
use mathlib.Core.Bool.{Bool, true, false, ◌||◌}
use mathlib.Core.List.{List}
use Prim.Native.Nat.{ℕ, zero, suc, ◌+◌, ◌-◌, ◌<◌}
use native.Mathlib.Nat.{add-zero, zero-add, not-suc-le-zero, le_of_suc-le-suc}
use native.Mathlib.Omega.{arith}
use lib.ListN.{length, get_or}
use lib.Ieee.{Float, nan, neg, lt}
use Rattle.num.specs.Both.{or_left, or_right}
use Rattle.num.specs.F64.{◌⊕◌, ◌⊘◌, whole, eight·}
use Rattle.num.specs.Sum.{sum_from}
use Rattle.num.specs.Values.{values}
use Rattle.num.specs.Filled.{at_place, same_values, own_values}
use Rattle.normal.specs.declared.mills.LogMills.{LogMills}
use Rattle.normal.specs.Normal.{fraction_from, fraction_step}
use Rattle.conditionals.specs.declared.normals.Ratios.{Ratios}
use Rattle.conditionals.specs.Normals.{across_of}
use Rattle.conditionals.specs.Tails.{deeper_of, fractions_of, beyond_at, beyond_of, tails_at, tails_of}

-- ---- the fractions
module _ (t f : List Float) (k : ℕ) where
  abbrev pub still : List Float
  still = values (λ i. fraction_from (get_or t i nan) k (get_or f i nan)) 16 0

  pub fractions_turn : (g : List Float) → 0 < k → g ≡ deeper_of t f (whole k) → still ≡ fractions_of t → values (λ i. fraction_from (get_or t i nan) (k - 1) (get_or g i nan)) 16 0 ≡ fractions_of t
  unfolding deeper_of
  fractions_turn g l e v =
      rw (same_values (λ i. fraction_from (get_or t i nan) (k - 1) (get_or g i nan)) (λ i. fraction_from (get_or t i nan) k (get_or f i nan)) (λ j b. rw (e, at_place (λ i. whole k ⊘ (get_or t i nan ⊕ get_or f i nan)) j nan b) (sym (fraction_step (get_or t j nan) (get_or f j nan) k l)))) v

  pub fractions_long : (g : List Float) → g ≡ deeper_of t f (whole k) → length g ≡ 16
  unfolding deeper_of values
  fractions_long g e = rw e

  pub fractions_end : length f ≡ 16 → k ≡ 0 → still ≡ fractions_of t → f ≡ fractions_of t
  unfolding fraction_from
  fractions_end n z v = rw (z, own_values f nan n) at v

-- ---- whether one lies beyond
pub or_assoc : (a b c : Bool) → ((a || b) || c) ≡ (a || (b || c))
or_assoc true b c = refl
or_assoc false b c = refl

pub or_false : (a : Bool) → (a || false) ≡ a
or_false true = refl
or_false false = refl

none_from : (x : List Float) (n i : ℕ) → sum_from ◌||◌ false (beyond_at x) n i ≡ false → (j : ℕ) → j < n → beyond_at x (i + j) ≡ false
unfolding sum_from
none_from x zero i e j l = absurd (not-suc-le-zero l)
none_from x (suc n) i e zero l = rw (add-zero i) (or_left (beyond_at x i) (sum_from ◌||◌ false (beyond_at x) n (i + 1)) e)
none_from x (suc n) i e (suc j) l = let s : i + 1 + j ≡ i + suc j = omega arith in rw (← s) (none_from x n (i + 1) (or_right (beyond_at x i) (sum_from ◌||◌ false (beyond_at x) n (i + 1)) e) j (le_of_suc-le-suc l))

pub none_beyond : (x : List Float) → beyond_of x ≡ false → (j : ℕ) → j < 16 → lt (get_or x j nan) (neg eight·) ≡ false
unfolding beyond_of
none_beyond x e j l = rw (zero-add j) at (none_from x 16 0 e j l)

-- ---- the two arrays
pub the_log : (r s : LogMills) → r ≡ s → r.log ≡ s.log
the_log r s e = rw e

pub the_mills : (r s : LogMills) → r ≡ s → r.mills ≡ s.mills
the_mills r s e = rw e

pub tails_both : (x f t log mills : List Float) (n : Ratios) → f ≡ fractions_of t → t ≡ across_of x → log ≡ values (λ i. (tails_at x f n i).log) 16 0 → mills ≡ values (λ i. (tails_at x f n i).mills) 16 0
    → ◌≡◌ {A = Ratios} (record { log = log; mills = mills }) (tails_of x n)
unfolding tails_of
tails_both x f t log mills n e g a b = rw (a, b, e, g)
