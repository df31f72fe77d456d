-- The sums of the inner loop kept in a list: one rung for each count up to a top. And that a row's loop may go on from any of them.
use Rattle.std.specs.Prelude.{◌≡◌, List, ltb, length, get_or, set, max, Float}
use Rattle.std.proofs.Common.{sym, ap, ◌∙◌, arith, ltb-true, ltb-false, length-set, get_or-set_same, get_or-set_other}
use Prim.Native.Nat.{ℕ, zero, suc, ◌+◌, ◌-◌, ◌≤◌}
use borrow.Table.Steps.{cases}
use Rattle.std.specs.Float.{nan}
use Rattle.num.specs.Fold.{fold_from, fold_parts}
use Rattle.exposure.specs.Rows.{count_at}
use Rattle.counts.specs.declared.share.Rising.{Rising}
use Rattle.counts.specs.Share.{no_rising, term_at, passed_of, pass_of, rising_from, risen_of}

-- the largest so far and the i-th count
abbrev pub with_count_of : List ℕ → ℕ → ℕ → ℕ
with_count_of cs i most = max most (count_at cs i)

unfoldable pub largest_of : List ℕ → ℕ
largest_of cs = fold_from (with_count_of cs) (length cs) 0 0

-- ---- a rung

-- past the table's end
abbrev pub no_rung : Rising
no_rung = record { log = nan; inverse = nan; squared = nan }

abbrev pub rung_at : List Rising → ℕ → Rising
rung_at l j = get_or l j no_rung

-- the rungs up to the top are the sums of their counts
pub record Held (shape : Float) (top : ℕ) (l : List Rising) : Type 0 where
  pub few : top ≤ 63
  pub sized : length l ≡ 64
  pub holds : (j : ℕ) → j ≤ top → rung_at l j ≡ risen_of shape j

-- ---- the loop in two parts

-- a row's sums from those of a smaller count
pub rising_on : (shape : Float) (n k : ℕ) → k ≤ n → rising_from shape (n - k) k (risen_of shape k) ≡ risen_of shape n
unfolding risen_of
rising_on shape n k h =
    let e : k + (n - k) ≡ n = omega arith in
    let f : 0 + k ≡ k = omega arith in
    (rw f at (sym (fold_parts (pass_of shape) k (n - k) 0 no_rising))) ∙ ap (λ m. rising_from shape m 0 no_rising) e

pub rising_next : (shape : Float) (k : ℕ) → passed_of (risen_of shape k) (term_at shape k) ≡ risen_of shape (k + 1)
unfolding fold_from risen_of
rising_next shape k =
    let f : 0 + k ≡ k = omega arith in
    rw f at (sym (fold_parts (pass_of shape) k 1 0 no_rising))

-- ---- the table filled

module _ (shape : Float) (l m : List Rising) (s : Rising) where
  none_held : s ≡ no_rising → length l ≡ 64 → m ≡ set l 0 s → (j : ℕ) → j ≤ 0 → rung_at m j ≡ risen_of shape j
  unfolding fold_from risen_of
  none_held z n e zero h = rw e (get_or-set_same l 0 s no_rung (omega (arith, n)) ∙ z)
  none_held z n e (suc j) h = absurd (omega arith)

  pub held_none : s ≡ no_rising → length l ≡ 64 → m ≡ set l 0 s → Held shape 0 m
  held_none z n e = record { few = omega arith; sized = rw e (length-set l 0 s ∙ n); holds = none_held z n e }

  module _ (k : ℕ) (h : Held shape k l) (r : s ≡ risen_of shape (k + 1)) (room : k + 1 ≤ 63) (e : m ≡ set l (k + 1) s) where
    new_rung : rung_at m (k + 1) ≡ risen_of shape (k + 1)
    new_rung = rw e (get_or-set_same l (k + 1) s no_rung (omega (arith, h.sized)) ∙ r)

    old_rung : (j : ℕ) → j ≤ k → rung_at m j ≡ risen_of shape j
    old_rung j b = rw e (get_or-set_other l (k + 1) j s no_rung (λ x. absurd (omega arith)) ∙ h.holds j b)

    next_held : (j : ℕ) → j ≤ k + 1 → rung_at m j ≡ risen_of shape j
    next_held j b =
        cases (ltb j (k + 1)) (λ t. old_rung j (omega (arith, ltb-true j (k + 1) t)))
        (λ t. let f : j ≡ k + 1 = omega (arith, ltb-false j (k + 1) t) in rw f new_rung)

    pub held_next : Held shape (k + 1) m
    held_next = record { few = room; sized = rw e (length-set l (k + 1) s ∙ h.sized); holds = next_held }
