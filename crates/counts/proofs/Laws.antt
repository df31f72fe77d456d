-- What the objective's code goes by: v, n, a, b, s and t are what its callees gave.
use mathlib.Core.Path.{◌≡◌, sym, ◌∙◌}
use mathlib.Core.Bool.{true, false, ◌&&◌}
use mathlib.Core.List.{List}
use Prim.Native.Nat.{ℕ, ◌≤◌}
use lib.ListN.{length}
use borrow.Table.Steps.{cases}
use lib.Ieee.{Float, neg, lt, le}
use Rattle.num.specs.Both.{and_right}
use Rattle.num.specs.F64.{◌⊕◌, zero·}
use Rattle.order.specs.Numbers.{le_left, le_right}
use Rattle.order.specs.Order.{lt_le, le_not_lt, not_lt}
use Rattle.order.specs.Negation.{neg_neg, neg_number, neg_not_above, neg_not_below}
use Rattle.elementary.specs.Exp.{exp_of}
use Rattle.elementary.specs.Log1p.{log1p_of}
use Rattle.exposure.specs.Rows.{is_positive_of, valid_rows_of}
use Rattle.exposure.specs.Request.{valid_shape_of}
use Rattle.exposure.specs.Passed.{rows_few, rows_paired}
use Rattle.counts.specs.declared.share.Odds.{Odds}
use Rattle.counts.specs.Share.{softplus_of, odds_with_of, odds_at_of}
use Rattle.counts.specs.Objective.{admits}

-- ---- the two softplus of a row: t is the logarithm that they have in common
module _ (d t : Float) where
  pub odds_above : (o : Odds) → lt zero· d ≡ true → t ≡ log1p_of (exp_of (neg d)) → o ≡ odds_with_of (d ⊕ t) t → o ≡ odds_at_of d
  unfolding softplus_of odds_at_of
  odds_above o h e g =
      let n : lt zero· (neg d) ≡ false = le_not_lt (neg d) zero· (neg_not_above d (lt_le zero· d h)) in
      rw (h, n, ← e) g

  turned : lt d zero· ≡ true → lt zero· (neg d) ≡ true
  turned h =
      cases (lt zero· (neg d)) (λ u. u)
      (λ u.
      let below = lt_le d zero· h in
      let k = not_lt zero· (neg d) (le_right d zero· below) (neg_number d ∙ le_left d zero· below) u in
      let l : le zero· d ≡ true = rw neg_neg at (neg_not_below (neg d) k) in
      u ∙ (sym (le_not_lt zero· d l) ∙ h))

  pub odds_below : (o : Odds) → lt d zero· ≡ true → t ≡ log1p_of (exp_of d) → o ≡ odds_with_of t (neg d ⊕ t) → o ≡ odds_at_of d
  unfolding softplus_of odds_at_of
  odds_below o h e g =
      let n : lt zero· d ≡ false = le_not_lt d zero· (lt_le d zero· h) in
      rw (n, turned h, neg_neg d, ← e) g

-- ---- after the checks
module _ (shape rate : Float) (cs : List ℕ) (es : List Float) where
  admitted_rows : admits shape rate cs es ≡ true → valid_rows_of cs es ≡ true
  admitted_rows h = and_right (valid_shape_of shape && is_positive_of rate) (valid_rows_of cs es) h

  pub few : admits shape rate cs es ≡ true → length cs ≤ 4096
  few h = rows_few cs es (admitted_rows h)

  pub paired : admits shape rate cs es ≡ true → length cs ≤ length es
  paired h = rows_paired cs es (admitted_rows h)
