-- How many evaluations a litter's share makes at most, whatever their values: `AtMost k w` says that w never makes more than k.
-- From it: the source's cap of 65,536 evaluations a litter never binds, and the count that the code reports is that of the evaluations made.
use Rattle.std.specs.Prelude.{◌≡◌, refl, List, length, Result, Err, Float}
use Rattle.std.proofs.Common.{◌∙◌, arith}
use Rattle.std.proofs.Math.Path.{ap, sym}
use Prim.Native.Nat.{ℕ, ◌+◌, ◌-◌, ◌≤◌, min, zero-le}
use Rattle.std.proofs.Math.Nat.{zero-add, sub-zero, add-sub_cancel_left}
use Rattle.std.specs.Float.Ieee.{eq}
use Rattle.num.specs.F64.{zero·}
use Rattle.work.specs.declared.Refusal.{Refusal}
use Rattle.work.specs.declared.Refusal.TheVariants.{WorkBudget}
use Rattle.work.specs.declared.QuadratureEvaluations.{QuadratureEvaluations}
use Rattle.work.specs.declared.Meter.{Meter}
use Rattle.work.specs.Ended.{Ended, done, stopped, short, invalid, domain}
use Rattle.work.specs.Work.{◌>>=◌, metered, listed, listed_l}
use Rattle.work.specs.Metered.{metered_is, within, short_at}
use Rattle.work.specs.AtMost.{AtMost, rets, asks, either, both, at_most_listed}
use Rattle.work.specs.Answer.{outcome, leaves, counted, spent, by, Did}
use Rattle.work.specs.Impossible.{impossible}
use Rattle.work.specs.Share.{cap, share as from_0}
use Rattle.legendre.specs.declared.Pair.{Pair}
use Rattle.posterior.specs.declared.integrand.Posterior.{Posterior}
use Rattle.posterior.specs.Integrand.{Eval, at}
use Rattle.mode.specs.Bound.{ends_at_most, check_ends_at_most, peak_at_most}
use Rattle.tail.specs.Bound.{goal_at_most, span_at_most}
use Rattle.quadrature.specs.Bound.{ten_at_most}
use Rattle.row.specs.declared.share.Share.{Share}
use Rattle.row.specs.Peak.{peaked, spanned}
use Rattle.row.specs.Share.{spread, share, row_of, row_used}

module _ (here : Float → Eval) where
  -- the mode, with its bracket: 32 + 2 + 101
  pub peaked_at_most : AtMost 135 (peaked here)
  unfolding peaked
  peaked_at_most = both 103 (ends_at_most here) (λ e. both 101 (check_ends_at_most here e) (λ c. peak_at_most here c.left c.right))

  -- the limits of the integral: 2 + 60
  pub spanned_at_most : (p : Posterior) (mode log delta : Float) → AtMost 62 (spanned here p mode log delta)
  unfolding spanned
  spanned_at_most p mode log delta = both 60 (goal_at_most here mode log delta) (λ g. span_at_most here _)

  -- the share where the variance is not 0: 135 + 62 + 32736
  pub spread_at_most : (rule : List Pair) (p : Posterior) (choose : Float) → AtMost (197 + 32736) (spread here rule p choose)
  unfolding spread
  spread_at_most rule p choose =
      both 32798 peaked_at_most (λ m. both 32736 (spanned_at_most p m.at m.log _) (λ s. both 0 (ten_at_most here rule _) (λ i. rets)))

is_short : {A : Type 0} (e : Ended A) → outcome e ≡ Err WorkBudget → e ≡ short
is_short (done a) h = impossible (cc)
is_short (stopped invalid) h = impossible (cc)
is_short (stopped (domain r)) h = impossible (cc)
is_short short h = refl

module _ (litter successes total : ℕ) (rule : List Pair) (mean variance : Float) where
  -- a litter's share makes at most 32,933 evaluations, whatever their values
  pub share_at_most : AtMost 32933 (share litter successes total rule mean variance)
  unfolding share ◌>>=◌
  share_at_most = either (eq variance zero·) (asks (λ v. rets)) (spread_at_most _ rule _ _)

  -- the list of them is no longer
  pub share_listed : length (listed at (share litter successes total rule mean variance)) ≤ 32933
  share_listed = at_most_listed at share_at_most

  -- a limit l cut at 65,536 gives the same ending, value and count as l
  pub cap_never_binds : (l : ℕ) → metered at (min l 65536) 0 (share litter successes total rule mean variance) ≡ metered at l 0 (share litter successes total rule mean variance)
  cap_never_binds l = cap at (share litter successes total rule mean variance) l 65536 share_at_most (omega arith)

  -- and so the row is the same, whether or not the limit is cut
  pub row_cap : (limit : QuadratureEvaluations) → row_of litter successes total rule mean variance (record { 0 = min limit.0 65536 }) ≡ row_of litter successes total rule mean variance limit
  unfolding by
  row_cap limit = ap (λ m. outcome m.ended) (cap_never_binds limit.0)

  pub row_cap_used : (limit : QuadratureEvaluations) → row_used litter successes total rule mean variance (record { 0 = min limit.0 65536 }) ≡ row_used litter successes total rule mean variance limit
  unfolding by
  row_cap_used limit = ap (λ m. m.used) (cap_never_binds limit.0)

  -- the count that the code leaves on the meter is the length of the list of evaluations made under its limit
  pub row_count : (limit : QuadratureEvaluations) → row_used litter successes total rule mean variance limit ≡ length (listed_l at limit.0 (share litter successes total rule mean variance))
  unfolding by
  row_count limit =
      let w = share litter successes total rule mean variance in
      ap (λ m. m.used) (metered_is at limit.0 0 w) ∙ rw (sub-zero limit.0, zero-add (length (listed_l at limit.0 w)))

  -- it is never above the limit, nor above 32,933
  pub row_within : (limit : QuadratureEvaluations) → row_used litter successes total rule mean variance limit ≤ min limit.0 32933
  unfolding by
  row_within limit =
      let w = share litter successes total rule mean variance in
      let h : (metered at limit.0 0 w).used ≤ min limit.0 32933 = rw (← cap at w limit.0 32933 share_at_most (omega arith)) (within at (min limit.0 32933) 0 w zero-le) in
      h

  -- where the code answers WorkBudget, it is the limit
  pub row_short : (limit : QuadratureEvaluations) → row_of litter successes total rule mean variance limit ≡ Err WorkBudget → row_used litter successes total rule mean variance limit ≡ limit.0
  unfolding by
  row_short limit e =
      let w = share litter successes total rule mean variance in
      short_at at limit.0 0 w zero-le (is_short (metered at limit.0 0 w).ended e)

-- ---- of each call: it was lent the meter m, answered r and left the meter at n. Evaluations of other litters may stand on m.

-- a limit that leaves no more than 65,536
abbrev pub capped : Meter → Meter
capped m = record { used = m.used; limit = record { 0 = m.used.0 + min (m.limit.0 - m.used.0) 65536 } }

module _ (litter successes total : ℕ) (rule : List Pair) (mean variance : Float) (m n : Meter) (r : Result Share Refusal) (did : Did at (share litter successes total rule mean variance) m r n) where
  left_used : n.used.0 ≡ m.used.0 + (metered at (m.limit.0 - m.used.0) 0 (share litter successes total rule mean variance)).used
  unfolding by
  left_used = ap (λ s. s.meter.used.0) did ∙ ap (λ t. t.used) (from_0 at (share litter successes total rule mean variance) m.limit.0 m.used.0)

  -- the meter goes up by the evaluations made under what the limit left, and the limit stays
  pub call_counts : n.used.0 ≡ m.used.0 + length (listed_l at (m.limit.0 - m.used.0) (share litter successes total rule mean variance))
  unfolding by
  call_counts = ap (λ s. s.meter.used.0) did ∙ ap (λ t. t.used) (metered_is at m.limit.0 m.used.0 (share litter successes total rule mean variance))

  pub call_keeps : n.limit ≡ m.limit
  unfolding by
  call_keeps = ap (λ s. s.meter.limit) did

  -- by no more than was left, and by no more than 32,933
  pub call_within : n.used.0 ≤ m.used.0 + min (m.limit.0 - m.used.0) 32933
  unfolding by
  call_within =
      let w = row_within litter successes total rule mean variance (record { 0 = m.limit.0 - m.used.0 }) in
      rw left_used (omega (arith, w))

  -- where the answer is WorkBudget, by all that was left
  pub call_short : r ≡ Err WorkBudget → n.used.0 ≡ m.used.0 + (m.limit.0 - m.used.0)
  unfolding by
  call_short e =
      let w = share litter successes total rule mean variance in
      let left = m.limit.0 - m.used.0 in
      let short : (metered at m.limit.0 m.used.0 w).ended ≡ short = is_short (metered at m.limit.0 m.used.0 w).ended (sym (ap (λ s. s.answer) did) ∙ e) in
      left_used ∙ ap (λ k. m.used.0 + k) (short_at at left 0 w zero-le (sym (ap (λ t. t.ended) (from_0 at w m.limit.0 m.used.0)) ∙ short))

  -- the source's cap of 65,536 evaluations a litter changes neither the answer nor the count
  pub call_cap : Did at (share litter successes total rule mean variance) (capped m) r (record { used = n.used; limit = (capped m).limit })
  unfolding by
  call_cap =
      let w = share litter successes total rule mean variance in
      let left = m.limit.0 - m.used.0 in
      let same : metered at (m.used.0 + min left 65536) m.used.0 w ≡ metered at m.limit.0 m.used.0 w =
      rw (from_0 at w (m.used.0 + min left 65536) m.used.0, from_0 at w m.limit.0 m.used.0, add-sub_cancel_left m.used.0 (min left 65536), cap_never_binds litter successes total rule mean variance left) in
      ap (λ s. leaves s.answer (counted (capped m) s.meter.used.0)) did ∙ ap (λ t. spent (capped m) t) (sym same)
