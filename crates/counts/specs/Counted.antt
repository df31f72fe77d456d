-- What an evaluation comes to, as code counts it: the sums in their order, tested, and a pass for each event.
use Rattle.std.specs.Prelude.{◌≡◌, cond, List, length, Float}
use Rattle.std.proofs.Common.{sym, ap, ◌∙◌, add-zero, zero-add, lt-ltb}
use Prim.Native.Nat.{ℕ, zero, suc, ◌+◌, ◌≤◌}
use native.Mathlib.Omega.{arith}
use Rattle.num.specs.Fold.{fold_from}
use Rattle.num.specs.Sum.{sum_from}
use Rattle.elementary.specs.Log.{log_of}
use Rattle.elementary.specs.Exp.{exp_of}
use Rattle.work.specs.Ended.{Ended, done, stopped, domain}
use Rattle.work.specs.Work.{Work, ret, stop, metered}
use Rattle.work.specs.Metered.{split, metered_bind}
use Rattle.work.specs.AtMost.{AtMost, rets, asks, stops, either, both}
use Rattle.work.specs.Share.{in_full_lem}
use Rattle.planar.specs.declared.Planar.{Planar}
use Rattle.planar.specs.Planar.{no_planar}
use Rattle.exposure.specs.Rows.{count_at, exposure_at, events_from, events_of}
use Rattle.counts.specs.declared.share.Rising.{Rising}
use Rattle.counts.specs.Share.{no_rising, term_at, raised, rise, row_of, rising_from, risen_of, with_row_of}
use Rattle.counts.specs.Rows.{finite_of, rows, evaluate, rows_from, totals_of}
use Rattle.counts.specs.Objective.{in_full}

-- ---- how many passes, whatever the logarithms are

rise_most : (shape : Float) (n k : ℕ) (s : Rising) → AtMost n (rise shape n k s)
unfolding rise
rise_most shape zero k s = rets
rise_most shape (suc n) k s = asks (λ l. rise_most shape n (k + 1) (raised s (term_at shape k) l))

module _ (shape log-rate : Float) (cs : List ℕ) (es : List Float) where
  rows_most : (n i : ℕ) (v : Planar) → AtMost (events_from cs n i) (rows shape log-rate cs es n i v)
  unfolding rows sum_from
  rows_most zero i v = either (finite_of v) rets stops
  rows_most (suc n) i v = both (events_from cs n (i + 1)) (rise_most shape (count_at cs i) 0 no_rising) (λ s. rows_most n (i + 1) (row_of v shape log-rate (count_at cs i) (exposure_at es i) s))

pub evaluate_most : (x y : Float) (cs : List ℕ) (es : List Float) → AtMost (events_of cs) (evaluate x y cs es)
unfolding evaluate events_of
evaluate_most x y cs es = rows_most (exp_of x) y cs es (length cs) 0 no_planar

-- ---- what it comes to

unfoldable pub tested_of : Planar → Ended Planar
tested_of v = cond (finite_of v) (done v) (stopped (domain 6))

module _ (l : ℕ) where
  rises : (shape : Float) (n k u : ℕ) (s : Rising) → u + n ≤ l → metered log_of l u (rise shape n k s) ≡ record { ended = done (rising_from shape n k s); used = u + n }
  unfolding rise fold_from metered
  rises shape zero k u s h = rw (add-zero u)
  rises shape (suc n) k u s h =
      let e : u + 1 + n ≡ u + suc n = omega arith in
      rw (lt-ltb u l (omega arith), ← e) (rises shape n (k + 1) (u + 1) (raised s (term_at shape k) (log_of (term_at shape k))) (omega arith))

  tests : (u : ℕ) (v : Planar) → metered log_of l u (cond (finite_of v) (ret v) (stop (domain 6))) ≡ record { ended = tested_of v; used = u }
  unfolding tested_of metered
  tests u v = split (finite_of v) (λ t. rw t) (λ t. rw t)

  module _ (shape log-rate : Float) (cs : List ℕ) (es : List Float) where
    sums : (n i u : ℕ) (v : Planar) → u + events_from cs n i ≤ l → metered log_of l u (rows shape log-rate cs es n i v) ≡ record { ended = tested_of (rows_from shape log-rate cs es n i v); used = u + events_from cs n i }
    unfolding rows fold_from sum_from with_row_of risen_of
    sums zero i u v h = rw (add-zero u) (tests u v)
    sums (suc n) i u v h =
        let c = count_at cs i in
        let e : u + c + events_from cs n (i + 1) ≡ u + (c + events_from cs n (i + 1)) = omega arith in
        metered_bind log_of l u (rise shape c 0 no_rising) (λ s. rows shape log-rate cs es n (i + 1) (row_of v shape log-rate c (exposure_at es i) s))
        ∙ rw (rises shape c 0 u no_rising (omega arith), ← e) (sums n (i + 1) (u + c) (row_of v shape log-rate c (exposure_at es i) (rising_from shape c 0 no_rising)) (omega arith))

  pub evaluates : (x y : Float) (cs : List ℕ) (es : List Float) (u : ℕ) → u + events_of cs ≤ l → metered log_of l u (evaluate x y cs es) ≡ record { ended = tested_of (totals_of x y cs es); used = u + events_of cs }
  unfolding evaluate totals_of events_of
  evaluates x y cs es u h = sums (exp_of x) y cs es (length cs) 0 u no_planar h

-- ---- without a limit

pub whole_is : {A : Type 0} {n : ℕ} (l : ℕ) (w : Work Float Float A) → AtMost n w → n ≤ l → in_full w ≡ metered log_of l 0 w
unfolding in_full
whole_is l w b h = sym (in_full_lem log_of w l b h)

pub evaluates_in_full : (x y : Float) (cs : List ℕ) (es : List Float) → in_full (evaluate x y cs es) ≡ record { ended = tested_of (totals_of x y cs es); used = events_of cs }
evaluates_in_full x y cs es =
    whole_is (events_of cs) (evaluate x y cs es) (evaluate_most x y cs es) (omega arith)
    ∙ (evaluates (events_of cs) x y cs es 0 (omega arith) ∙ ap (λ n. record { ended = tested_of (totals_of x y cs es); used = n }) (zero-add (events_of cs)))
