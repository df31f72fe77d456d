-- The laws of the loops: `whole` is what a contract says, and what is left makes it of what was made so far.
use Rattle.std.specs.Prelude.{◌≡◌, Bool, true, List, ℕ, ◌+◌, ◌*◌, ◌-◌, ◌≤◌, ◌<◌, Float, Result, Ok, Err, IsErrAnd, get_or}
use Rattle.std.proofs.Common.{sym, ap, ◌∙◌}
use Rattle.num.specs.Left.{left_one, left_none}
use Rattle.std.specs.Float.{nan}
use Rattle.intervals.specs.declared.interval.Interval.{Interval}
use Rattle.intervals.specs.declared.interval.Refusal.{Refusal}
use Rattle.intervals.specs.Shape.{shaped_of, marked_of}
use Rattle.intervals.specs.Passed.{few, same_length, few_errors, by_rows}
use Rattle.intervals.specs.Factor.{Factored, held_from}
use Rattle.intervals.specs.Interval.{asked_of}
use Rattle.intervals.specs.Intervals.{placed_of, collected_from}

module _ (step : ℕ → List Float → Factored) (m j : ℕ) (lower : List Float) (whole : Factored) (e : held_from step (m - j) j lower ≡ whole) where
  pub held_stops : (before : List Float) → j < m → step j lower ≡ Err before → Err before ≡ whole
  unfolding held_from
  held_stops before h s = rw (left_one m j h, s) at e

  pub held_turns : (next : List Float) → j < m → step j lower ≡ Ok next → held_from step (m - (j + 1)) (j + 1) next ≡ whole
  unfolding held_from
  held_turns next h s = rw (left_one m j h, s) at e

  pub held_ends : m ≤ j → Ok lower ≡ whole
  unfolding held_from
  held_ends h = rw (left_none m j h) at e

module _ (estimates errors : List Float) (marks m i : ℕ) (numbers : List Float) (whole : Result (List Float) Refusal) (e : collected_from estimates errors marks (m - i) i numbers ≡ whole) where
  abbrev here : Result Interval Refusal
  here = asked_of (marked_of marks i) (get_or estimates i nan) (get_or errors i nan)

  pub collected_stops : (r : Refusal) → i < m → here ≡ Err r → Err r ≡ whole
  unfolding collected_from
  collected_stops r h s = rw (left_one m i h, s) at e

  pub collected_turns : (v : Interval) → i < m → here ≡ Ok v → collected_from estimates errors marks (m - (i + 1)) (i + 1) (placed_of numbers i v) ≡ whole
  unfolding collected_from
  collected_turns v h s = rw (left_one m i h, s) at e

  pub collected_ends : m ≤ i → Ok numbers ≡ whole
  unfolding collected_from
  collected_ends h = rw (left_none m i h) at e

-- `?` hands an error on as it is
pub handed_on : {A E : Type 0} (r : Result A E) (e : E) → IsErrAnd r (λ x. x ≡ e) → r ≡ Err e
handed_on (Ok a) e h = absurd h
handed_on (Err x) e h = ap Err h

-- ---- a shape that passed

module _ (e c s m : ℕ) (t : Bool) (u : t ≡ shaped_of e c s m) (h : t ≡ true) where
  pub passed_few : e ≤ 8
  passed_few = few e c s m (sym u ∙ h)

  pub passed_same : s ≡ e
  passed_same = same_length e c s m (sym u ∙ h)

  pub passed_errors : s ≤ 8
  passed_errors = few_errors e c s m (sym u ∙ h)

  pub passed_rows : c ≡ s * s
  passed_rows = by_rows e c s m (sym u ∙ h)
