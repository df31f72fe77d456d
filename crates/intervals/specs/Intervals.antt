-- The intervals of all marked estimates, or the first refusal; and what a host's buffer gets of it.
use Rattle.std.specs.Prelude.{cond, List, ℕ, zero, suc, ◌+◌, ◌*◌, leb, length, get_or, set, replicate, Float, Result, Ok, Err}
use Rattle.std.specs.Float.{nan}
use Rattle.num.specs.F64.{zero·}
use Rattle.store.specs.Stored.{stored}
use Rattle.intervals.specs.declared.interval.Interval.{Interval}
use Rattle.intervals.specs.declared.interval.Refusal.{Refusal}
use Rattle.intervals.specs.declared.interval.Refusal.TheVariants.{InvalidInput}
use Rattle.finite.specs.Finite.{all_finite_of}
use Rattle.intervals.specs.Shape.{shaped_of, marked_of}
use Rattle.intervals.specs.Factor.{Factored, factored_of}
use Rattle.intervals.specs.Interval.{number_of, asked_of}

-- what an answer goes on to; a refusal ends it
abbrev pub onward : {A B : Type 0} → (A → Result B Refusal) → Result A Refusal → Result B Refusal
onward f (Ok a) = f a
onward f (Err e) = Err e

-- three numbers an estimate: error in the log coordinate, lower, upper
abbrev pub placed_of : List Float → ℕ → Interval → List Float
placed_of numbers i v = set (set (set numbers (3 * i) v.error) (3 * i + 1) v.lower) (3 * i + 2) v.upper

-- m estimates from the i-th on
unfoldable pub collected_from : List Float → List Float → ℕ → ℕ → ℕ → List Float → Result (List Float) Refusal
collected_from estimates errors marks zero i numbers = Ok numbers
collected_from estimates errors marks (suc m) i numbers =
    onward (λ v. collected_from estimates errors marks m (i + 1) (placed_of numbers i v)) (asked_of (marked_of marks i) (get_or estimates i nan) (get_or errors i nan))

unfoldable pub collected_of : List Float → List Float → ℕ → Result (List Float) Refusal
collected_of estimates errors marks = collected_from estimates errors marks (length estimates) 0 (replicate 24 zero·)

-- an answer that wants the factor, which itself is not part of it
abbrev pub factored_first : Factored → Result (List Float) Refusal → Result (List Float) Refusal
factored_first (Ok lower) answer = answer
factored_first (Err lower) answer = Err InvalidInput

unfoldable pub intervals_of : List Float → List Float → List Float → ℕ → Result (List Float) Refusal
intervals_of estimates covariance errors marks =
    cond (shaped_of (length estimates) (length covariance) (length errors) marks)
    (cond (all_finite_of covariance) (factored_first (factored_of covariance errors) (collected_of estimates errors marks)) (Err InvalidInput))
    (Err InvalidInput)

-- a call's value, and what its buffer holds after it
pub record Filled : Type 0 where
  pub value : ℕ
  pub numbers : List Float

abbrev pub filled : ℕ → List Float → Filled
filled value numbers = record { value = value; numbers = numbers }

-- zeros beside a refusal
unfoldable pub intervals_put : Result (List Float) Refusal → List Float → Filled
intervals_put (Ok found) numbers = filled 0 (stored numbers found)
intervals_put (Err e) numbers = filled (number_of e) (stored numbers (replicate 24 zero·))

-- where the shape is wrong or the buffer has not 24 places: 1, and nothing is written
unfoldable pub intervals_filled : List Float → List Float → List Float → ℕ → List Float → Filled
intervals_filled estimates covariance errors marks numbers =
    cond (shaped_of (length estimates) (length covariance) (length errors) marks)
    (cond (leb 24 (length numbers)) (intervals_put (intervals_of estimates covariance errors marks) numbers) (filled 1 numbers))
    (filled 1 numbers)
