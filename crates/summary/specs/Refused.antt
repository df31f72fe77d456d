-- A refused summary is InvalidInput; and litters of which any check fails are refused.
use Rattle.std.specs.Prelude.{◌≡◌, Bool, true, false, cond, List, ℕ, get_or, Result, Ok, Err}
use Rattle.std.proofs.Common.{sym, ap}
use Rattle.work.specs.declared.Refusal.{Refusal}
use Rattle.work.specs.declared.Refusal.TheVariants.{InvalidInput}
use Rattle.litters.specs.Valid.{valid_litters_of}
use Rattle.litters.specs.Checks.{litter_checks, litters_fail}
use Rattle.summary.specs.declared.Counts.{Counts}
use Rattle.summary.specs.Summary.{counted_of, summary_of}

-- the refusal of a result, and another of an answer
abbrev refusal_or : Refusal → Result Counts Refusal → Refusal
refusal_or other (Ok c) = other
refusal_or other (Err e) = e

by_test : (t : Bool) (c : Counts) (e : Refusal) → cond t (Ok c) (Err InvalidInput) ≡ Err e → e ≡ InvalidInput
by_test true c e h = sym (ap (refusal_or InvalidInput) h)
by_test false c e h = sym (ap (refusal_or InvalidInput) h)

pub summary_refused : (ls : List ℕ) (e : Refusal) → summary_of ls ≡ Err e → e ≡ InvalidInput
unfolding summary_of
summary_refused ls e h = by_test (valid_litters_of ls) (counted_of ls) e h

pub invalid_refused : (ls : List ℕ) → valid_litters_of ls ≡ false → summary_of ls ≡ Err InvalidInput
unfolding summary_of
invalid_refused ls h = rw h

pub any_fails : (ls : List ℕ) (i : ℕ) → get_or (litter_checks ls) i true ≡ false → summary_of ls ≡ Err InvalidInput
any_fails ls i h = invalid_refused ls (litters_fail ls i h)
