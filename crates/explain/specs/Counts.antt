-- Why a fit took its steps, as counts that are put into a host's buffers beside the fit.
use Rattle.std.specs.Prelude.{Bool, cond, ◌&&◌, List, [], ◌∷◌, ◌++◌, ℕ, leb, length, Float, Option, Some, None, Result, Ok, Err}
use Rattle.work.specs.declared.Refusal.{Refusal}
use Rattle.work.specs.Refusal.{number_of, reason_of}
use Rattle.descent.specs.declared.Trial.{Trial}
use Rattle.why.specs.declared.Test.{Test}
use Rattle.why.specs.declared.Refused as why
use Rattle.why.specs.Why.{kind_of, test_number}
use Rattle.fit.specs.declared.report.Fit.{Fit}
use Rattle.fit.specs.declared.report.Refused as fit
use Rattle.fit.specs.declared.report.Seen.{Seen}
use Rattle.store.specs.Stored.{stored}
use Rattle.buffers.specs.Buffers.{fit_room_of, put_fit_of}
use Rattle.store.specs.Given.{Given, given}
use Rattle.explain.specs.Lines.{bits_in, litter_in}

-- kind, the bits of the number that decided, and of a trial that was not made the refusal's number, count and reason
abbrev pub trial_counts_of : Option (Result Trial Refusal) → ℕ → List ℕ
trial_counts_of (Some (Ok t)) used = kind_of t ∷ bits_in t ∷ 0 ∷ 0 ∷ 0 ∷ []
trial_counts_of (Some (Err e)) used = 7 ∷ 0 ∷ number_of e ∷ used ∷ reason_of e ∷ []
trial_counts_of None used = 0 ∷ 0 ∷ 1 ∷ 0 ∷ 0 ∷ []

-- the test that stopped the fit, or the litter at which it was refused
abbrev pub ending_counts_of : Result Test why.Refused → List ℕ
ending_counts_of (Ok t) = test_number t ∷ 0 ∷ []
ending_counts_of (Err e) = 0 ∷ litter_in e.litter ∷ []

-- the quadrature evaluations behind a fit or its refusal
abbrev pub used_of : Result Fit fit.Refused → ℕ
used_of (Ok f) = f.quadrature.0
used_of (Err e) = e.quadrature.0

unfoldable pub why_counts_of : Seen → List ℕ
why_counts_of s = trial_counts_of s.why (used_of s.fit) ++ ending_counts_of s.stop

-- ---- a host's buffers: those of a fit, and seven places more

pub record Got : Type 0 where
  pub fit : Given
  pub reasons : List ℕ

abbrev pub got : ℕ → List Float → List ℕ → List ℕ → Got
got value numbers counts reasons = record { fit = given value numbers counts; reasons = reasons }

unfoldable pub why_room_of : ℕ → ℕ → ℕ → ℕ → Bool
why_room_of bounds numbers counts reasons = fit_room_of bounds numbers counts && leb 7 reasons

unfoldable pub put_why_of : Seen → List Float → List ℕ → List ℕ → Got
put_why_of s numbers counts reasons = record { fit = put_fit_of s.fit numbers counts; reasons = stored reasons (why_counts_of s) }

-- where a length is wrong: 1, and nothing is written
unfoldable pub why_given : Seen → List Float → List Float → List ℕ → List ℕ → Got
why_given s bounds numbers counts reasons =
    cond (why_room_of (length bounds) (length numbers) (length counts) (length reasons)) (put_why_of s numbers counts reasons) (got 1 numbers counts reasons)
