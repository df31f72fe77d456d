-- Where a length is wrong, a call gives 1 and both buffers are as they were.
use Rattle.std.specs.Prelude.{◌≡◌, false, List, [], ℕ, leb, length, Float, Result}
use Rattle.objective.specs.declared.sum.Objective.{Objective}
use Rattle.objective.specs.declared.sum.Refused as objective
use Rattle.summary.specs.declared.Counts.{Counts}
use Rattle.work.specs.declared.Refusal.{Refusal}
use Rattle.fit.specs.declared.report.Fit.{Fit}
use Rattle.fit.specs.declared.report.Refused as fit
use Rattle.buffers.specs.Buffers.{fit_room_of, fit_given, objective_room_of, objective_given, summary_given}
use Rattle.store.specs.Given.{given}

module _ (counts : List ℕ) where
  pub fit_unwritten : (f : Result Fit fit.Refused) (bounds numbers : List Float) → fit_room_of (length bounds) (length numbers) (length counts) ≡ false → fit_given f bounds numbers counts ≡ given 1 numbers counts
  unfolding fit_given
  fit_unwritten f bounds numbers h = rw h

  pub objective_unwritten : (o : Result Objective objective.Refused) (point numbers : List Float) → objective_room_of (length point) (length numbers) (length counts) ≡ false → objective_given o point numbers counts ≡ given 1 numbers counts
  unfolding objective_given
  objective_unwritten o point numbers h = rw h

  pub summary_unwritten : (s : Result Counts Refusal) → leb 8 (length counts) ≡ false → summary_given s counts ≡ given 1 [] counts
  unfolding summary_given
  summary_unwritten s h = rw h
