-- Where a length is wrong, a call gives 1 and both buffers are as they were.
use Rattle.std.specs.Prelude.{◌≡◌, false, List, ℕ, length, Float, Result}
use Rattle.counts.specs.declared.sum.Objective.{Objective}
use Rattle.counts.specs.declared.sum.Refused.{Refused}
use Rattle.counts_fit.specs.declared.report.Fit.{Fit}
use Rattle.counts_host.specs.Host.{objective_room_of, objective_given, fit_room_of, fit_given}
use Rattle.store.specs.Given.{given}

module _ (numbers : List Float) (counts : List ℕ) where
  pub objective_unwritten : (o : Result Objective Refused) → objective_room_of (length numbers) (length counts) ≡ false → objective_given o numbers counts ≡ given 1 numbers counts
  unfolding objective_given
  objective_unwritten o h = rw h

  pub fit_unwritten : (f : Result Fit Refused) (bounds : List Float) → fit_room_of (length bounds) (length numbers) (length counts) ≡ false → fit_given f bounds numbers counts ≡ given 1 numbers counts
  unfolding fit_given
  fit_unwritten f bounds h = rw h
