-- What is answered of the numbers that are handed on is what is answered of the litters.
use Rattle.std.specs.Prelude.{◌≡◌, List, Float, Err}
use Rattle.work.specs.declared.Refusal.TheVariants.{InvalidInput}
use Rattle.objective.specs.Objective.{objective_of, refused_of as no_objective}
use Rattle.objective.specs.Checks.{invalid_refused as objective_refused}
use Rattle.summary.specs.Summary.{summary_of}
use Rattle.summary.specs.Refused.{invalid_refused as summary_refused}
use Rattle.request.specs.declared.Request.{Request}
use Rattle.fit.specs.Fit.{refused_of, fit_of}
use Rattle.fit.specs.Refused.{invalid_refused as fit_refused}
use Rattle.litters.specs.declared.Litter.{Litter}
use Rattle.litters.specs.Litters.{numbers_of}
use Rattle.litters.specs.Table.{lent_of}
use Rattle.litters.specs.HandedOn.{as_lent}

module _ (ls : List Litter) where
  pub fit_kept : (r : Request) → fit_of r (lent_of ls) ≡ fit_of r (numbers_of ls)
  fit_kept r = as_lent (fit_of r) (Err (refused_of InvalidInput 0)) (fit_refused r) ls

  pub objective_kept : (x : List Float) → objective_of x (lent_of ls) ≡ objective_of x (numbers_of ls)
  objective_kept x = as_lent (objective_of x) (Err (no_objective InvalidInput 0)) (objective_refused x) ls

  pub summary_kept : summary_of (lent_of ls) ≡ summary_of (numbers_of ls)
  summary_kept = as_lent summary_of (Err InvalidInput) summary_refused ls
