-- A refusal as the paper numbers it, and the reason of a Domain.
use Rattle.std.specs.Prelude.{ℕ}
use Rattle.work.specs.declared.Refusal.{Refusal}
use Rattle.work.specs.declared.Refusal.TheVariants.{InvalidInput, Domain, WorkBudget}

abbrev pub number_of : Refusal → ℕ
number_of InvalidInput = 1
number_of (Domain r) = 2
number_of WorkBudget = 3

-- 0 for what is no Domain
abbrev pub reason_of : Refusal → ℕ
reason_of InvalidInput = 0
reason_of (Domain r) = r
reason_of WorkBudget = 0
