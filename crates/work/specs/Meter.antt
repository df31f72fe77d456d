-- A meter before its first evaluation, and one evaluation on it.
use Rattle.std.specs.Prelude.{◌≡◌, ◌+◌, cond, ltb, Result, Ok, Err}
use Rattle.work.specs.declared.Refusal.{Refusal}
use Rattle.work.specs.declared.Refusal.TheVariants.{WorkBudget}
use Rattle.work.specs.declared.QuadratureEvaluations.{QuadratureEvaluations}
use Rattle.work.specs.declared.Meter.{Meter}
use Rattle.work.specs.Answer.{leaves, counted}

-- no evaluation made yet
abbrev pub meter_of : QuadratureEvaluations → Meter
meter_of limit = record { used = record { 0 = 0 }; limit = limit }

-- where the limit leaves one more it is counted, else the meter stays
abbrev pub counts : Meter → Result (Unit {0}) Refusal → Meter → Type 0
counts m r n = leaves r n ≡ cond (ltb m.used.0 m.limit.0) (leaves (Ok tt) (counted m (m.used.0 + 1))) (leaves (Err WorkBudget) m)
