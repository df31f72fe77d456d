-- A refusal is why there is no answer, and the meter's count.
use Rattle.std.specs.Prelude.{◌≡◌, Err}
use Rattle.work.specs.declared.Refusal.{Refusal}
use Rattle.work.specs.declared.Meter.{Meter}
use Rattle.work.specs.Work.{Metered}
use Rattle.work.specs.Answer.{outcome, leaves, counted, spent}

pub told_refused : {A : Type 0} (m : Meter) (r : Metered A) (e : Refusal) → outcome r.ended ≡ Err e → spent m r ≡ leaves (Err e) (counted m r.used)
told_refused m r e h = rw h
