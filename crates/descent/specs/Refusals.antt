-- A descent refuses nothing by itself: every refusal is of a value that it asked for.
use Rattle.work.specs.Ended.{Why}
use Rattle.work.specs.Stops.{Stops}
use Rattle.work.specs.Asks.{never_stops}
use Rattle.descent.specs.Descent.{Problem, descent}
use Rattle.descent.specs.Asking.{descent_asks}

pub never_refuses : {X O D : Type 0} (p : Problem X O D) (x : X) → Stops (λ (r : Why). ⊥) (descent p x)
never_refuses {X} {O} p x = never_stops (λ q v. tt) (descent_asks p (λ (x : X) (v : O). Unit {0}) (λ (x : X). Unit {0}) (λ x v i q k. tt) x tt)
