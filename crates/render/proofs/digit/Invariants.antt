-- `render::digit` meets its contract.
use mathlib.Core.Path.{◌≡◌}
use Prim.Native.Nat.{◌-◌, ◌/◌, ◌^◌, ◌≤◌}
use Rattle.render.proofs.digit.Given as goal

abbrev pub invariant-loop : goal.invariant-loop
invariant-loop l = (l.rest ≡ l.n / l.base ^ l.counter) × (l.counter ≤ l.k)

abbrev pub decreases-loop : goal.decreases-loop
decreases-loop l = l.k - l.counter
