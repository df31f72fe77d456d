-- `render::places` meets its contract: what was passed and what is left are the whole.
use mathlib.Core.Path.{◌≡◌}
use Prim.Native.Nat.{◌+◌, ◌-◌, ◌≤◌}
use Rattle.template.specs.Digits.{places_from}
use Rattle.render.proofs.places.Given as goal

abbrev pub invariant-loop-k : goal.invariant-loop-k
invariant-loop-k l = (places_from (20 - l.k) l.rest + (l.k - 1) ≡ places_from 19 l.n) × (1 ≤ l.k) × (l.k ≤ 20)

abbrev pub decreases-loop-k : goal.decreases-loop-k
decreases-loop-k l = 20 - l.k
