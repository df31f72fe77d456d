-- `rows::events` meets its contract, as the counts still to come add to the sum the whole.
use mathlib.Core.Path.{◌≡◌}
use Prim.Native.Nat.{◌+◌, ◌-◌, ◌*◌, ◌≤◌}
use lib.ListN.{length}
use Rattle.exposure.specs.Rows.{events_from, events_of}
use Rattle.exposure.proofs.rows.events.Given as goal

abbrev pub invariant-loop-count : goal.invariant-loop-count
invariant-loop-count l = (l.count-index ≤ length l.counts) × (l.sum ≤ l.count-index * 4294967295) × (l.sum + events_from l.counts (length l.counts - l.count-index) l.count-index ≡ events_of l.counts)

abbrev pub decreases-loop-count : goal.decreases-loop-count
decreases-loop-count l = length l.counts - l.count-index
