-- `render::digits` meets its contract: what stands written, with the digits left, is the whole.
use mathlib.Core.Path.{◌≡◌}
use Prim.Native.Nat.{◌-◌, ◌≤◌}
use lib.ListN.{length}
use Rattle.template.specs.Digits.{digits}
use Rattle.render.specs.Written.{written}
use Rattle.render.proofs.digits.Given as goal

abbrev pub invariant-loop-i : goal.invariant-loop-i
invariant-loop-i l = (written l.out l.i (digits l.base (l.end - l.i) l.n) ≡ written l.initial.out l.at (digits l.base l.k l.n)) × (length l.out ≡ length l.initial.out) × (l.at ≤ l.i) × (l.i ≤ l.end)

abbrev pub decreases-loop-i : goal.decreases-loop-i
decreases-loop-i l = l.end - l.i
