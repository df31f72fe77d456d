-- `render::put` meets its contract: what stands written, with what the rest of the template becomes, is the whole.
use mathlib.Core.Path.{◌≡◌}
use Prim.Native.Nat.{◌+◌, ◌≤◌}
use lib.ListN.{length, drop}
use Rattle.template.specs.Template.{render}
use Rattle.render.specs.Written.{written}
use Rattle.render.specs.Width.{width}
use Rattle.render.proofs.Laws.{rest}
use Rattle.render.proofs.put.Given as goal

abbrev pub invariant-loop-c : goal.invariant-loop-c
invariant-loop-c l =
    (written l.out l.next (rest l.template l.values l.c-index l.taken) ≡ written l.initial.out l.at (render l.template l.values)) ×
    (l.next + length (rest l.template l.values l.c-index l.taken) ≡ l.at + length (render l.template l.values)) ×
    (length l.out ≡ length l.initial.out) × (l.next + width (drop l.c-index l.template) ≤ length l.initial.out) × (l.taken ≤ l.c-index) × (l.c-index ≤ length l.template)
