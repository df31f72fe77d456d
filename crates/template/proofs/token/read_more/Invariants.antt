-- The digits still to come decide the whole.
use Rattle.std.proofs.Common.{◌≡◌, ◌^◌, ◌<◌, length}
use Rattle.template.specs.Field as Field
use Rattle.template.proofs.token.read_more.Given as goal

abbrev pub invariant-loop-digit : goal.invariant-loop-digit
invariant-loop-digit l = (Field.read_more l.value l.rest ≡ Field.read_more l.first l.text) × (l.value < 2 ^ 32)

abbrev pub decreases-loop-digit : goal.decreases-loop-digit
decreases-loop-digit l = length l.rest
