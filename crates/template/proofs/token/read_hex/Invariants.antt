-- The digits still to come decide the whole; j digits are below 16^j.
use Rattle.std.proofs.Common.{◌≡◌, ◌-◌, ◌^◌, ◌<◌}
use Rattle.template.specs.Field as Field
use Rattle.template.proofs.token.read_hex.Given as goal

abbrev pub invariant-loop : goal.invariant-loop
invariant-loop l = (Field.read_hex (16 - l.counter) l.value l.rest ≡ Field.read_hex 16 0 l.text) × (l.value < 16 ^ l.counter)
