-- The answers for `read_unsigned`.
use Rattle.std.proofs.Common.{◌≡◌, ◌-◌, length, take, drop, arith}
use Rattle.std.proofs.lemmas.Grind.{common_steps}
use Rattle.template.specs.Template.{first, after}
use Rattle.template.proofs.ValueLaws.{in_all, is_decimal, no_nan}
use Rattle.template.proofs.value.read_unsigned.Goals as goal

pub decimal-x-requires : goal.decimal-x-requires
decimal-x-requires c =
    let whole = c.read_run-whole.ensures in
    let places = c.read_run-places.ensures in
    in_all _ _ _ _ whole.count c.if-whole-eq0.false c.if-places-eq0.false places.count whole.small places.small

pub float_to_bits-result : goal.float_to_bits-result
float_to_bits-result c = no_nan _ _ _ _ c.decimal-x.ensures.nearest

pub returns : goal.returns
returns c =
    let point : first c.read_run-whole.result.rest.now ≡ 46 = grind (arith, common_steps) in
    let behind : take (length c.read_run-whole.result.rest.now - 1) (drop 1 c.read_run-whole.result.rest.now) ≡ after c.read_run-whole.result.rest.now = grind (arith, common_steps) in
    is_decimal _ _ _ _ _ _ _ _ _ _ c.read_run-whole.ensures.run c.if-whole-eq0.false point behind c.read_run-places.ensures.run c.if-places-eq0.false c.decimal-x.ensures.value
