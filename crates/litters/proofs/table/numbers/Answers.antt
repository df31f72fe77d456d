-- The answers for `table::numbers`.
use Rattle.std.proofs.Common.{arith}
use Rattle.litters.specs.Kept.{few}
use Rattle.litters.proofs.table.numbers.Goals as goal

pub returns : goal.returns
returns c = rw c.to_table.ensures (few c.args.litters.now c.requires)
