-- The litters still to come make the table the whole.
use Rattle.std.proofs.Common.{◌≡◌, drop}
use Rattle.litters.specs.Table.{no_rows, with_rows}
use Rattle.litters.proofs.table.to_table.Given as goal

abbrev pub invariant-loop-i : goal.invariant-loop-i
invariant-loop-i l = with_rows (drop l.i l.litters) l.i l.numbers ≡ with_rows l.litters 0 no_rows
