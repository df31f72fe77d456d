-- `lent::part_in` meets its contract, by its tests.
use borrow.Author.Rules.{rules}
use Rattle.parts.proofs.Laws.{part_bytes, part_first, part_second, part_wrong, part_refused, part_taken}
use Rattle.parts.proofs.lent.part_in.Goals as goal

pub returns-then-not-is_sized : goal.returns-then-not-is_sized
returns-then-not-is_sized c = search part_wrong

pub bounds-counts-1 : goal.bounds-counts-1
bounds-counts-1 c = search part_second

pub returns-then-counts-ne0 : goal.returns-then-counts-ne0
returns-then-counts-ne0 c = search part_refused

pub bounds-counts-0 : goal.bounds-counts-0
bounds-counts-0 c = search part_first

pub more-m-requires : goal.more-m-requires
more-m-requires c = search part_bytes

pub bounds-counts-0-2 : goal.bounds-counts-0-2
bounds-counts-0-2 c = search (part_first, rules)

pub returns : goal.returns
returns c = search part_taken
