-- `Archive::open` meets its contract: what passed the test has the shape.
use Rattle.num.specs.Choose.{choose}
use Rattle.archive.proofs.Laws.{has_shape}
use Rattle.archive.proofs.opened.Archive.open.Goals as goal

pub invariant_of-result : goal.invariant_of-result
invariant_of-result c = record { shape = search (has_shape, choose) }
