-- The answers for `record`: a record's lines have one value each.
use Rattle.std.proofs.Common.{lit≤}
use Rattle.template.specs.Template.{holes}
use Rattle.replay.proofs.record.Goals as goal

pub part-requires-clause-places : goal.part-requires-clause-places
unfolding holes
part-requires-clause-places c = lit≤ tt

pub part-requires-2-clause-places : goal.part-requires-2-clause-places
unfolding holes
part-requires-2-clause-places c = lit≤ tt
