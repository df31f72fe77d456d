-- The first i litters stand in the buffer.
use Rattle.std.proofs.Common.{◌≡◌}
use Rattle.std.proofs.lemmas.List.Edits.{sets}
use Rattle.archive_write.specs.Archive.{litters_to}
use Rattle.archive_write.proofs.put_litters.Given as goal

abbrev pub invariant-loop-i : goal.invariant-loop-i
invariant-loop-i l = l.out ≡ sets l.initial.out 0 (litters_to l.litters l.i)
