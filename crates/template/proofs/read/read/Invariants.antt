-- The rest of the template decides the whole; the values so far stand in front.
use Rattle.template.proofs.ReadLaws.{Left}
use Rattle.template.proofs.read.read.Given as goal

abbrev pub invariant-loop-c : goal.invariant-loop-c
invariant-loop-c l = Left l.template l.text l.first l.rest l.line l.n l.values l.c-index
