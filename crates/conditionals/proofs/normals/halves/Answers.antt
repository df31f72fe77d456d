-- The answers for `halves`.
use mathlib.Core.Path.{refl}
use borrow.Author.Rules.{rules}
use Rattle.num.specs.Filled.{turns, ends}
use Rattle.conditionals.proofs.NormalsLaws.{size_at, half, both_arrays}
use Rattle.conditionals.proofs.normals.halves.Goals as goal

pub loop-i-init : goal.loop-i-init
loop-i-init c = ((refl, refl), (refl, refl))

pub erfc_with-e-requires : goal.erfc_with-e-requires
erfc_with-e-requires c = search size_at

pub loop-i-preserved : goal.loop-i-preserved
loop-i-preserved c = ((search rules, search (turns, half)), (search rules, search (turns, half)))

pub returns : goal.returns
returns c = search (both_arrays, ends)
