-- `normals::across` meets its contract: what its sixteen calls give.
use borrow.Author.Rules.{rules}
use Rattle.num.specs.Made.{made}
use Rattle.conditionals.specs.Normals.{across_of}
use Rattle.conditionals.proofs.normals.across.Goals as goal

pub returns : goal.returns
unfolding across_of
returns c = made _ _ _ (λ i y q l s. (search rules, search rules)) _ c.from_fn.ensures.items
