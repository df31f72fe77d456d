-- `stages::etas` meets its contract: what its sixteen calls give.
use borrow.Author.Rules.{rules}
use Rattle.num.specs.Made.{made}
use Rattle.nodes.specs.Stages.{etas_of}
use Rattle.nodes.proofs.stages.etas.Goals as goal

pub returns : goal.returns
unfolding etas_of
returns c = made _ _ _ (λ i y q l s. (search rules, search rules)) _ c.from_fn.ensures.items
