-- `stages::places` meets its contract: what its sixteen calls give.
use borrow.Author.Rules.{rules}
use Rattle.num.specs.Made.{made}
use Rattle.nodes.specs.Stages.{places_of}
use Rattle.nodes.proofs.stages.places.Goals as goal

pub returns : goal.returns
unfolding places_of
returns c = made _ _ _ (λ i y q l s. (search rules, search rules)) _ c.from_fn.ensures.items
