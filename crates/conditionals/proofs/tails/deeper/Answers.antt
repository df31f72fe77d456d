-- `tails::deeper` meets its contract: what its sixteen calls give.
use borrow.Author.Rules.{rules}
use Rattle.num.specs.Made.{made}
use Rattle.conditionals.specs.Tails.{deeper_of}
use Rattle.conditionals.proofs.tails.deeper.Goals as goal

pub returns : goal.returns
unfolding deeper_of
returns c = made _ _ _ (λ i y q l s. (search rules, search rules)) _ c.from_fn.ensures.items
