-- `legendre` meets its contract: what its sixteen calls give.
use borrow.Author.Rules.{rules}
use Rattle.num.specs.Made.{made}
use Rattle.legendre.specs.Legendre.{legendre_of}
use Rattle.legendre.proofs.legendre.Goals as goal

pub returns : goal.returns
unfolding legendre_of
returns c = made _ _ _ (λ i y q l s. (search rules, search rules)) _ c.from_fn.ensures.items
