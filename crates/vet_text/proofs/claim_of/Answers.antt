-- `vet_text::claim_of` meets its contract.
use Rattle.vet_text.specs.Answer.{claim_in}
use Rattle.vet_text.proofs.claim_of.Goals as goal

pub returns : goal.returns
unfolding claim_in
returns c = cc
