-- `vet_host::vet_in` meets its contract: what is handed on is vetted as all is.
use Rattle.vet_host.proofs.Laws.{vetted}
use Rattle.vet_host.proofs.vet_in.Goals as goal

pub returns : goal.returns
returns c = rw (← vetted _ _ _ _ _ _ c.vet-v.ensures c.handed_on.ensures c.claim_of.ensures) c.put_vetted.ensures
