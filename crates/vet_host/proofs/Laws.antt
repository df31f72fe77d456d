-- What is handed on is vetted as all is.
use Rattle.std.proofs.Common.{◌≡◌, List, ℕ, length, take, refl, ◌∙◌, Result}
use Rattle.litters.specs.Table.{handed_on_of}
use Rattle.litters.specs.HandedOn as litters
use Rattle.request.specs.declared.Request.{Request}
use Rattle.claim.specs.declared.Claim.{Claim}
use Rattle.claim.specs.declared.Refusal.TheVariants.{InvalidInput}
use Rattle.claim.specs.declared.Refused.{Refused}
use Rattle.claim.specs.declared.Vetted.{Vetted}
use Rattle.claim.specs.Claim.{refusal_of}
use Rattle.vet.specs.Vet.{vet_of}
use Rattle.vet.specs.Refused.{invalid_refused}

handed_on : (r : Request) (ls : List ℕ) (c : Claim) → vet_of r (take (handed_on_of (length ls)) ls) c ≡ vet_of r ls c
handed_on r ls c = litters.handed_on (λ ns. vet_of r ns c) (refusal_of InvalidInput 0) (λ ns h. invalid_refused r ns c h) ls _ refl

pub vetted : (v : Result Vetted Refused) (r : Request) (ls ks : List ℕ) (c d : Claim) → v ≡ vet_of r ks c → ks ≡ take (handed_on_of (length ls)) ls → c ≡ d → v ≡ vet_of r ls d
vetted v r ls ks c d e h i = rw (h, i) at e ∙ handed_on r ls d
