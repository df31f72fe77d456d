-- A request that fails a check is refused before its claim is looked at; so are litters that are not valid, whatever else the request holds.
use Rattle.std.specs.Prelude.{◌≡◌, false, List, ℕ, ◌<◌}
use Rattle.work.specs.Metered.{split}
use Rattle.litters.specs.Litters.{count_of}
use Rattle.litters.specs.Valid.{valid_litters_of}
use Rattle.litters.specs.Checks.{many_invalid}
use Rattle.request.specs.declared.Request.{Request}
use Rattle.request.specs.Request.{valid_limit}
use Rattle.request.specs.Checks.{not_admitted}
use Rattle.claim.specs.declared.Claim.{Claim}
use Rattle.claim.specs.declared.Refusal.TheVariants.{InvalidInput}
use Rattle.claim.specs.Claim.{refusal_of}
use Rattle.vet.specs.Vet.{vet_of}
use Rattle.vet.specs.Accepted.{checked}

module _ (r : Request) (ls : List ℕ) (c : Claim) where
  pub unfit_refused : checked r ls ≡ false → vet_of r ls c ≡ refusal_of InvalidInput 0
  unfolding vet_of
  unfit_refused h = rw h

  pub invalid_refused : valid_litters_of ls ≡ false → vet_of r ls c ≡ refusal_of InvalidInput 0
  invalid_refused h = unfit_refused (split (valid_limit r.quadrature.0) (λ t. rw (t, not_admitted r ls h)) (λ t. rw t))

  pub many_refused : 128 < count_of ls → vet_of r ls c ≡ refusal_of InvalidInput 0
  many_refused h = invalid_refused (many_invalid ls h)
