-- Past its check no limit of the request is read: two requests that differ in their limits alone, and pass their checks, are vetted alike.
use Rattle.std.specs.Prelude.{◌≡◌, true, List, ℕ}
use Rattle.std.proofs.Math.Path.{refl}
use Rattle.request.specs.declared.Request.{Request}
use Rattle.claim.specs.declared.Claim.{Claim}
use Rattle.vet.specs.Vet.{placed_of, vet_of}
use Rattle.vet.specs.Accepted.{checked}

-- the request with other limits: evaluations, iterations, work
abbrev pub with_limits : Request → ℕ → ℕ → ℕ → Request
with_limits r e k l = record { mean = r.mean; sd = r.sd; evaluations = record { 0 = e }; iterations = record { 0 = k }; quadrature = record { 0 = l }; tolerance = r.tolerance }

module _ (r : Request) (ls : List ℕ) (c : Claim) (e k l : ℕ) where
  placed_unread : placed_of (with_limits r e k l) ls c ≡ placed_of r ls c
  unfolding placed_of
  placed_unread = refl

  pub limits_unread : checked r ls ≡ true → checked (with_limits r e k l) ls ≡ true → vet_of (with_limits r e k l) ls c ≡ vet_of r ls c
  unfolding vet_of
  limits_unread h g = rw (h, g) placed_unread
