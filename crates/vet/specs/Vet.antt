-- A claim vetted: the request is checked in full, the claimed point has to lie in its box, and the objective there, called alone, decides.
use Rattle.std.specs.Prelude.{cond, ◌&&◌, List, ℕ, Result}
use Rattle.objective.specs.Objective.{objective_of}
use Rattle.request.specs.declared.Request.{Request}
use Rattle.request.specs.Request.{admitted_of, valid_limit, low_of, high_of}
use Rattle.claim.specs.declared.Claim.{Claim}
use Rattle.claim.specs.declared.Refusal.TheVariants.{InvalidInput, OutsideBox}
use Rattle.claim.specs.declared.Refused.{Refused}
use Rattle.claim.specs.declared.Vetted.{Vetted}
use Rattle.claim.specs.Claim.{point_in, in_box_of, refusal_of, judged_of}

unfoldable pub placed_of : Request → List ℕ → Claim → Result Vetted Refused
placed_of r ls c =
    cond (in_box_of (point_in c) (low_of r) (high_of r))
    (judged_of (low_of r) (high_of r) r.tolerance (point_in c) c.nll (objective_of (point_in c) ls))
    (refusal_of OutsideBox 0)

unfoldable pub vet_of : Request → List ℕ → Claim → Result Vetted Refused
vet_of r ls c = cond (valid_limit r.quadrature.0 && admitted_of r ls) (placed_of r ls c) (refusal_of InvalidInput 0)
