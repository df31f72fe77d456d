-- What a vetting puts into a host's buffers.
use Rattle.std.specs.Prelude.{Bool, cond, ◌&&◌, List, [], ◌∷◌, ℕ, eqb, leb, length, Float, Result, Ok, Err}
use Rattle.num.specs.F64.{zero·}
use Rattle.store.specs.Stored.{stored}
use Rattle.store.specs.Given.{Given, given}
use Rattle.claim.specs.declared.Refused.{Refused}
use Rattle.claim.specs.declared.Vetted.{Vetted}
use Rattle.claim.specs.Claim.{number_of, reason_of}

-- twelve bounds, the claim's five numbers, room for two numbers and two counts
unfoldable pub vet_room_of : ℕ → ℕ → ℕ → ℕ → Bool
vet_room_of bounds claim numbers counts = (eqb bounds 12 && eqb claim 5) && (leb 2 numbers && leb 2 counts)

-- 0 with the likelihood and the norm, or the refusal's number and zeros; the counts are the evaluations and the reason
unfoldable pub put_vetted_of : Result Vetted Refused → List Float → List ℕ → Given
put_vetted_of (Ok v) numbers counts = given 0 (stored numbers (v.nll ∷ v.norm ∷ [])) (stored counts (v.used.0 ∷ 0 ∷ []))
put_vetted_of (Err e) numbers counts = given (number_of e.refusal) (stored numbers (zero· ∷ zero· ∷ [])) (stored counts (e.used.0 ∷ reason_of e.refusal ∷ []))

-- where the length of an argument is wrong or a buffer is too short: 1, and nothing is written
unfoldable pub vetted_given : Result Vetted Refused → List Float → List Float → List Float → List ℕ → Given
vetted_given v bounds claim numbers counts = cond (vet_room_of (length bounds) (length claim) (length numbers) (length counts)) (put_vetted_of v numbers counts) (given 1 numbers counts)
