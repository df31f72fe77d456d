-- More than 128 litters are InvalidInput, whatever is claimed; and every verdict fits the buffer.
use Rattle.std.specs.Prelude.{◌≡◌, List, [], ◌∷◌, ℕ, ◌≤◌, ◌<◌, length, Result, Ok, Err}
use Rattle.std.proofs.Common.{arith}
use Rattle.num.specs.F64.{bits_of}
use Rattle.template.specs.Template.{ascii}
use Rattle.render.specs.Width.{width, length_render}
use Rattle.litters.specs.Litters.{count_of}
use Rattle.print.specs.Answer.{refusal_text}
use Rattle.print.specs.Room.{room, refusal_fits}
use Rattle.text.specs.Answer.{request_in, litters_of}
use Rattle.text.specs.Answered.{count_litters}
use Rattle.claim.specs.declared.Refused.{Refused}
use Rattle.claim.specs.declared.Vetted.{Vetted}
use Rattle.claim.specs.Claim.{number_of, reason_of}
use Rattle.vet.specs.Vet.{vet_of}
use Rattle.vet.specs.Refused.{many_refused}
use Rattle.claimed.specs.Claimed.{Claims, claims, departed, read_claimed}
use Rattle.vet_text.specs.Answer.{claim_in, accepted_text, vetted_text, vet_to, vet_text}

pub many_answer : (vs us : List ℕ) (ls : List (List ℕ)) → 128 < length ls → vet_to (claims vs ls us) ≡ refusal_text 1 0 0
unfolding vetted_text
many_answer vs us ls h = let m : 128 < count_of (litters_of ls) = omega (arith, count_litters ls) in rw (many_refused (request_in vs) (litters_of ls) (claim_in us) m)

pub accepted_fits : (count nll norm : ℕ) → length (accepted_text count nll norm) ≤ 64
unfolding accepted_text width
accepted_fits count nll norm = length_render (ascii "accepted # % %\n") (count ∷ nll ∷ norm ∷ [])

pub vetted_fits : (v : Result Vetted Refused) → length (vetted_text v) ≤ room
unfolding vetted_text
vetted_fits (Ok v) = omega (arith, accepted_fits v.used.0 (bits_of v.nll) (bits_of v.norm))
vetted_fits (Err e) = omega (arith, refusal_fits (number_of e.refusal) e.used.0 (reason_of e.refusal))

by_claims : (q : Claims) → length (vet_to q) ≤ room
by_claims (departed line) = omega (arith, refusal_fits 4 0 line)
by_claims (claims vs ls us) = vetted_fits (vet_of (request_in vs) (litters_of ls) (claim_in us))

pub text_fits : (text : List ℕ) → length (vet_text text) ≤ room
unfolding vet_text
text_fits text = by_claims (read_claimed text)
