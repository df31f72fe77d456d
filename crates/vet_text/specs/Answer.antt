-- A verdict's text, and the whole program: the bytes of a request with a claim to those of the verdict.
use Rattle.std.specs.Prelude.{List, [], ◌∷◌, ℕ, get_or, Float, Result, Ok, Err}
use Rattle.num.specs.F64.{bits, bits_of}
use Rattle.template.specs.Template.{ascii, render}
use Rattle.print.specs.Answer.{refusal_text}
use Rattle.text.specs.Answer.{request_in, litters_of}
use Rattle.claim.specs.declared.Claim.{Claim}
use Rattle.claim.specs.declared.Refused.{Refused}
use Rattle.claim.specs.declared.Vetted.{Vetted}
use Rattle.claim.specs.Claim.{number_of, reason_of, claim_from}
use Rattle.vet.specs.Vet.{vet_of}
use Rattle.claimed.specs.Claimed.{Claims, claims, departed, read_claimed}

abbrev number : List ℕ → ℕ → Float
number us i = bits (get_or us i 0)

-- the claim of five values, each f64 made of its bits
unfoldable pub claim_in : List ℕ → Claim
claim_in us = claim_from (number us 0 ∷ number us 1 ∷ number us 2 ∷ number us 3 ∷ number us 4 ∷ [])

-- count, likelihood, norm
unfoldable pub accepted_text : ℕ → ℕ → ℕ → List ℕ
accepted_text count nll norm = render (ascii "accepted # % %\n") (count ∷ nll ∷ norm ∷ [])

-- a refusal is its number, its count and its reason, as a fit's is
unfoldable pub vetted_text : Result Vetted Refused → List ℕ
vetted_text (Ok v) = accepted_text v.used.0 (bits_of v.nll) (bits_of v.norm)
vetted_text (Err e) = refusal_text (number_of e.refusal) e.used.0 (reason_of e.refusal)

abbrev pub vet_to : Claims → List ℕ
vet_to (departed line) = refusal_text 4 0 line
vet_to (claims vs ls us) = vetted_text (vet_of (request_in vs) (litters_of ls) (claim_in us))

unfoldable pub vet_text : List ℕ → List ℕ
vet_text text = vet_to (read_claimed text)
