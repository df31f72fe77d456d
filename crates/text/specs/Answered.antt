-- What the answer's text is where the request's departs from the form or has too many litters, and that every answer fits the buffer.
use Rattle.std.specs.Prelude.{◌≡◌, refl, List, [], ◌∷◌, ℕ, ◌*◌, ◌≤◌, ◌<◌, length}
use Rattle.std.proofs.Common.{ap, ◌∙◌, arith}
use Rattle.litters.specs.Litters.{count_of}
use Rattle.fit.specs.Fit.{fit_of}
use Rattle.fit.specs.Refused.{many_refused}
use Rattle.read.specs.Request.{Asked, asked, form, read_request}
use Rattle.read.specs.BothWays.{SpellsRequest, request_read_back}
use Rattle.read.specs.Departure.{Departure, departure_is_form}
use Rattle.print.specs.Answer.{refusal_text, fit_text}
use Rattle.print.specs.Room.{room, refusal_fits, answer_fits}
use Rattle.text.specs.Answer.{request_in, litters_of, answer_to, answer_text}

-- Form, with the line at which the text departs
pub departure_answer : (text : List ℕ) (k : ℕ) → Departure text k → answer_text text ≡ refusal_text 4 0 k
unfolding answer_text
departure_answer text k d = ap answer_to (departure_is_form text k d)

length_litters : (ls : List (List ℕ)) → length (litters_of ls) ≡ 3 * length ls
unfolding litters_of
length_litters [] = refl
length_litters (l ∷ ls) = rw (length_litters ls) (omega arith)

pub count_litters : (ls : List (List ℕ)) → count_of (litters_of ls) ≡ length ls
count_litters ls = omega (arith, length_litters ls)

-- more than 128 litters
pub many_answer : (vs : List ℕ) (ls : List (List ℕ)) → 128 < length ls → answer_to (asked vs ls) ≡ refusal_text 1 0 0
unfolding fit_text
many_answer vs ls h = let m : 128 < count_of (litters_of ls) = omega (arith, count_litters ls) in rw (many_refused (request_in vs) (litters_of ls) m)

pub many_lines : (text vs : List ℕ) (ls : List (List ℕ)) → SpellsRequest vs ls text → length text ≤ 8192 → 128 < length ls → answer_text text ≡ refusal_text 1 0 0
unfolding answer_text
many_lines text vs ls a n h = ap answer_to (request_read_back text vs ls a n) ∙ many_answer vs ls h

by_asked : (q : Asked) → length (answer_to q) ≤ room
by_asked (form line) = omega (arith, refusal_fits 4 0 line)
by_asked (asked vs ls) = answer_fits (fit_of (request_in vs) (litters_of ls))

pub text_fits : (text : List ℕ) → length (answer_text text) ≤ room
unfolding answer_text
text_fits text = by_asked (read_request text)
