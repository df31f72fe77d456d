-- The whole program: a request's bytes to an answer's bytes.
use Rattle.std.specs.Prelude.{List, [], ◌∷◌, ℕ, get_or, Float}
use Rattle.num.specs.F64.{bits}
use Rattle.request.specs.declared.Request.{Request}
use Rattle.request.specs.Request.{request_of}
use Rattle.fit.specs.Fit.{fit_of}
use Rattle.read.specs.Request.{Asked, asked, form, read_request}
use Rattle.print.specs.Answer.{refusal_text, fit_text}

-- the request that the head's values ask for, each f64 made of its bits
abbrev pub number : List ℕ → ℕ → Float
number vs i = bits (get_or vs i 0)

abbrev pub numbers : List ℕ → List Float
numbers vs =
    let n = number vs in
    n 0 ∷ n 1 ∷ n 2 ∷ n 3 ∷ n 4 ∷ n 5 ∷ n 6 ∷ n 7 ∷ n 8 ∷ n 9 ∷ n 10 ∷ n 11 ∷ []

unfoldable pub request_in : List ℕ → Request
request_in vs = request_of (numbers vs) (number vs 15) (get_or vs 12 0) (get_or vs 13 0) (get_or vs 14 0)

-- a line gives group, successes, total; the engine takes successes, total, group
unfoldable pub litters_of : List (List ℕ) → List ℕ
litters_of [] = []
litters_of (l ∷ ls) = get_or l 1 0 ∷ get_or l 2 0 ∷ get_or l 0 0 ∷ litters_of ls

abbrev pub answer_to : Asked → List ℕ
answer_to (form line) = refusal_text 4 0 line
answer_to (asked vs ls) = fit_text (fit_of (request_in vs) (litters_of ls))

unfoldable pub answer_text : List ℕ → List ℕ
answer_text text = answer_to (read_request text)
