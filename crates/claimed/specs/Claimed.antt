-- A request's text with a claim behind it: where the claim begins, and how both are read.
use Rattle.std.specs.Prelude.{cond, ◌&&◌, List, [], ◌∷◌, ℕ, suc, ◌+◌, ltb, eqb, length, take, drop}
use Rattle.template.specs.Template.{ascii}
use Rattle.template.specs.Read.{Reading, done, departs_at, read}
use Rattle.read.specs.Request.{Asked, asked, form, is_empty, read_request}

-- Three lines: two means, two variances, minus the log-likelihood.
unfoldable pub claim : List ℕ
claim = ascii "claim mean % %\nclaim variance % %\nclaim nll %\n"

-- What a text asks and claims: the request's values and litters, and five values, an f64 by its bits.
pub data Claims : Type 0 where
  claims : List ℕ → List (List ℕ) → List ℕ → Claims
  departed : ℕ → Claims

-- The claim begins at the first line that begins with a `c`, as no line of a request does; else at the end. `last` is the byte before, an LF at the start.
unfoldable pub claim_at_of : ℕ → List ℕ → ℕ
claim_at_of last [] = 0
claim_at_of last (c ∷ s) = cond (eqb last 10 && eqb c 99) 0 (suc (claim_at_of c s))

-- nothing follows the claim, which stands behind eight lines and those of its litters
abbrev pub read_claim : List ℕ → List (List ℕ) → Reading → Claims
read_claim vs ls (departs_at k) = departed k
read_claim vs ls (done us t) = cond (is_empty t) (claims vs ls us) (departed (12 + length ls))

-- the request first; s is what stands behind it
abbrev pub read_behind : List ℕ → Asked → Claims
read_behind s (form k) = departed k
read_behind s (asked vs ls) = read_claim vs ls (read claim (9 + length ls) s)

-- 0 for too many bytes
unfoldable pub read_claimed : List ℕ → Claims
read_claimed text = cond (ltb 8192 (length text)) (departed 0) (read_behind (drop (claim_at_of 10 text) text) (read_request (take (claim_at_of 10 text) text)))
