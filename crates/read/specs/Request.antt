-- A request's text: what it is, and how it is read.
use Rattle.std.specs.Prelude.{Bool, true, false, cond, ◌&&◌, List, [], ◌∷◌, ◌++◌, ℕ, zero, suc, ◌+◌, ◌-◌, ltb, eqb, length}
use Rattle.template.specs.Template.{ascii, first, after, render}
use Rattle.template.specs.Read.{Reading, done, departs_at, read}

-- Seven lines: bounds come low, high, start; work is evaluations, iterations, quadrature.
unfoldable pub head : List ℕ
head = ascii "probit-request 1\nmean 0 % % %\nmean 1 % % %\nsd 0 % % %\nsd 1 % % %\nwork # # #\ntolerance %\n"

-- group, successes, total
unfoldable pub litter : List ℕ
litter = ascii "litter # # #\n"

-- the number of litters, and the byte at which the first litter line starts
unfoldable pub closing : List ℕ
closing = ascii "rows # at #\n"

-- What a text asks: the head's sixteen values, an f64 by its bits, and the three numbers of each litter.
pub data Asked : Type 0 where
  asked : List ℕ → List (List ℕ) → Asked
  form : ℕ → Asked

-- ---- rendering: the text of a request with each f64 in hexadecimal

unfoldable pub render_litters : List (List ℕ) → List ℕ
render_litters [] = []
render_litters (l ∷ ls) = render litter l ++ render_litters ls

unfoldable pub render_request : List ℕ → List (List ℕ) → List ℕ
render_request vs ls = render head vs ++ (render_litters ls ++ render closing (length ls ∷ length (render head vs) ∷ []))

-- ---- reading

abbrev pub is_empty : List ℕ → Bool
is_empty [] = true
is_empty (c ∷ s) = false

-- one litter more in front
abbrev pub with_litter : List ℕ → Asked → Asked
with_litter l (asked vs ls) = asked vs (l ∷ ls)
with_litter l (form line) = form line

-- the last line has n litters before it, the first at byte `start`, and nothing after it
abbrev pub read_last : List ℕ → ℕ → ℕ → ℕ → Reading → Asked
read_last vs line start n (departs_at k) = form line
read_last vs line start n (done us t) = cond (eqb (first us) n && eqb (first (after us)) start) (cond (is_empty t) (asked vs []) (form (line + 1))) (form line)

-- a line is a litter, or else the last
abbrev pub read_row : List ℕ → ℕ → ℕ → ℕ → List ℕ → Reading → (List ℕ → Asked) → Asked
read_row vs line start n s (done l t) go = with_litter l (go t)
read_row vs line start n s (departs_at k) go = read_last vs line start n (read closing line s)

-- at most k lines more: n litters stand before them
unfoldable pub read_rows : ℕ → List ℕ → ℕ → ℕ → List ℕ → Asked
read_rows zero vs start n s = form (8 + n)
read_rows (suc k) vs start n s = read_row vs (8 + n) start n s (read litter (8 + n) s) (read_rows k vs start (n + 1))

-- the first litter line starts where the head ends; no text of 8,192 bytes has 8,192 litters
abbrev pub read_after : List ℕ → Reading → Asked
read_after text (departs_at line) = form line
read_after text (done vs s) = read_rows 8192 vs (length text - length s) 0 s

-- 0 for too many bytes
unfoldable pub read_request : List ℕ → Asked
read_request text = cond (ltb 8192 (length text)) (form 0) (read_after text (read head 1 text))
