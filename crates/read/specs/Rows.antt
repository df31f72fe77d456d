-- The litters as the code keeps them: three numbers a litter, in the engine's order, for 128 litters at most.
use Rattle.std.specs.Prelude.{Result, Ok, Err, cond, List, [], ◌∷◌, ℕ, zero, suc, ◌+◌, ltb, length, get_or}
use Rattle.template.specs.Read.{Reading, done, departs_at, read}
use Rattle.template.specs.declared.read.Form.{Form}
use Rattle.litters.specs.Table.{row_in}
use Rattle.read.specs.declared.Asking.{Asking}
use Rattle.read.specs.Request.{head, litter, Asked, asked, form}

-- the n-th litter put into its place of a buffer; the litter is group, successes, total
unfoldable pub put_litter : List ℕ → ℕ → List ℕ → List ℕ
put_litter b n l = cond (ltb n 128) (row_in b n (get_or l 1 0) (get_or l 2 0) (get_or l 0 0)) b

-- from the n-th on
unfoldable pub put_litters : List ℕ → ℕ → List (List ℕ) → List ℕ
put_litters b n [] = b
put_litters b n (l ∷ ls) = put_litters (put_litter b n l) (n + 1) ls

-- the buffer after the litter lines that stand at s, at most k of them, the first the n-th litter's
abbrev pub fill_row : ℕ → List ℕ → Reading → (List ℕ → List ℕ → List ℕ) → List ℕ
fill_row n b (done l t) go = go (put_litter b n l) t
fill_row n b (departs_at line) go = b

unfoldable pub fill_rows : ℕ → ℕ → List ℕ → List ℕ → List ℕ
fill_rows zero n b s = b
fill_rows (suc k) n b s = fill_row n b (read litter (8 + n) s) (fill_rows k (n + 1))

-- the same of a whole text: its litter lines up to the last line or to the line at which it departs
abbrev pub fill_after : List ℕ → Reading → List ℕ
fill_after b (departs_at line) = b
fill_after b (done vs s) = fill_rows 8192 0 b s

unfoldable pub fill_request : List ℕ → List ℕ → List ℕ
fill_request b text = cond (ltb 8192 (length text)) b (fill_after b (read head 1 text))

-- ---- the code's answers

abbrev pub held_of : List ℕ → ℕ → Result Asking Form
held_of vs n = Ok (record { count = n; values = vs })

abbrev pub departed_of : ℕ → Result Asking Form
departed_of line = Err (record { line = line })

-- the whole answer; n litters were before
abbrev pub asking_of : ℕ → Asked → Result Asking Form
asking_of n (asked vs ls) = held_of vs (n + length ls)
asking_of n (form line) = departed_of line

-- what the lines after the head say, beside the head's values
abbrev pub rows_say : List ℕ → Result ℕ Form → Result Asking Form
rows_say vs (Ok n) = held_of vs n
rows_say vs (Err e) = Err e
