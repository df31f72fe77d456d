-- A buffer into which litters are put stays as long as it was.
use Rattle.std.specs.Prelude.{◌≡◌, refl, List, ℕ, zero, suc, ◌+◌, ltb, length, get_or}
use Rattle.std.proofs.Common.{◌∙◌}
use borrow.Table.Steps.{cases}
use Rattle.litters.specs.Kept.{row_length}
use Rattle.template.specs.Read.{Reading, done, departs_at, read}
use Rattle.read.specs.Request.{litter, head}
use Rattle.read.specs.Rows.{put_litter, fill_row, fill_rows, fill_after, fill_request}

pub length_put : (b l : List ℕ) (n : ℕ) → length (put_litter b n l) ≡ length b
unfolding put_litter
length_put b l n = cases (ltb n 128) (λ t. rw t (row_length b n (get_or l 1 0) (get_or l 2 0) (get_or l 0 0))) (λ t. rw t)

length_row : (n : ℕ) (b : List ℕ) (r : Reading) (go : List ℕ → List ℕ → List ℕ) → ((c s : List ℕ) → length (go c s) ≡ length c) → length (fill_row n b r go) ≡ length b
length_row n b (done l t) go h = h (put_litter b n l) t ∙ length_put b l n
length_row n b (departs_at line) go h = refl

length_rows : (k n : ℕ) (b s : List ℕ) → length (fill_rows k n b s) ≡ length b
unfolding fill_rows
length_rows zero n b s = refl
length_rows (suc k) n b s = length_row n b (read litter (8 + n) s) (fill_rows k (n + 1)) (λ c t. length_rows k (n + 1) c t)

length_after : (b : List ℕ) (r : Reading) → length (fill_after b r) ≡ length b
length_after b (departs_at line) = refl
length_after b (done vs s) = length_rows 8192 0 b s

pub length_fill : (b text : List ℕ) → length (fill_request b text) ≡ length b
unfolding fill_request
length_fill b text = cases (ltb 8192 (length text)) (λ t. rw t) (λ t. rw t (length_after b (read head 1 text)))
