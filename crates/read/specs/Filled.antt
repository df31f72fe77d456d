-- Where a text has the form, the buffer holds its litters.
use Rattle.std.specs.Prelude.{◌≡◌, refl, ◌&&◌, List, [], ◌∷◌, ℕ, zero, suc, ◌+◌, ◌-◌, ltb, eqb, length}
use borrow.Table.Steps.{cases}
use Rattle.template.specs.Template.{first, after}
use Rattle.template.specs.Read.{Reading, done, departs_at, read}
use Rattle.read.specs.Request.{head, litter, closing, Asked, asked, form, is_empty, with_litter, read_last, read_row, read_rows, read_after, read_request}
use Rattle.read.specs.BothWays.{not_asked}
use Rattle.read.specs.Rows.{put_litter, put_litters, fill_row, fill_rows, fill_after, fill_request}

-- what k lines more leave in the buffer, wherever they start
abbrev RowsFilled : ℕ → List ℕ → ℕ → ℕ → Type 0
RowsFilled k vs start n = (b s us : List ℕ) (ls : List (List ℕ)) → read_rows k vs start n s ≡ asked us ls → fill_rows k n b s ≡ put_litters b n ls

rows_filled : (k : ℕ) (vs : List ℕ) (start n : ℕ) → RowsFilled k vs start n
unfolding read_rows fill_rows put_litters
rows_filled zero vs start n b s us ls e = absurd (not_asked (8 + n) us ls e)
rows_filled (suc k) vs start n b s us ls e = by_line (rows_filled k vs start (n + 1)) (read litter (8 + n) s) e
  where
    by_last : (r : Reading) → read_last vs (8 + n) start n r ≡ asked us ls → b ≡ put_litters b n ls
    by_last (departs_at j) e = absurd (not_asked (8 + n) us ls e)
    by_last (done ws t) e =
        cases (eqb (first ws) n && eqb (first (after ws)) start)
        (λ x. cases (is_empty t) (λ y. let z : [] ≡ ls = cc (rw (x, y) at e) in rw (← z)) (λ y. absurd (not_asked (8 + n + 1) us ls (rw (x, y) at e))))
        (λ x. absurd (not_asked (8 + n) us ls (rw x at e)))

    by_rest : (l t : List ℕ) (a : Asked) → read_rows k vs start (n + 1) t ≡ a → with_litter l a ≡ asked us ls → RowsFilled k vs start (n + 1) → fill_rows k (n + 1) (put_litter b n l) t ≡ put_litters b n ls
    by_rest l t (form x) e₁ e₂ ih = absurd (not_asked x us ls e₂)
    by_rest l t (asked us' ls') e₁ e₂ ih = let z : l ∷ ls' ≡ ls = cc in rw (← z) (ih (put_litter b n l) t us' ls' e₁)

    by_line : RowsFilled k vs start (n + 1) → (r : Reading) → read_row vs (8 + n) start n s r (read_rows k vs start (n + 1)) ≡ asked us ls → fill_row n b r (fill_rows k (n + 1)) ≡ put_litters b n ls
    by_line ih (done l t) e = by_rest l t (read_rows k vs start (n + 1) t) refl e ih
    by_line ih (departs_at j) e = by_last (read closing (8 + n) s) e

pub request_filled : (b text vs : List ℕ) (ls : List (List ℕ)) → read_request text ≡ asked vs ls → fill_request b text ≡ put_litters b 0 ls
unfolding read_request fill_request
request_filled b text vs ls e =
    cases (ltb 8192 (length text))
    (λ x. absurd (not_asked 0 vs ls (rw x at e)))
    (λ x. rw x (by_head (read head 1 text) (rw x at e)))
  where
    by_head : (r : Reading) → read_after text r ≡ asked vs ls → fill_after b r ≡ put_litters b 0 ls
    by_head (departs_at line) e = absurd (not_asked line vs ls e)
    by_head (done us s) e = rows_filled 8192 us (length text - length s) 0 b s vs ls e
