-- What the last line and each litter line decide.
use Rattle.std.specs.Prelude.{◌≡◌, refl, List, [], ◌∷◌, ℕ, suc, ◌+◌, ◌-◌, ◌*◌, ◌^◌, ◌≤◌, ◌<◌, length, get_or, set, take, Result, Ok, Err}
use Rattle.std.proofs.Common.{sym, ap, arith, add-zero, lit<, lit≤, lt-ltb, le-ltb, eq-eqb, ne_eqb, take_all}
use Rattle.std.proofs.Math.Seq.{get_or-take}
use Rattle.num.specs.Left.{left_one, left_none}
use Rattle.template.specs.declared.read.Form.{Form}
use Rattle.template.specs.Template.{first, after, holes}
use Rattle.template.specs.Read.{done, departs_at, feeds, read}
use Rattle.template.specs.Says.{in_places}
use Rattle.template.specs.Said.{said_sixteen, said_rest}
use Rattle.template.specs.Departure.{in_line}
use Rattle.template.specs.BothWays.{rendered_read}
use Rattle.read.specs.BothWays.{litter_plain, litter_below}
use Rattle.read.specs.declared.Asking.{Asking}
use Rattle.read.specs.Request.{Asked, asked, form, head, litter, closing, with_litter, read_last, read_rows, read_request}
use Rattle.read.specs.Rows.{put_litter, fill_rows, fill_request, held_of, departed_of, asking_of, rows_say}

-- ---- the last line

first_taken : (vs : List ℕ) → first (take 2 vs) ≡ get_or vs 0 0
first_taken [] = refl
first_taken (v ∷ vs) = refl

second_taken : (vs : List ℕ) → first (after (take 2 vs)) ≡ get_or vs 1 0
second_taken [] = refl
second_taken (v ∷ []) = refl
second_taken (v ∷ u ∷ vs) = refl

module _ (vs text : List ℕ) (start n : ℕ) where
  -- it is one line, so no other departs
  pub last_departs : (k : ℕ) → read closing (8 + n) text ≡ departs_at k → departed_of k ≡ asking_of n (read_last vs (8 + n) start n (read closing (8 + n) text))
  unfolding closing
  last_departs k h = rw h (ap departed_of (sym (in_line closing (8 + n) k text h)))

  module _ (v rest : List ℕ) (h : read closing (8 + n) text ≡ done (take 2 v) rest) where
    pub last_miscounts : (get_or v 0 0 ≡ n → ⊥) → departed_of (8 + n) ≡ asking_of n (read_last vs (8 + n) start n (read closing (8 + n) text))
    last_miscounts e = rw (h, first_taken v, ne_eqb (get_or v 0 0) n e)

    module _ (e : get_or v 0 0 ≡ n) where
      pub last_misplaces : (get_or v 1 0 ≡ start → ⊥) → departed_of (8 + n) ≡ asking_of n (read_last vs (8 + n) start n (read closing (8 + n) text))
      last_misplaces d = rw (h, first_taken v, second_taken v, eq-eqb (get_or v 0 0) n e, ne_eqb (get_or v 1 0) start d)

-- it ends one line further
pub last_goes_on : (vs text : List ℕ) (start n line : ℕ) (v rest : List ℕ) → read closing (8 + n) text ≡ done (take 2 v) rest → get_or v 0 0 ≡ n → get_or v 1 0 ≡ start → line ≡ 8 + n + feeds closing → (length rest ≡ 0 → ⊥) →
    departed_of line ≡ asking_of n (read_last vs (8 + n) start n (read closing (8 + n) text))
unfolding closing feeds
last_goes_on vs text start n line v [] h e d l z = absurd (z refl)
last_goes_on vs text start n line v (c ∷ rest) h e d l z = rw (h, first_taken v, second_taken v, eq-eqb (get_or v 0 0) n e, eq-eqb (get_or v 1 0) start d, l)

pub last_ends : (vs text : List ℕ) (start n : ℕ) (v rest : List ℕ) → read closing (8 + n) text ≡ done (take 2 v) rest → get_or v 0 0 ≡ n → get_or v 1 0 ≡ start → length rest ≡ 0 → held_of vs n ≡ asking_of n (read_last vs (8 + n) start n (read closing (8 + n) text))
last_ends vs text start n v [] h e d z = rw (h, first_taken v, second_taken v, eq-eqb (get_or v 0 0) n e, eq-eqb (get_or v 1 0) start d, add-zero n)
last_ends vs text start n v (c ∷ rest) h e d z = absurd (omega arith)

-- ---- a litter line

pub put_inside : (b v : List ℕ) (n : ℕ) → n < 128 → set (set (set b (3 * n) (get_or v 1 0)) (3 * n + 1) (get_or v 2 0)) (3 * n + 2) (get_or v 0 0) ≡ put_litter b n v
unfolding put_litter
put_inside b v n h = rw (lt-ltb n 128 h)

pub put_past : (b v : List ℕ) (n : ℕ) → 128 ≤ n → b ≡ put_litter b n v
unfolding put_litter
put_past b v n h = rw (le-ltb n 128 h)

put_taken : (b v : List ℕ) (n : ℕ) → put_litter b n (take 3 v) ≡ put_litter b n v
unfolding put_litter
put_taken b v n = rw (get_or-take 3 v 0 0 (lit< tt), get_or-take 3 v 1 0 (lit< tt), get_or-take 3 v 2 0 (lit< tt))

-- one litter more is one more before
litter_before : (n : ℕ) (l : List ℕ) (a : Asked) → asking_of n (with_litter l a) ≡ asking_of (n + 1) a
litter_before n l (asked vs ls) = let e : n + suc (length ls) ≡ n + 1 + length ls = omega arith in rw e
litter_before n l (form line) = refl

module _ (text : List ℕ) (n : ℕ) where
  module _ (v rest : List ℕ) (h : read litter (8 + n) text ≡ done (take 3 v) rest) where
    -- a litter's numbers fit the buffer's
    pub litter_small : (get_or v 0 0 < 2 ^ 32) × (get_or v 1 0 < 2 ^ 32) × (get_or v 2 0 < 2 ^ 32)
    litter_small =
        let b = litter_below (take 3 v) (rendered_read litter text (take 3 v) rest (8 + n) litter_plain h).1 in
        (rw (get_or-take 3 v 0 0 (lit< tt)) at b.0, rw (get_or-take 3 v 1 0 (lit< tt)) at b.1, rw (get_or-take 3 v 2 0 (lit< tt)) at b.2)

    pub row_read : (vs : List ℕ) (start : ℕ) → n < 8192 → asking_of n (read_rows (8192 - n) vs start n text) ≡ asking_of (n + 1) (read_rows (8192 - (n + 1)) vs start (n + 1) rest)
    unfolding read_rows
    row_read vs start l = rw (left_one 8192 n l, h) (litter_before n (take 3 v) (read_rows (8192 - (n + 1)) vs start (n + 1) rest))

    pub row_filled : (b : List ℕ) → n < 8192 → fill_rows (8192 - n) n b text ≡ fill_rows (8192 - (n + 1)) (n + 1) (put_litter b n v) rest
    unfolding fill_rows
    row_filled b l = rw (left_one 8192 n l, h) (ap (λ x. fill_rows (8192 - (n + 1)) (n + 1) x rest) (put_taken b v n))

  -- the last line, held against a place that is the one where the lines begin
  pub last_place : (vs : List ℕ) (s start : ℕ) → s ≡ start → asking_of n (read_last vs (8 + n) s n (read closing (8 + n) text)) ≡ asking_of n (read_last vs (8 + n) start n (read closing (8 + n) text))
  last_place vs s start e = rw e

  module _ (k : ℕ) (h : read litter (8 + n) text ≡ departs_at k) where
    pub row_last : (vs : List ℕ) (start : ℕ) → n < 8192 → read_rows (8192 - n) vs start n text ≡ read_last vs (8 + n) start n (read closing (8 + n) text)
    unfolding read_rows
    row_last vs start l = rw (left_one 8192 n l, h)

    pub last_filled : (b : List ℕ) → n < 8192 → b ≡ fill_rows (8192 - n) n b text
    unfolding fill_rows
    last_filled b l = rw (left_one 8192 n l, h)

pub rows_end : (vs s : List ℕ) (start n : ℕ) → 8192 ≤ n → asking_of n (read_rows (8192 - n) vs start n s) ≡ departed_of (8 + n)
unfolding read_rows
rows_end vs s start n h = rw (left_none 8192 n h)

pub filled_end : (b s : List ℕ) (n : ℕ) → 8192 ≤ n → b ≡ fill_rows (8192 - n) n b s
unfolding fill_rows
filled_end b s n h = rw (left_none 8192 n h)

-- ---- the head: the answer, and the buffer b

module _ (b text : List ℕ) where
  pub too_long : 8192 < length text → (departed_of 0 ≡ asking_of 0 (read_request text)) × (b ≡ fill_request b text)
  unfolding read_request fill_request
  too_long h = (rw (lt-ltb 8192 (length text) h), rw (lt-ltb 8192 (length text) h))

  module _ (h : length text ≤ 8192) where
    pub head_departs : (k : ℕ) → read head 1 text ≡ departs_at k → (departed_of k ≡ asking_of 0 (read_request text)) × (b ≡ fill_request b text)
    unfolding read_request fill_request
    head_departs k s = (rw (le-ltb 8192 (length text) h, s), rw (le-ltb 8192 (length text) h, s))

    module _ (v rest : List ℕ) (s : read head 1 text ≡ done (take 16 v) rest) where
      pub head_read : v ≡ in_places (take 16 v) → read_rows 8192 v (length text - length rest) 0 rest ≡ read_request text
      unfolding read_request holes head
      head_read p = rw (le-ltb 8192 (length text) h, s, take_all 16 v (omega (arith, said_sixteen head text v rest 1 s p (lit≤ tt))))

      pub head_filled : fill_rows 8192 0 b rest ≡ fill_request b text
      unfolding fill_request
      head_filled = rw (le-ltb 8192 (length text) h, s)

pub head_inside : (text v rest : List ℕ) → read head 1 text ≡ done (take 16 v) rest → length rest ≤ length text
head_inside text v rest s = said_rest head text (take 16 v) rest 1 s

-- what the lines after the head say, by the answer in hand
pub say_count : (vs : List ℕ) (r : Result ℕ Form) (w : Result Asking Form) (n : ℕ) → r ≡ Ok n → rows_say vs r ≡ w → held_of vs n ≡ w
say_count vs r w n e s = rw e at s

pub say_departs : (vs : List ℕ) (r : Result ℕ Form) (w : Result Asking Form) (e : Form) → r ≡ Err e → rows_say vs r ≡ w → Err e ≡ w
say_departs vs r w e i s = rw i at s
