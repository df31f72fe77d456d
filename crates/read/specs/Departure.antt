-- Form answers the line at which a text departs from a request's form, and no other.
use Rattle.std.specs.Prelude.{◌≡◌, refl, ◌≢◌, false, ◌&&◌, List, [], ◌∷◌, ◌++◌, ℕ, zero, suc, ◌+◌, ◌-◌, ◌^◌, ◌≤◌, ◌<◌, ltb, eqb, length}
use Rattle.std.proofs.Common.{sym, ap, ◌∙◌, true≢false, append_assoc, add-zero, zero-add, arith, ltb-true, ltb-false, lt-ltb, le-ltb, eq-eqb, length-append}
use borrow.Table.Steps.{cases}
use Rattle.template.specs.Template.{first, after, render}
use Rattle.template.specs.Read.{Reading, done, departs_at, read}
use Rattle.template.specs.Sound.{Holds}
use Rattle.template.specs.Spells.{Spells}
use Rattle.template.specs.BothWays.{spelled_read, rendered_read, read_rendered, not_rendered}
use Rattle.template.specs.Departure.{Departs, departs_there, there_departs}
use Rattle.read.specs.Request.{head, litter, closing, Asked, asked, form, render_litters, is_empty, with_litter, read_last, read_row, read_rows, read_after, read_request}
use Rattle.read.specs.BothWays.{head_sound, litter_sound, closing_sound, litter_plain, EachHolds, last_line, no_litter_lem, last_holds, last_right, head_some, litter_some, parts_long, litters_some, after_head, not_asked}

-- no litter's line stands at t; nor does the last line of n litters
abbrev pub NoLitter : List ℕ → Type 0
NoLitter t = (l u : List ℕ) → Holds litter l → t ≢ render litter l ++ u

abbrev pub NoLast : ℕ → ℕ → List ℕ → Type 0
NoLast n start t = (u : List ℕ) → t ≢ last_line n start ++ u

-- What is wrong at t, before which n litters stand: neither of the two lines is there, or something follows the last line.
pub data Wrong (n start : ℕ) (t : List ℕ) (k : ℕ) : Type 0 where
  no_line : k ≡ 8 + n → NoLitter t → NoLast n start t → Wrong n start t k
  more : (c : ℕ) (u : List ℕ) → k ≡ 9 + n → t ≡ last_line n start ++ (c ∷ u) → Wrong n start t k

-- Where a text departs, by lines counted from 1: 0 for too many bytes, a line of the head, or a later one.
pub data Departure (text : List ℕ) (k : ℕ) : Type 0 where
  too_long : 8192 < length text → k ≡ 0 → Departure text k
  in_head : length text ≤ 8192 → Departs head 1 text k → Departure text k
  past_head :
      (vs top : List ℕ) (ls : List (List ℕ)) (t : List ℕ) → length text ≤ 8192 → Spells head vs top → EachHolds ls → text ≡ top ++ (render_litters ls ++ t) → Wrong (length ls) (length top) t k → Departure text k

-- ---- the lines after the head

some_more : (t : List ℕ) → is_empty t ≡ false → t ≡ first t ∷ after t
some_more [] e = absurd (true≢false e)
some_more (c ∷ t) e = refl

last_departs :
    (vs : List ℕ) (start n : ℕ) (t : List ℕ) (k : ℕ) (r : Reading) → Holds closing (n ∷ start ∷ []) → NoLitter t → read closing (8 + n) t ≡ r → read_last vs (8 + n) start n r ≡ form k → Wrong n start t k
last_departs vs start n t k (departs_at j) b o e f = no_line (cc) o (λ u. not_rendered closing t (n ∷ start ∷ []) u (8 + n) j closing_sound e b)
last_departs vs start n t k (done ws u) b o e f =
    cases (eqb (first ws) n && eqb (first (after ws)) start)
    (λ x. cases (is_empty u)
    (λ y. absurd (not_asked k vs [] (sym (rw (x, y) at f))))
    (λ y.
    let g = rw (x, y) at f in
    let z : 8 + n + 1 ≡ k = cc in
    more (first u) (after u) (omega arith) (last_right (8 + n) start n t ws u e x ∙ ap (λ x. last_line n start ++ x) (some_more u y))))
    (λ x.
    no_line (let g = rw x at f in cc) o (λ u' q.
    let e' : read closing (8 + n) t ≡ done (n ∷ start ∷ []) u' = rw q (read_rendered closing (n ∷ start ∷ []) u' (8 + n) closing_sound b) in
    let w : ws ≡ n ∷ start ∷ [] = cc in
    true≢false (sym (rw (w, eq-eqb n n refl, eq-eqb start start refl)) ∙ x)))

pub record RowsDepart (start n : ℕ) (s : List ℕ) (k : ℕ) : Type 0 where
  pub litters : List (List ℕ)
  pub each : EachHolds litters
  pub there : List ℕ
  pub text : s ≡ render_litters litters ++ there
  pub wrong : Wrong (n + length litters) start there k

litter_before : (start n : ℕ) (s : List ℕ) (k : ℕ) (l t : List ℕ) → s ≡ render litter l ++ t → Holds litter l → RowsDepart start (n + 1) t k → RowsDepart start n s k
unfolding render_litters
litter_before start n s k l t e b d =
    let ls = d.litters in
    let c : n + 1 + length ls ≡ n + suc (length ls) = omega arith in
    record {
      litters = l ∷ ls;
      each = (b, d.each);
      there = d.there;
      text = e ∙ rw d.text (sym (append_assoc (render litter l) (render_litters ls) d.there));
      wrong = rw c at d.wrong;
    }

-- what k lines more are, wherever they start
abbrev RowsDepartBy : ℕ → List ℕ → ℕ → ℕ → ℕ → Type 0
RowsDepartBy lines vs start n k = (s : List ℕ) → length s < lines → n + length s < 2 ^ 32 → read_rows lines vs start n s ≡ form k → RowsDepart start n s k

rows_depart : (lines : ℕ) (vs : List ℕ) (start n k : ℕ) → start < 2 ^ 32 → RowsDepartBy lines vs start n k
unfolding read_rows render_litters
rows_depart zero vs start n k b s h g e = absurd (omega arith)
rows_depart (suc lines) vs start n k b s h g e = by_line (rows_depart lines vs start (n + 1) k b) (read litter (8 + n) s) refl e
  where
    by_rest : (l : List ℕ) (a : Asked) → with_litter l a ≡ form k → a ≡ form k
    by_rest l (form x) e = e
    by_rest l (asked us ls) e = absurd (not_asked k us (l ∷ ls) (sym e))

    by_line : RowsDepartBy lines vs start (n + 1) k → (r : Reading) → read litter (8 + n) s ≡ r → read_row vs (8 + n) start n s r (read_rows lines vs start (n + 1)) ≡ form k → RowsDepart start n s k
    by_line ih (done l t) e₁ e₂ =
        let q = rendered_read litter s l t (8 + n) litter_plain e₁ in
        let m : length s ≡ length (render litter l) + length t = ap length q.0 ∙ length-append (render litter l) t in
        let p = litter_some l q.1 in
        litter_before start n s k l t q.0 q.1 (ih t (omega arith) (omega arith) (by_rest l (read_rows lines vs start (n + 1) t) e₂))
    by_line ih (departs_at j) e₁ e₂ =
        let w = last_departs vs start n s k (read closing (8 + n) s) (last_holds n start (omega arith) b) (λ l u. not_rendered litter s l u (8 + n) j litter_sound e₁) refl e₂ in
        record { litters = []; each = tt; there = s; text = refl; wrong = rw (add-zero n) w }

head_before : (text vs top s : List ℕ) (k : ℕ) → length text ≤ 8192 → text ≡ top ++ s → Spells head vs top → RowsDepart (length top) 0 s k → Departure text k
head_before text vs top s k h e b d =
    past_head vs top d.litters d.there h b d.each (e ∙ ap (λ x. top ++ x) d.text) (rw (zero-add (length d.litters)) at d.wrong)

-- The line of a form answer is the one at which the text departs.
pub form_is_departure : (text : List ℕ) (k : ℕ) → read_request text ≡ form k → Departure text k
unfolding read_request
form_is_departure text k e =
    cases (ltb 8192 (length text))
    (λ b. too_long (ltb-true 8192 (length text) b) (let g = rw b at e in cc))
    (λ b. by_head (ltb-false 8192 (length text) b) (read head 1 text) refl (rw b at e))
  where
    by_head : length text ≤ 8192 → (r : Reading) → read head 1 text ≡ r → read_after text r ≡ form k → Departure text k
    by_head h (departs_at j) e₁ e₂ = let z : j ≡ k = cc in in_head h (departs_there head text 1 k head_sound (e₁ ∙ ap departs_at z))
    by_head h (done vs s) e₁ e₂ =
        let q = spelled_read head text vs s 1 e₁ in
        let top = q.spelled in
        let m : length text ≡ length top + length s = ap length q.text ∙ length-append top s in
        let p = head_some vs top q.spells in
        let z : length text - length s ≡ length top = omega arith in
        head_before text vs top s k h q.text q.spells (rows_depart 8192 vs (length top) 0 k (omega arith) s (omega arith) (omega arith) (rw z at e₂))

-- ---- the other way

wrong_form : (vs : List ℕ) (start n : ℕ) (t : List ℕ) (k : ℕ) (go : List ℕ → Asked) → Holds closing (n ∷ start ∷ []) → Wrong n start t k → read_row vs (8 + n) start n t (read litter (8 + n) t) go ≡ form k
wrong_form vs start n t k go b (more c u e q) =
    let us = n ∷ start ∷ [] in
    rw (q, no_litter_lem (8 + n) us (c ∷ u), read_rendered closing us (c ∷ u) (8 + n) closing_sound b, eq-eqb n n refl, eq-eqb start start refl) (ap form (omega arith))
wrong_form vs start n t k go b (no_line e p q) = by_litter (read litter (8 + n) t) refl
  where
    by_last : (r : Reading) → read closing (8 + n) t ≡ r → read_last vs (8 + n) start n r ≡ form k
    by_last (departs_at j) f = ap form (sym e)
    by_last (done ws u) f =
        cases (eqb (first ws) n && eqb (first (after ws)) start) (λ x. absurd (q u (last_right (8 + n) start n t ws u f x))) (λ x. rw x (ap form (sym e)))

    by_litter : (r : Reading) → read litter (8 + n) t ≡ r → read_row vs (8 + n) start n t r go ≡ form k
    by_litter (departs_at j) f = by_last (read closing (8 + n) t) refl
    by_litter (done l u) f = let r = rendered_read litter t l u (8 + n) litter_plain f in absurd (p l u r.1 r.0)

rows_form :
    (lines : ℕ) (vs : List ℕ) (start n k : ℕ) (ls : List (List ℕ)) (t : List ℕ) → EachHolds ls → length ls < lines → n + length ls < 2 ^ 32 → start < 2 ^ 32 → Wrong (n + length ls) start t k →
    read_rows lines vs start n (render_litters ls ++ t) ≡ form k
unfolding read_rows render_litters
rows_form zero vs start n k ls t a h g b w = absurd (omega arith)
rows_form (suc lines) vs start n k [] t a h g b w = wrong_form vs start n t k (read_rows lines vs start (n + 1)) (last_holds n start (omega arith) b) (rw (add-zero n) at w)
rows_form (suc lines) vs start n k (l ∷ ls) t a h g b w =
    let m : n + suc (length ls) ≡ n + 1 + length ls = omega arith in
    rw
    (append_assoc (render litter l) (render_litters ls) t, read_rendered litter l (render_litters ls ++ t) (8 + n) litter_sound a.0, rows_form lines vs start (n + 1) k ls t a.1 (omega arith) (omega arith) b (rw m at w))

-- Where a text departs, form answers that line.
pub departure_is_form : (text : List ℕ) (k : ℕ) → Departure text k → read_request text ≡ form k
unfolding read_request
departure_is_form text k (too_long h e) = rw (lt-ltb 8192 (length text) h, e)
departure_is_form text k (in_head h d) = rw (le-ltb 8192 (length text) h, there_departs head_sound d)
departure_is_form text k (past_head vs top ls t h b a e w) =
    let rest = render_litters ls ++ t in
    let n : length text ≡ length top + (length (render_litters ls) + length t) = ap length e ∙ parts_long top (render_litters ls) t in
    let s = litters_some ls a in
    let s' = head_some vs top b in
    let r = rows_form 8192 vs (length top) 0 k ls t a (omega arith) (omega arith) (omega arith) (rw zero-add w) in
    ap read_request e ∙ after_head vs top rest b (rw e at h) ∙ r

-- a text departs at one line
pub one_departure : (text : List ℕ) (j k : ℕ) → Departure text j → Departure text k → j ≡ k
one_departure text j k d e = cc (departure_is_form text j d, departure_is_form text k e)
