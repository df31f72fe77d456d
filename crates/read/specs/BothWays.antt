-- Reading a request and spelling it are inverse: a text of at most 8,192 bytes is read as a request exactly if it spells that request.
use Rattle.std.specs.Prelude.{◌≡◌, refl, ◌↔◌, true, false, ◌&&◌, List, [], ◌∷◌, ◌++◌, ℕ, zero, suc, ◌+◌, ◌-◌, ◌*◌, ◌^◌, ◌≤◌, ◌<◌, T, ltb, eqb, length, get_or, drop}
use Rattle.std.proofs.Common.{sym, ap, ◌∙◌, append_assoc, append-nil, zero-le, add-zero, zero-add, add-sub_cancel, arith, ltb-false, eqb-true, eq-eqb, le-ltb, lit≤, length-append, drop_of_length-le, drop-cons}
use Rattle.std.proofs.Math.Bool.{and-eq-true_iff}
use Rattle.std.proofs.lemmas.Bool.{false≢true}
use borrow.Table.Steps.{cases}
use Rattle.template.specs.Template.{first, after, render, holes}
use Rattle.template.specs.Field.{read_byte}
use Rattle.template.specs.Read.{Reading, done, departs_at, read_field, read}
use Rattle.template.specs.Sound.{sound, plain, limits, Holds, most}
use Rattle.template.specs.Spells.{Spells}
use Rattle.template.specs.BothWays.{holds_below, spelled_read, read_spelled, rendered_read, read_rendered, render_spells, spells_least, spells_most}
use Rattle.read.specs.Request.{head, litter, closing, Asked, asked, form, render_litters, render_request, is_empty, with_litter, read_last, read_row, read_rows, read_after, read_request}

-- ---- the three templates

pub head_sound : T (sound head)
unfolding sound head
head_sound = tt

pub litter_sound : T (sound litter)
unfolding sound litter
litter_sound = tt

pub closing_sound : T (sound closing)
unfolding sound closing
closing_sound = tt

-- the lines after the head have counts alone
pub litter_plain : T (plain litter)
unfolding plain litter
litter_plain = tt

pub closing_plain : T (plain closing)
unfolding plain closing
closing_plain = tt

-- What a request may ask: sixteen values that fit the head, and three for each litter.
abbrev pub EachHolds : List (List ℕ) → Type 0
EachHolds [] = Unit
EachHolds (l ∷ ls) = Holds litter l × EachHolds ls

pub record Asks (vs : List ℕ) (ls : List (List ℕ)) : Type 0 where
  pub heads : Holds head vs
  pub litters : EachHolds ls

-- the last line of a request with n litters, the first at byte `start`
abbrev pub last_line : ℕ → ℕ → List ℕ
last_line n start = render closing (n ∷ start ∷ [])

-- A text spells a request: its head with the values vs, in any spelling; then a line for each litter, and the last with their number and the byte at which the first starts.
pub record SpellsRequest (vs : List ℕ) (ls : List (List ℕ)) (text : List ℕ) : Type 0 where
  pub top : List ℕ
  pub heads : Spells head vs top
  pub litters : EachHolds ls
  pub is : text ≡ top ++ (render_litters ls ++ last_line (length ls) (length top))

-- a litter's numbers, and the limits of the work, are below 2^32
pub litter_below : (l : List ℕ) → Holds litter l → (get_or l 0 0 < 2 ^ 32) × (get_or l 1 0 < 2 ^ 32) × (get_or l 2 0 < 2 ^ 32)
unfolding limits holes litter
litter_below l b = (holds_below litter l 0 b (lit≤ tt), holds_below litter l 1 b (lit≤ tt), holds_below litter l 2 b (lit≤ tt))

pub work_below : (vs : List ℕ) → Holds head vs → (get_or vs 12 0 < 2 ^ 32) × (get_or vs 13 0 < 2 ^ 32) × (get_or vs 14 0 < 2 ^ 32)
unfolding limits holes head
work_below vs b = (holds_below head vs 12 b (lit≤ tt), holds_below head vs 13 b (lit≤ tt), holds_below head vs 14 b (lit≤ tt))

-- ---- the lines after the head

-- the last line is no litter's: its first byte is another
pub no_litter_lem : (line : ℕ) (us t : List ℕ) → read litter line (render closing us ++ t) ≡ departs_at line
unfolding read read_field read_byte render litter closing
no_litter_lem line us t = refl

pub last_holds : (n start : ℕ) → n < 2 ^ 32 → start < 2 ^ 32 → Holds closing (n ∷ start ∷ [])
unfolding limits closing
last_holds n start h g = (h, (g, tt))

rows_read_back :
    (k : ℕ) (vs : List ℕ) (start n : ℕ) (ls : List (List ℕ)) → EachHolds ls → length ls < k → n + length ls < 2 ^ 32 → start < 2 ^ 32 →
    read_rows k vs start n (render_litters ls ++ last_line (n + length ls) start) ≡ asked vs ls
unfolding read_rows render_litters
rows_read_back zero vs start n ls a h g b = absurd (omega arith)
rows_read_back (suc k) vs start n [] a h g b =
    let us = n ∷ start ∷ [] in
    let m = append-nil (render closing us) in
    let r = read_rendered closing us [] (8 + n) closing_sound (last_holds n start (omega arith) b) in
    rw (add-zero n, ← m, no_litter_lem (8 + n) us [], r, eq-eqb n n refl, eq-eqb start start refl)
rows_read_back (suc k) vs start n (l ∷ ls) a h g b =
    let m : n + suc (length ls) ≡ n + 1 + length ls = omega arith in
    let rest = render_litters ls ++ last_line (n + 1 + length ls) start in
    rw
    (m, append_assoc (render litter l) (render_litters ls) (last_line (n + 1 + length ls) start), read_rendered litter l rest (8 + n) litter_sound a.0, rows_read_back k vs start (n + 1) ls a.1 (omega arith) (omega arith) b)

-- neither is empty
templates_some : (1 ≤ length head) × (1 ≤ length litter)
unfolding head litter
templates_some = (lit≤ tt, lit≤ tt)

pub head_some : (vs h : List ℕ) → Spells head vs h → 1 ≤ length h
head_some vs h k = omega (arith, templates_some, spells_least k)

pub litter_some : (l : List ℕ) → Holds litter l → 1 ≤ length (render litter l)
litter_some l b = omega (arith, templates_some, spells_least (render_spells litter l b))

pub litters_some : (ls : List (List ℕ)) → EachHolds ls → length ls ≤ length (render_litters ls)
unfolding render_litters
litters_some [] a = zero-le
litters_some (l ∷ ls) a = rw (length-append (render litter l) (render_litters ls)) (omega (arith, litter_some l a.0, litters_some ls a.1))

-- the text in its three parts, and its length
pub parts_long : (a b c : List ℕ) → length (a ++ (b ++ c)) ≡ length a + (length b + length c)
parts_long a b c = simp length-append

-- after the head, its rows are read
pub after_head : (vs top rest : List ℕ) → Spells head vs top → length (top ++ rest) ≤ 8192 → read_request (top ++ rest) ≡ read_rows 8192 vs (length top) 0 rest
unfolding read_request
after_head vs top rest b h =
    let z : length (top ++ rest) - length rest ≡ length top = rw (length-append top rest) (add-sub_cancel (length top) (length rest)) in
    rw (le-ltb 8192 (length (top ++ rest)) h, read_spelled 1 rest head_sound b, z)

-- What is spelled is read back, if it is no longer than a text may be.
pub request_read_back : (text vs : List ℕ) (ls : List (List ℕ)) → SpellsRequest vs ls text → length text ≤ 8192 → read_request text ≡ asked vs ls
request_read_back text vs ls a h =
    let top = a.top in
    let last = last_line (length ls) (length top) in
    let n : length text ≡ length top + (length (render_litters ls) + length last) = ap length a.is ∙ parts_long top (render_litters ls) last in
    let s = litters_some ls a.litters in
    let s' = head_some vs top a.heads in
    let r = rows_read_back 8192 vs (length top) 0 ls a.litters (omega arith) (omega arith) (omega arith) in
    ap read_request a.is ∙ after_head vs top (render_litters ls ++ last) a.heads (rw a.is at h) ∙ (rw (zero-add (length ls)) at r)

-- a request's rendering spells it: so whatever may be asked has a text
pub rendering_spells : (vs : List ℕ) (ls : List (List ℕ)) → Asks vs ls → SpellsRequest vs ls (render_request vs ls)
unfolding render_request
rendering_spells vs ls a = record { top = render head vs; heads = render_spells head vs a.heads; litters = a.litters; is = refl }

-- ---- how long a request is

most_are : (most head ≡ 349) × (most litter ≡ 40) × (most closing ≡ 30)
unfolding most head litter closing
most_are = (refl, refl, refl)

litters_most : (ls : List (List ℕ)) → EachHolds ls → length (render_litters ls) ≤ 40 * length ls
unfolding render_litters
litters_most [] a = zero-le
litters_most (l ∷ ls) a = rw (length-append (render litter l) (render_litters ls)) (omega (arith, spells_most (render_spells litter l a.0), most_are, litters_most ls a.1))

-- a request of at most 128 litters is no longer than a text may be, in any spelling
pub short_enough : (text vs : List ℕ) (ls : List (List ℕ)) → SpellsRequest vs ls text → length ls ≤ 128 → length text ≤ 8192
short_enough text vs ls a h =
    let top = a.top in
    let us = length ls ∷ length top ∷ [] in
    let m = most_are in
    let p = spells_most a.heads in
    let q = litters_most ls a.litters in
    let r = spells_most (render_spells closing us (last_holds (length ls) (length top) (omega arith) (omega arith))) in
    rw (a.is, parts_long top (render_litters ls) (render closing us)) (omega arith)

-- ---- what is read is spelled

pub not_asked : (k : ℕ) (vs : List ℕ) (ls : List (List ℕ)) → form k ≡ asked vs ls → ⊥
not_asked k vs ls e = let z : ◌≡◌ {A = ℕ} 0 1 = cc in omega arith

-- s is the lines of the litters ls, which come after n others, and the last line
pub record RowsAre (vs : List ℕ) (start n : ℕ) (s us : List ℕ) (ls : List (List ℕ)) : Type 0 where
  pub same : vs ≡ us
  pub each : EachHolds ls
  pub text : s ≡ render_litters ls ++ last_line (n + length ls) start

last_values : (ws : List ℕ) (n start : ℕ) → Holds closing ws → first ws ≡ n → first (after ws) ≡ start → ws ≡ n ∷ start ∷ []
unfolding limits closing
last_values [] n start b p q = absurd b
last_values (w ∷ []) n start b p q = absurd b.1
last_values (w ∷ u ∷ []) n start b p q = rw (p, q)
last_values (w ∷ u ∷ x ∷ ws) n start b p q = absurd b.1.1

-- a last line with the right numbers
pub last_right : (line start n : ℕ) (s ws t : List ℕ) → read closing line s ≡ done ws t → (eqb (first ws) n && eqb (first (after ws)) start) ≡ true → s ≡ last_line n start ++ t
last_right line start n s ws t e b =
    let r = rendered_read closing s ws t line closing_plain e in
    let q = (and-eq-true_iff (eqb (first ws) n) (eqb (first (after ws)) start)).0 b in
    let w = last_values ws n start r.1 (eqb-true (first ws) n q.0) (eqb-true (first (after ws)) start q.1) in
    r.0 ∙ ap (λ x. render closing x ++ t) w

pub is_empty_lem : (t : List ℕ) → is_empty t ≡ true → t ≡ []
is_empty_lem [] h = refl
is_empty_lem (c ∷ t) h = absurd (false≢true h)

pub nothing_left : (l : List ℕ) (i : ℕ) → length l ≤ i → is_empty (drop i l) ≡ true
nothing_left l i h = rw (drop_of_length-le l h)

pub something_left : (l : List ℕ) (i : ℕ) → i < length l → is_empty (drop i l) ≡ false
something_left l i h = rw (drop-cons l i 0 h)

last_read_is : (vs : List ℕ) (line start n : ℕ) (s us : List ℕ) (ls : List (List ℕ)) (r : Reading) → read closing line s ≡ r → read_last vs line start n r ≡ asked us ls → RowsAre vs start n s us ls
unfolding render_litters
last_read_is vs line start n s us ls (departs_at k) e f = absurd (not_asked line us ls f)
last_read_is vs line start n s us ls (done ws t) e f =
    cases (eqb (first ws) n && eqb (first (after ws)) start)
    (λ b. cases (is_empty t)
    (λ o.
    let g = rw (b, o) at f in
    let z : [] ≡ ls = cc in
    let x : s ≡ last_line n start = last_right line start n s ws t e b ∙ rw (is_empty_lem t o) (append-nil (last_line n start)) in
    record { same = cc; each = rw (← z) tt; text = rw (← z, add-zero n) x })
    (λ o. absurd (not_asked (line + 1) us ls (rw (b, o) at f))))
    (λ b. absurd (not_asked line us ls (rw b at f)))

litter_read_is :
    (vs : List ℕ) (start n : ℕ) (s us : List ℕ) (ls : List (List ℕ)) (l t : List ℕ) → read litter (8 + n) s ≡ done l t → RowsAre vs start (n + 1) t us ls → RowsAre vs start n s us (l ∷ ls)
unfolding render_litters
litter_read_is vs start n s us ls l t e r =
    let q = rendered_read litter s l t (8 + n) litter_plain e in
    let m : n + suc (length ls) ≡ n + 1 + length ls = omega arith in
    let x = q.0 ∙ ap (λ x. render litter l ++ x) r.text ∙ sym (append_assoc (render litter l) (render_litters ls) (last_line (n + 1 + length ls) start)) in
    record { same = r.same; each = (q.1, r.each); text = rw m x }

-- what k lines more are, wherever they start
abbrev RowsReadIs : ℕ → List ℕ → ℕ → ℕ → Type 0
RowsReadIs k vs start n = (s us : List ℕ) (ls : List (List ℕ)) → read_rows k vs start n s ≡ asked us ls → RowsAre vs start n s us ls

rows_read_is : (k : ℕ) (vs : List ℕ) (start n : ℕ) → RowsReadIs k vs start n
unfolding read_rows
rows_read_is zero vs start n s us ls e = absurd (not_asked (8 + n) us ls e)
rows_read_is (suc k) vs start n s us ls e = by_line (rows_read_is k vs start (n + 1)) (read litter (8 + n) s) refl e
  where
    by_rest : RowsReadIs k vs start (n + 1) → (l t : List ℕ) (a : Asked) → read litter (8 + n) s ≡ done l t → read_rows k vs start (n + 1) t ≡ a → with_litter l a ≡ asked us ls → RowsAre vs start n s us ls
    by_rest ih l t (form x) e₁ e₂ e₃ = absurd (not_asked x us ls e₃)
    by_rest ih l t (asked us' ls') e₁ e₂ e₃ = let z : l ∷ ls' ≡ ls = cc in rw (← z) (litter_read_is vs start n s us ls' l t e₁ (ih t us ls' (e₂ ∙ cc)))

    by_line : RowsReadIs k vs start (n + 1) → (r : Reading) → read litter (8 + n) s ≡ r → read_row vs (8 + n) start n s r (read_rows k vs start (n + 1)) ≡ asked us ls → RowsAre vs start n s us ls
    by_line ih (done l t) e₁ e₂ = by_rest ih l t (read_rows k vs start (n + 1) t) e₁ refl e₂
    by_line ih (departs_at x) e₁ e₂ = last_read_is vs (8 + n) start n s us ls (read closing (8 + n) s) refl e₂

-- What is read spells what it asks.
pub read_is_spelled : (text vs : List ℕ) (ls : List (List ℕ)) → read_request text ≡ asked vs ls → SpellsRequest vs ls text
unfolding read_request
read_is_spelled text vs ls e =
    cases (ltb 8192 (length text))
    (λ b. absurd (not_asked 0 vs ls (rw b at e)))
    (λ b. by_head (read head 1 text) refl (rw b at e))
  where
    by_head : (r : Reading) → read head 1 text ≡ r → read_after text r ≡ asked vs ls → SpellsRequest vs ls text
    by_head (departs_at k) e₁ e₂ = absurd (not_asked k vs ls e₂)
    by_head (done us s) e₁ e₂ =
        let q = spelled_read head text us s 1 e₁ in
        let r = rows_read_is 8192 us (length text - length s) 0 s vs ls e₂ in
        let h = q.spelled in
        let z : length text - length s ≡ length h = ap (λ x. length x - length s) q.text ∙ rw (length-append h s) (add-sub_cancel (length h) (length s)) in
        record { top = h; heads = rw (← r.same) q.spells; litters = r.each; is = q.text ∙ ap (λ x. h ++ x) (r.text ∙ rw (z, zero-add (length ls))) }

-- A text is read as a request exactly if it spells that request and is no longer than a text may be.
pub read_exactly : (text vs : List ℕ) (ls : List (List ℕ)) → read_request text ≡ asked vs ls ↔ (SpellsRequest vs ls text × (length text ≤ 8192))
unfolding read_request
read_exactly text vs ls = (
  λ e. (read_is_spelled text vs ls e, cases (ltb 8192 (length text)) (λ b. absurd (not_asked 0 vs ls (rw b at e))) (λ b. ltb-false 8192 (length text) b)),
  λ r. request_read_back text vs ls r.0 r.1,
)

-- such a text spells one request
pub one_request : (text vs vs' : List ℕ) (ls ls' : List (List ℕ)) → length text ≤ 8192 → SpellsRequest vs ls text → SpellsRequest vs' ls' text → (vs ≡ vs') × (ls ≡ ls')
one_request text vs vs' ls ls' h a b = let e = request_read_back text vs ls a h in let f = request_read_back text vs' ls' b h in (cc, cc)
