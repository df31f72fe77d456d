-- Reading by a template and spelling it are inverse: what is spelled is read back, and what is read is spelled. A rendering is a spelling, and of counts alone the only one.
use Rattle.std.specs.Prelude.{◌≡◌, refl, ◌≢◌, Bool, true, false, cond, ◌&&◌, ◌||◌, not, List, [], ◌∷◌, ◌++◌, ℕ, zero, suc, ◌≤◌, ◌<◌, T, ltb, eqb, length, get_or}
use Rattle.std.proofs.Common.{sym, ap, ◌∙◌, append_assoc, le_of_suc-le-suc, not-suc-le-zero, arith, eqb-true, eq-eqb, lit≤, length-append}
use borrow.Table.Steps.{cases}
use Rattle.std.specs.Float.Ieee.Fits.{and_l, and_r}
use Rattle.template.specs.Digits.{places, decimal, hex}
use Rattle.template.specs.Template.{first, is_count, is_bits, is_hole_of, piece, values_after, render, holes}
use Rattle.template.specs.Field.{is_digit_of, Field, found, departs, read_count, read_byte}
use Rattle.template.specs.Decimal.{read_value}
use Rattle.template.specs.Read.{read_field, Reading, done, departs_at, kept, value_of, line_after_of, read_next, read}
use Rattle.template.specs.Sound.{ends_hole, sound, plain, limit_of, limits, Below, Holds, most}
use Rattle.template.specs.DigitLaws.{not_found, digits_many, places_least, decimal_most, count_read_back, count_read_is}
use Rattle.template.specs.Spells.{in_hex, Spells, ended, a_count, a_number, a_byte}
use Rattle.template.specs.SpellingLaws.{number_read_back, number_read_is, number_below, number_many}

-- ---- the three kinds of byte in a template

pub data Kind : ℕ → Type 0 where
  count : Kind 35
  bits : Kind 37
  itself : {c : ℕ} → is_count c ≡ false → is_bits c ≡ false → Kind c

pub kind : (c : ℕ) → Kind c
kind c =
    cases (is_count c)
    (λ p. rw (eqb-true c 35 p) count)
    (λ p. cases (is_bits c) (λ q. rw (eqb-true c 37 q) bits) (λ q. itself p q))

pub not_done : (k : ℕ) (vs t : List ℕ) → departs_at k ≡ done vs t → ⊥
not_done k vs t e = let z : ◌≡◌ {A = ℕ} 0 1 = cc in omega arith

-- ---- what is read is spelled

byte_read_is : (c : ℕ) (s : List ℕ) (v : ℕ) (t : List ℕ) → read_byte c s ≡ found v t → s ≡ c ∷ t
unfolding read_byte
byte_read_is c [] v t e = absurd (not_found v t e)
byte_read_is c (d ∷ s) v t e =
    cases (eqb d c)
    (λ b.
    let r : s ≡ t = cc (rw b at e) in
    rw (eqb-true d c b, r))
    (λ b. absurd (not_found v t (rw b at e)))

-- a template is read by its first byte, and then by the rest
pub record Step (c : ℕ) (f : List ℕ) (line : ℕ) (s vs t : List ℕ) : Type 0 where
  pub v : ℕ
  pub s' : List ℕ
  pub us : List ℕ
  pub here : read_field c s ≡ found v s'
  pub rest : read f (line_after_of c line) s' ≡ done us t
  pub values : value_of c v ++ us ≡ vs

pub step : (c : ℕ) (f : List ℕ) (line : ℕ) (s vs t : List ℕ) → read (c ∷ f) line s ≡ done vs t → Step c f line s vs t
unfolding read
step c f line s vs t e = by_field (read_field c s) refl e
  where
    by_rest : (v : ℕ) (s' : List ℕ) (r : Reading) → read_field c s ≡ found v s' → read f (line_after_of c line) s' ≡ r → kept (value_of c v) r ≡ done vs t → Step c f line s vs t
    by_rest v s' (done us t') e₁ e₂ e₃ = record { v = v; s' = s'; us = us; here = e₁; rest = e₂ ∙ cc; values = cc }
    by_rest v s' (departs_at k) e₁ e₂ e₃ = absurd (not_done k vs t e₃)

    by_field : (r : Field) → read_field c s ≡ r → read_next c line r (read f (line_after_of c line)) ≡ done vs t → Step c f line s vs t
    by_field (found v s') e₁ e₂ = by_rest v s' (read f (line_after_of c line) s') e₁ refl e₂
    by_field departs e₁ e₂ = absurd (not_done line vs t e₂)

-- s is a spelling of the template f with the values vs, and then t
pub record SpelledThen (f vs t s : List ℕ) : Type 0 where
  pub spelled : List ℕ
  pub spells : Spells f vs spelled
  pub text : s ≡ spelled ++ t

put : {c : ℕ} → Kind c → (f s s' us vs t : List ℕ) (v : ℕ) → read_field c s ≡ found v s' → value_of c v ++ us ≡ vs → SpelledThen f us t s' → SpelledThen (c ∷ f) vs t s
unfolding read_field
put count f s s' us vs t v e q h =
    let r = count_read_is s v s' e in
    record { spelled = decimal v ++ h.spelled; spells = rw (← q) (a_count v r.1 refl h.spells); text = r.0 ∙ ap (λ x. decimal v ++ x) h.text ∙ sym (append_assoc (decimal v) h.spelled t) }
put bits f s s' us vs t v e q h =
    let r = number_read_is s v s' e in
    record { spelled = r.spelled ++ h.spelled; spells = rw (← q) (a_number v r.spelled r.spelling refl h.spells); text = r.text ∙ ap (λ x. r.spelled ++ x) h.text ∙ sym (append_assoc r.spelled h.spelled t) }
put (itself {c = c} a b) f s s' us vs t v e q h =
    let w : us ≡ vs = rw (a, b) at q in
    record { spelled = c ∷ h.spelled; spells = rw (← w) (a_byte c a b refl h.spells); text = byte_read_is c s v s' (rw (a, b) at e) ∙ ap (λ x. c ∷ x) h.text }

-- What is read is a spelling of the template with the values that are read.
pub spelled_read : (f s vs t : List ℕ) (line : ℕ) → read f line s ≡ done vs t → SpelledThen f vs t s
unfolding read
spelled_read [] s vs t line e =
    let a : [] ≡ vs = cc in
    record { spelled = []; spells = rw (← a) ended; text = cc }
spelled_read (c ∷ f) s vs t line e =
    let x = step c f line s vs t e in
    put (kind c) f s x.s' x.us vs t x.v x.here x.values (spelled_read f x.s' x.us t (line_after_of c line) x.rest)

-- ---- what is spelled is read back

-- what a sound template says of its first byte and of the rest
pub record Sound (c : ℕ) (f : List ℕ) : Type 0 where
  pub ends : T (not (is_hole_of c) || ends_hole (first f))
  pub rest : T (sound f)

pub sound_parts : (c : ℕ) (f : List ℕ) → T (sound (c ∷ f)) → Sound c f
unfolding sound
sound_parts c f h =
    let e = not (is_hole_of c) || ends_hole (first f) in
    record { ends = and_l e (sound f) h; rest = and_r e (sound f) h }

failed : (b : Bool) → T (not b) → b ≡ false
failed true h = absurd h
failed false h = refl

-- a byte that ends a hole
record Ends (c : ℕ) : Type 0 where
  no_digit : is_digit_of c ≡ false
  no_point_lem : eqb c 46 ≡ false

ends_hole_lem : (c : ℕ) → T (ends_hole c) → Ends c
ends_hole_lem c h =
    let a = ltb 0 c && not (is_digit_of c) in
    let p = not (eqb c 46) in
    let abp = and_l (a && p) (not (is_hole_of c)) h in
    record { no_digit = failed (is_digit_of c) (and_r (ltb 0 c) (not (is_digit_of c)) (and_l a p abp)); no_point_lem = failed (eqb c 46) (and_r a p abp) }

-- the text goes on with the form's byte
goes_on : {f vs s : List ℕ} → Spells f vs s → T (ends_hole (first f)) → (t : List ℕ) → first (s ++ t) ≡ first f
goes_on ended h t = absurd h
goes_on (a_count n b e k) h t = absurd h
goes_on (a_number v q b e k) h t = absurd h
goes_on (a_byte c a b e k) h t = ap (λ x. first (x ++ t)) e

follows : {f vs s : List ℕ} → Spells f vs s → T (ends_hole (first f)) → (t : List ℕ) → Ends (first (s ++ t))
follows {f = f} k h t = rw (goes_on k h t) (ends_hole_lem (first f) h)

hole_ends : (c : ℕ) (f : List ℕ) → is_hole_of c ≡ true → T (sound (c ∷ f)) → T (ends_hole (first f))
hole_ends c f e h = rw e at (sound_parts c f h).ends

next : (c : ℕ) (f : List ℕ) (line v : ℕ) (s s' us t : List ℕ) → read_field c s ≡ found v s' → read f (line_after_of c line) s' ≡ done us t → read (c ∷ f) line s ≡ done (value_of c v ++ us) t
unfolding read
next c f line v s s' us t e r = rw (e, r) refl

no_hole : (c : ℕ) → is_count c ≡ false → is_bits c ≡ false → is_hole_of c ≡ false
no_hole c a b = rw (a, b) refl

-- the first part of a spelling, and the rest with what follows
split_off : (p a s t : List ℕ) → p ≡ a ++ s → p ++ t ≡ a ++ (s ++ t)
split_off p a s t e = ap (λ x. x ++ t) e ∙ append_assoc a s t

-- What spells a sound template is read back, whatever follows it.
pub read_spelled : {f vs s : List ℕ} (line : ℕ) (t : List ℕ) → T (sound f) → Spells f vs s → read f line (s ++ t) ≡ done vs t
unfolding read read_field read_byte
read_spelled line t h ended = refl
read_spelled line t h (a_count {f = f} {vs = vs} {s = s} {p = p} n b e k) =
    let a = follows k (hole_ends 35 f refl h) t in
    next 35 f line n (p ++ t) (s ++ t) vs t (ap read_count (split_off p (decimal n) s t e) ∙ count_read_back n (s ++ t) b a.no_digit) (read_spelled (line_after_of 35 line) t (sound_parts 35 f h).rest k)
read_spelled line t h (a_number {f = f} {vs = vs} {s = s} {p = p} v q b e k) =
    let a = follows k (hole_ends 37 f refl h) t in
    next 37 f line v (p ++ t) (s ++ t) vs t (ap read_value (split_off p q s t e) ∙ number_read_back v q (s ++ t) b a.no_digit a.no_point_lem) (read_spelled (line_after_of 37 line) t (sound_parts 37 f h).rest k)
read_spelled line t h (a_byte {f = f} {vs = vs} {s = s} {p = p} c a b e k) =
    let here : read_field c (p ++ t) ≡ found 0 (s ++ t) = rw (a, b, e, eq-eqb c c refl) refl in
    let r = next c f line 0 (p ++ t) (s ++ t) vs t here (read_spelled (line_after_of c line) t (sound_parts c f h).rest k) in
    rw (no_hole c a b) at r

-- where the reading departs, no spelling of the template stands
pub not_there : (f s vs p t : List ℕ) (line k : ℕ) → T (sound f) → read f line s ≡ departs_at k → Spells f vs p → s ≢ p ++ t
not_there f s vs p t line k h e b q = not_done k vs t (sym e ∙ rw q (read_spelled line t h b))

-- ---- a rendering is a spelling

piece_spells : {c : ℕ} → Kind c → (f vs s : List ℕ) → Holds (c ∷ f) vs → (Holds f (values_after c vs) → Spells f (values_after c vs) s) → Spells (c ∷ f) vs (piece c vs ++ s)
unfolding limits
piece_spells count f [] s b h = absurd b
piece_spells count f (v ∷ vs) s b h = a_count v b.0 refl (h b.1)
piece_spells bits f [] s b h = absurd b
piece_spells bits f (v ∷ vs) s b h = a_number v (hex v) (in_hex b.0 refl) refl (h b.1)
piece_spells (itself {c = c} p q) f vs s b h = rw (p, q) (a_byte c p q refl (rw (p, q) at (h (rw (p, q) (rw (p, q) at b)))))

pub render_spells : (f vs : List ℕ) → Holds f vs → Spells f vs (render f vs)
unfolding render limits
render_spells [] [] b = ended
render_spells [] (v ∷ vs) b = absurd b
render_spells (c ∷ f) vs b = piece_spells (kind c) f vs (render f (values_after c vs)) b (render_spells f (values_after c vs))

pub read_rendered : (f vs t : List ℕ) (line : ℕ) → T (sound f) → Holds f vs → read f line (render f vs ++ t) ≡ done vs t
read_rendered f vs t line h b = read_spelled line t h (render_spells f vs b)

pub not_rendered : (f s vs t : List ℕ) (line k : ℕ) → T (sound f) → read f line s ≡ departs_at k → Holds f vs → s ≢ render f vs ++ t
not_rendered f s vs t line k h e b = not_there f s vs (render f vs) t line k h e (render_spells f vs b)

-- the values of a spelling fit its template
pub spells_holds : {f vs s : List ℕ} → Spells f vs s → Holds f vs
unfolding limits
spells_holds ended = tt
spells_holds (a_count n b e k) = (b, spells_holds k)
spells_holds (a_number v q b e k) = (number_below v q b, spells_holds k)
spells_holds (a_byte c a b e k) = rw (a, b) (spells_holds k)

-- a template of counts alone is spelled by its rendering
pub plain_spells : {f vs s : List ℕ} → T (plain f) → Spells f vs s → s ≡ render f vs
unfolding plain render
plain_spells h ended = refl
plain_spells h (a_count {f = f} n b e k) = e ∙ ap (λ x. decimal n ++ x) (plain_spells h k)
plain_spells h (a_number v q b e k) = absurd h
plain_spells h (a_byte {f = f} c a b e k) = rw (a, b) (e ∙ ap (λ x. c ∷ x) (plain_spells (and_r (not (is_bits c)) (plain f) h) k))

pub rendered_read : (f s vs t : List ℕ) (line : ℕ) → T (plain f) → read f line s ≡ done vs t → (s ≡ render f vs ++ t) × Holds f vs
rendered_read f s vs t line h e = let r = spelled_read f s vs t line e in (r.text ∙ ap (λ x. x ++ t) (plain_spells h r.spells), spells_holds r.spells)

-- ---- what the values are

below_many : (ls vs : List ℕ) → Below ls vs → length vs ≡ length ls
below_many [] [] b = refl
below_many [] (v ∷ vs) b = absurd b
below_many (l ∷ ls) [] b = absurd b
below_many (l ∷ ls) (v ∷ vs) b = ap suc (below_many ls vs b.1)

below_at : (ls vs : List ℕ) (i : ℕ) → Below ls vs → i < length ls → get_or vs i 0 < get_or ls i 0
below_at [] [] i b h = absurd (not-suc-le-zero h)
below_at [] (v ∷ vs) i b h = absurd b
below_at (l ∷ ls) [] i b h = absurd b
below_at (l ∷ ls) (v ∷ vs) zero b h = b.0
below_at (l ∷ ls) (v ∷ vs) (suc i) b h = below_at ls vs i b.1 (le_of_suc-le-suc h)

limit_many : {c : ℕ} → Kind c → length (limit_of c) ≡ cond (is_hole_of c) 1 0
limit_many count = refl
limit_many bits = refl
limit_many (itself p q) = rw (p, q)

limits_many : (f : List ℕ) → length (limits f) ≡ holes f
unfolding limits holes
limits_many [] = refl
limits_many (c ∷ f) = rw (length-append (limit_of c) (limits f), limit_many (kind c), limits_many f)

-- as many as the template has holes
pub holds_many : (f vs : List ℕ) → Holds f vs → length vs ≡ holes f
holds_many f vs b = below_many (limits f) vs b ∙ limits_many f

-- each below the limit of its hole, by the values' numbers from 0
pub holds_below : (f vs : List ℕ) (i : ℕ) → Holds f vs → i < holes f → get_or vs i 0 < get_or (limits f) i 0
holds_below f vs i b h = below_at (limits f) vs i b (rw (limits_many f) h)

-- ---- how long a spelling is

pub spells_most : {f vs s : List ℕ} → Spells f vs s → length s ≤ most f
unfolding most
spells_most ended = lit≤ tt
spells_most (a_count {s = s} n b e k) = let i = spells_most k in rw (e, length-append (decimal n) s) (omega (arith, decimal_most n b))
spells_most (a_number {s = s} v q b e k) = let i = spells_most k in rw (e, length-append q s) (omega (arith, (number_many v q b).1))
spells_most (a_byte c a b e k) = let i = spells_most k in rw (a, b, e) (omega arith)

-- no shorter than the template
pub spells_least : {f vs s : List ℕ} → Spells f vs s → length f ≤ length s
spells_least ended = lit≤ tt
spells_least (a_count {s = s} n b e k) = let i = spells_least k in rw (e, length-append (decimal n) s, digits_many 10 (places n) n) (omega (arith, places_least 19 n))
spells_least (a_number {s = s} v q b e k) = let i = spells_least k in rw (e, length-append q s) (omega (arith, (number_many v q b).0))
spells_least (a_byte c a b e k) = let i = spells_least k in rw e (omega arith)
