-- Line feeds: what spells a template has as many as it, so a line's number is one more than the line feeds before it.
use Rattle.std.specs.Prelude.{◌≡◌, refl, Bool, true, false, cond, List, [], ◌∷◌, ◌++◌, ℕ, zero, suc, ◌+◌, ◌/◌, ◌%◌, ◌^◌, T, ltb, eqb}
use Rattle.std.proofs.Common.{sym, ap, ◌∙◌, append_assoc, add-zero, zero-add, add_assoc, arith, ne_eqb}
use borrow.Table.Steps.{cases}
use Rattle.template.specs.Digits.{glyph, digits, places, decimal}
use Rattle.template.specs.Template.{first, piece, values_after, render}
use Rattle.template.specs.Read.{feeds, read}
use Rattle.template.specs.Sound.{sound}
use Rattle.template.specs.Spells.{sign, Spelling, in_hex, in_decimal, Spells, ended, a_count, a_number, a_byte}
use Rattle.template.specs.BothWays.{Kind, count, bits, itself, kind, not_done}
use Rattle.template.specs.Departure.{first_line, other_lines, Departs, here, later, lines_sound, there_departs}

pub feeds_append : (a b : List ℕ) → feeds (a ++ b) ≡ feeds a + feeds b
unfolding feeds
feeds_append [] b = omega arith
feeds_append (c ∷ a) b = rw (feeds_append a b) (omega arith)

-- a digit is no LF
glyph_none : (d : ℕ) → eqb (glyph d) 10 ≡ false
glyph_none d =
    cases (ltb d 10)
    (λ b. rw b (ne_eqb (48 + d) 10 (λ (e : 48 + d ≡ 10). omega arith)))
    (λ b. rw b (ne_eqb (87 + d) 10 (λ (e : 87 + d ≡ 10). omega arith)))

digits_none : (b k n : ℕ) → feeds (digits b k n) ≡ 0
unfolding feeds digits
digits_none b zero n = refl
digits_none b (suc k) n = rw (glyph_none (n / b ^ k % b), digits_none b k n)

piece_feeds : {c : ℕ} → Kind c → (vs : List ℕ) → feeds (piece c vs) ≡ cond (eqb c 10) 1 0
unfolding feeds
piece_feeds count vs = digits_none 10 (places (first vs)) (first vs)
piece_feeds bits vs = digits_none 16 16 (first vs)
piece_feeds (itself {c = c} p q) vs = rw (p, q) (add-zero (cond (eqb c 10) 1 0))

pub render_feeds : (f vs : List ℕ) → feeds (render f vs) ≡ feeds f
unfolding feeds render
render_feeds [] vs = refl
render_feeds (c ∷ f) vs = rw (feeds_append (piece c vs) (render f (values_after c vs)), piece_feeds (kind c) vs, render_feeds f (values_after c vs))

decimal_none : (minus : Bool) (a b : List ℕ) → feeds a ≡ 0 → feeds b ≡ 0 → feeds (sign minus (a ++ (46 ∷ b))) ≡ 0
unfolding feeds
decimal_none true a b e f = rw (feeds_append a (46 ∷ b), e, f) refl
decimal_none false a b e f = rw (feeds_append a (46 ∷ b), e, f) refl

pub number_none : (v : ℕ) (q : List ℕ) → Spelling v q → feeds q ≡ 0
number_none v q (in_hex h e) = rw e (digits_none 16 16 v)
number_none v q (in_decimal minus d a k x p n i e) = rw e (decimal_none minus (digits 10 a (d / 10 ^ k)) (digits 10 k d) (digits_none 10 a (d / 10 ^ k)) (digits_none 10 k d))

pub spells_feeds : {f vs s : List ℕ} → Spells f vs s → feeds s ≡ feeds f
unfolding feeds
spells_feeds ended = refl
spells_feeds (a_count {s = s} n b e k) = rw (e, feeds_append (decimal n) s, digits_none 10 (places n) n, spells_feeds k) refl
spells_feeds (a_number {s = s} v q b e k) = rw (e, feeds_append q s, number_none v q b, spells_feeds k) refl
spells_feeds (a_byte c a b e k) = rw (e, spells_feeds k) refl

-- a line that others follow ends in its one LF
line_feeds : (f : List ℕ) → (other_lines f ≡ [] → ⊥) → feeds (first_line f) ≡ 1
unfolding feeds
line_feeds [] h = absurd (h refl)
line_feeds (c ∷ f) h = cases (eqb c 10) (λ b. rw b) (λ b. rw b (zero-add (feeds (first_line f)) ∙ line_feeds f (rw b at h)))

-- the text before the line at which it departs
abbrev pub before_of : {f s : List ℕ} {line k : ℕ} → Departs f line s k → List ℕ
before_of (here w) = []
before_of (later vs p t b q d) = p ++ before_of d

none_departs : (f s : List ℕ) (line k : ℕ) → f ≡ [] → Departs f line s k → ⊥
unfolding read sound
none_departs f s line k e d = not_done k [] s (sym (there_departs tt (rw e at d)))

-- The line's number counts the LFs before it.
pub feeds_before : {f s : List ℕ} {line k : ℕ} → T (sound f) → (d : Departs f line s k) → k ≡ line + feeds (before_of d)
unfolding feeds
feeds_before h (here {line = line} w) = sym (add-zero line)
feeds_before h (later {f = f} {line = line} vs p t b q d) =
    let ih = feeds_before (lines_sound f h).1 d in
    let one = line_feeds f (λ e. none_departs (other_lines f) t (line + 1) _ e d) in
    rw (feeds_append p (before_of d), spells_feeds b, one) (ih ∙ add_assoc line 1 (feeds (before_of d)))

-- and what follows it is the rest of the text
pub text_before : {f s : List ℕ} {line k : ℕ} → (d : Departs f line s k) → (t : List ℕ) × (s ≡ before_of d ++ t)
text_before (here {s = s} w) = (s, refl)
text_before (later vs p t b q d) = let r = text_before d in (r.0, q ∙ ap (λ x. p ++ x) r.1 ∙ sym (append_assoc p (before_of d) r.0))
