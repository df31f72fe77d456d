-- The line at which a text departs from a template: the form's lines before it are spelled in the text, and the form's line is not.
use Rattle.std.specs.Prelude.{◌≡◌, refl, ◌≢◌, cond, ◌||◌, not, List, [], ◌∷◌, ◌++◌, ℕ, zero, suc, ◌+◌, ◌≤◌, T, eqb, length}
use Rattle.std.proofs.Common.{sym, ap, ◌∙◌, append_assoc, append-nil, le_refl, arith, eqb-true, lit≤}
use borrow.Table.Steps.{cases}
use Rattle.std.specs.Float.Ieee.Fits.{and_i}
use Rattle.template.specs.Template.{first, is_hole_of}
use Rattle.template.specs.Field.{Field, found, departs}
use Rattle.template.specs.Read.{read_field, Reading, done, departs_at, kept, value_of, line_after_of, read_next, read}
use Rattle.template.specs.Sound.{ends_hole, sound}
use Rattle.template.specs.Spells.{Spells}
use Rattle.template.specs.BothWays.{sound_parts, not_done, not_there, spelled_read, read_spelled}

-- a form's first line with its LF, and the lines after it
abbrev pub first_line : List ℕ → List ℕ
first_line [] = []
first_line (c ∷ f) = c ∷ cond (eqb c 10) [] (first_line f)

abbrev pub other_lines : List ℕ → List ℕ
other_lines [] = []
other_lines (c ∷ f) = cond (eqb c 10) f (other_lines f)

-- The text s departs from the template f at line k, where `line` is the number of the line at which s starts.
pub data Departs : List ℕ → ℕ → List ℕ → ℕ → Type 0 where
  here : {f : List ℕ} {line : ℕ} {s : List ℕ} → ((vs p t : List ℕ) → Spells (first_line f) vs p → s ≢ p ++ t) → Departs f line s line
  later : {f : List ℕ} {line : ℕ} {s : List ℕ} {k : ℕ} (vs p t : List ℕ) → Spells (first_line f) vs p → s ≡ p ++ t → Departs (other_lines f) (line + 1) t k → Departs f line s k

-- ---- reading line by line

kept_departs : (us : List ℕ) (r : Reading) (k : ℕ) → kept us r ≡ departs_at k → r ≡ departs_at k
kept_departs us (done vs t) k e = absurd (not_done k (us ++ vs) t (sym e))
kept_departs us (departs_at j) k e = e

-- what is read by a form's other lines, after its first line was read
abbrev pub go_on : Reading → (List ℕ → Reading) → Reading
go_on (departs_at k) go = departs_at k
go_on (done vs t) go = kept vs (go t)

pub kept_kept : (us vs : List ℕ) (r : Reading) → kept us (kept vs r) ≡ kept (us ++ vs) r
kept_kept us vs (done ws t) = rw (append_assoc us vs ws)
kept_kept us vs (departs_at k) = refl

kept_on : (us : List ℕ) (r : Reading) (go : List ℕ → Reading) → kept us (go_on r go) ≡ go_on (kept us r) go
kept_on us (done vs t) go = kept_kept us vs (go t)
kept_on us (departs_at k) go = refl

by_lines : (f : List ℕ) (line : ℕ) (s : List ℕ) → read f line s ≡ go_on (read (first_line f) line s) (read (other_lines f) (line + 1))
unfolding read
by_lines [] line s = refl
by_lines (c ∷ f) line s = by_byte (read_field c s) (by_lines f line)
  where
    by_byte : (r : Field) → ((t : List ℕ) → read f line t ≡ go_on (read (first_line f) line t) (read (other_lines f) (line + 1))) → read_next c line r (read f (line_after_of c line)) ≡ go_on (read_next c line r (read (cond (eqb c 10) [] (first_line f)) (line_after_of c line))) (read (cond (eqb c 10) f (other_lines f)) (line + 1))
    by_byte departs ih = refl
    by_byte (found v t) ih = cases (eqb c 10) (λ b. rw (b, append-nil (value_of c v))) (λ b. rw b (ap (λ r. kept (value_of c v) r) (ih t) ∙ kept_on (value_of c v) (read (first_line f) line t) (read (other_lines f) (line + 1))))

-- in one line, a departure is at that line
pub in_line : (f : List ℕ) (line k : ℕ) (s : List ℕ) → read (first_line f) line s ≡ departs_at k → line ≡ k
unfolding read
in_line [] line k s e = absurd (not_done k [] s (sym e))
in_line (c ∷ f) line k s e = by_byte (read_field c s) e (in_line f line k)
  where
    by_byte : (r : Field) → read_next c line r (read (cond (eqb c 10) [] (first_line f)) (line_after_of c line)) ≡ departs_at k → ((t : List ℕ) → read (first_line f) line t ≡ departs_at k → line ≡ k) → line ≡ k
    by_byte departs e ih = cc
    by_byte (found v t) e ih =
        cases (eqb c 10)
        (λ b. absurd (not_done k (value_of c v ++ []) t (sym (rw b at e))))
        (λ b. ih t (kept_departs (value_of c v) (read (first_line f) line t) k (rw b at e)))

-- ---- each line of a sound template is sound

first_same : (f : List ℕ) → first (first_line f) ≡ first f
first_same [] = refl
first_same (c ∷ f) = refl

pub lines_sound : (f : List ℕ) → T (sound f) → T (sound (first_line f)) × T (sound (other_lines f))
unfolding sound
lines_sound [] h = (tt, tt)
lines_sound (c ∷ f) h =
    let p = sound_parts c f h in
    let r = lines_sound f p.rest in
    cases (eqb c 10)
    (λ b. rw (b, eqb-true c 10 b) (tt, p.rest))
    (λ b. rw (b, first_same f) (and_i (not (is_hole_of c) || ends_hole (first f)) (sound (first_line f)) p.ends r.0, r.1))

others_shorter : (c : ℕ) (f : List ℕ) → length (other_lines (c ∷ f)) ≤ length f
others_shorter c [] = cases (eqb c 10) (λ b. rw b (lit≤ tt)) (λ b. rw b (lit≤ tt))
others_shorter c (d ∷ f) = cases (eqb c 10) (λ b. rw b (le_refl _)) (λ b. rw b (omega (arith, others_shorter d f)))

-- ---- the departure

by_first : (f s : List ℕ) (line k : ℕ) (r : Reading) → T (sound f) → ((t : List ℕ) → read (other_lines f) (line + 1) t ≡ departs_at k → Departs (other_lines f) (line + 1) t k) → read (first_line f) line s ≡ r → go_on r (read (other_lines f) (line + 1)) ≡ departs_at k → Departs f line s k
by_first f s line k (departs_at j) h go e₁ e₂ =
    let z : line ≡ k = in_line f line k s (e₁ ∙ e₂) in
    rw (← z) (here (λ vs p t. not_there (first_line f) s vs p t line j (lines_sound f h).0 e₁))
by_first f s line k (done vs t) h go e₁ e₂ =
    let r = spelled_read (first_line f) s vs t line e₁ in
    later vs r.spelled t r.spells r.text (go t (kept_departs vs (read (other_lines f) (line + 1) t) k e₂))

departs_in : (n : ℕ) (f s : List ℕ) (line k : ℕ) → length f ≤ n → T (sound f) → read f line s ≡ departs_at k → Departs f line s k
unfolding read
departs_in zero [] s line k l h e = absurd (not_done k [] s (sym e))
departs_in zero (c ∷ f) s line k l h e = absurd (omega arith)
departs_in (suc n) [] s line k l h e = absurd (not_done k [] s (sym e))
departs_in (suc n) (c ∷ f) s line k l h e =
    let o = other_lines (c ∷ f) in
    by_first (c ∷ f) s line k (read (first_line (c ∷ f)) line s) h (λ t. departs_in n o t (line + 1) k (omega (arith, others_shorter c f)) (lines_sound (c ∷ f) h).1) refl (sym (by_lines (c ∷ f) line s) ∙ e)

-- The line that the reading answers is the one at which the text departs.
pub departs_there : (f s : List ℕ) (line k : ℕ) → T (sound f) → read f line s ≡ departs_at k → Departs f line s k
departs_there f s line k h e = departs_in (length f) f s line k (le_refl (length f)) h e

pub there_departs : {f s : List ℕ} {line k : ℕ} → T (sound f) → Departs f line s k → read f line s ≡ departs_at k
there_departs h (here {f = f} {line = line} {s = s} w) = rw (by_lines f line s) (go (read (first_line f) line s) refl)
  where
    go : (r : Reading) → read (first_line f) line s ≡ r → go_on r (read (other_lines f) (line + 1)) ≡ departs_at line
    go (departs_at j) e = ap departs_at (sym (in_line f line j s e))
    go (done vs t) e = let r = spelled_read (first_line f) s vs t line e in absurd (w vs r.spelled t r.spells r.text)
there_departs h (later {f = f} {line = line} {s = s} {k = k} vs p t b q d) =
    rw (by_lines f line s, q, read_spelled line t (lines_sound f h).0 b, there_departs (lines_sound f h).1 d)

-- there is one
pub one_line : (f s : List ℕ) (line j k : ℕ) → T (sound f) → Departs f line s j → Departs f line s k → j ≡ k
one_line f s line j k h d e = cc (there_departs h d, there_departs h e)
