-- A turn of the reading by a template: the byte of the template, what it found, and the values so far.
use Rattle.std.specs.Prelude.{◌≡◌, refl, Bool, true, false, cond, List, [], ◌∷◌, ◌++◌, ℕ, ◌+◌, ◌-◌, ◌≤◌, ◌<◌, eqb, length, get_or, set, take, drop, replicate}
use Rattle.std.proofs.Common.{sym, ap, ◌∙◌, append-nil, add-zero, add-one, add_assoc, arith, drop-cons, drop_of_length-le, drop-drop, length-set, take-append-drop, length-take-le, eq-eqb, ne_eqb}
use Rattle.std.proofs.Math.Seq.{take-suc-set, drop-set-lt}
use Rattle.num.specs.Left.{left_one}
use Rattle.template.specs.Template.{is_hole_of, holes}
use Rattle.template.specs.Field.{found, departs}
use Rattle.template.specs.Read.{read_field, Reading, done, departs_at, kept, value_of, line_after_of, feeds, read}
use Rattle.template.specs.Says.{in_places}
use Rattle.template.specs.Departure.{kept_kept}

pub kept_none : (r : Reading) → kept [] r ≡ r
kept_none (done vs t) = refl
kept_none (departs_at line) = refl

inside : (l : List ℕ) (i : ℕ) → i < length l → drop i l ≡ get_or l i 0 ∷ drop (i + 1) l
inside l i h = rw add-one (drop-cons l i 0 h)

-- ---- what a byte of the template adds: a value or none to those so far, whose places after them hold zeros, and a line or none

values_turn : (values : List ℕ) (n v : ℕ) (hole : Bool) → length values ≡ 16 → (hole ≡ true → n < 16) → take n values ++ cond hole (v ∷ []) [] ≡ take (n + cond hole 1 0) (cond hole (set values n v) values)
values_turn values n v true l h = rw add-one (sym (take-suc-set values n v (omega (arith, h refl))))
values_turn values n v false l h = rw (append-nil (take n values), add-zero n)

all_turn : (values : List ℕ) (n v : ℕ) (hole : Bool) → length values ≡ 16 → length (cond hole (set values n v) values) ≡ 16
all_turn values n v true l = length-set values n v ∙ l
all_turn values n v false l = l

zeros_turn : (values : List ℕ) (n v : ℕ) (hole : Bool) → (hole ≡ true → n < 16) → drop n values ≡ replicate (16 - n) 0 → drop (n + cond hole 1 0) (cond hole (set values n v) values) ≡ replicate (16 - (n + cond hole 1 0)) 0
zeros_turn values n v true h e = drop-set-lt (n + 1) values n v (omega arith) ∙ sym (drop-drop 1 n values) ∙ ap (drop 1) (e ∙ ap (λ m. replicate m 0) (left_one 16 n (h refl)))
zeros_turn values n v false h e = rw (add-zero n) e

line_room : (t : Bool) (line m : ℕ) → line ≤ m → cond t (line + 1) line ≤ m + 1
line_room true line m h = omega arith
line_room false line m h = omega arith

line_feeds : (t : Bool) (line m : ℕ) → cond t (line + 1) line + m ≡ line + (cond t 1 0 + m)
line_feeds true line m = omega arith
line_feeds false line m = omega arith

-- k bytes of a template are read, with n values and `line` lines; `rest` is left of the text
pub record Left (template text : List ℕ) (start : ℕ) (rest : List ℕ) (line n : ℕ) (values : List ℕ) (k : ℕ) : Type 0 where
  pub reads : kept (take n values) (read (drop k template) line rest) ≡ read template start text
  pub count : n + holes (drop k template) ≡ holes template
  pub few : line ≤ start + k
  pub lines : line + feeds (drop k template) ≡ start + feeds template
  pub all : length values ≡ 16
  pub zeros : drop n values ≡ replicate (16 - n) 0

pub left_first : (template text : List ℕ) (start : ℕ) → Left template text start text start 0 (replicate 16 0) 0
left_first template text start = record { reads = kept_none _; count = omega arith; few = omega arith; lines = refl; all = refl; zeros = refl }

module _ {template text : List ℕ} {start : ℕ} {rest : List ℕ} {line n : ℕ} {values : List ℕ} {k : ℕ} (i : Left template text start rest line n values k) where
  pub left_departs : k < length template → departs ≡ read_field (get_or template k 0) rest → read template start text ≡ departs_at line
  unfolding read
  left_departs h e = sym i.reads ∙ rw (inside template k h, ← e) refl

  pub left_ends : length template ≤ k → holes template ≤ 16 → (n ≡ holes template) × (line ≡ start + feeds template) × (read template start text ≡ done (take n values) rest) × (values ≡ in_places (take n values))
  unfolding read holes feeds
  left_ends h b =
      let z = drop_of_length-le template {i = k} h in
      let e : n ≡ holes template = sym (add-zero n) ∙ (rw z at i.count) in
      let m : n ≤ length values = omega (arith, e, b, i.all) in (
        e,
        sym (add-zero line) ∙ (rw z at i.lines),
        sym (rw (z, append-nil (take n values)) at i.reads),
        rw (length-take-le n values m, ← i.zeros) (sym (take-append-drop n values)),
      )

  -- a value that is still to come has a place
  pub left_room : k < length template → holes template ≤ 16 → is_hole_of (get_or template k 0) ≡ true → n < 16
  unfolding holes
  left_room h b t = let one : holes (drop k template) ≡ 1 + holes (drop (k + 1) template) = rw (inside template k h, t) in omega (arith, one, i.count)

  pub left_turns :
      (v : ℕ) (after : List ℕ) (line' n' : ℕ) (values' : List ℕ) → k < length template → holes template ≤ 16 → found v after ≡ read_field (get_or template k 0) rest →
      n' ≡ n + cond (is_hole_of (get_or template k 0)) 1 0 → values' ≡ cond (is_hole_of (get_or template k 0)) (set values n v) values → line' ≡ line_after_of (get_or template k 0) line →
      Left template text start after line' n' values' (k + 1)
  unfolding read holes feeds
  left_turns v after line' n' values' h b f en ev el =
      let byte = get_or template k 0 in
      let front = inside template k h in
      let turn : kept (take n values) (kept (value_of byte v) (read (drop (k + 1) template) (line_after_of byte line) after)) ≡ read template start text = rw (front, ← f) at i.reads in
      let more : n + (cond (is_hole_of byte) 1 0 + holes (drop (k + 1) template)) ≡ holes template = rw front at i.count in
      let lines : line + (cond (eqb byte 10) 1 0 + feeds (drop (k + 1) template)) ≡ start + feeds template = rw front at i.lines in
      record {
        reads = rw (ev, en, el, ← values_turn values n v (is_hole_of byte) i.all (left_room h b)) (sym (kept_kept (take n values) (value_of byte v) (read (drop (k + 1) template) (line_after_of byte line) after)) ∙ turn);
        count = rw (en, add_assoc) more;
        few = rw (el, ← add_assoc) (line_room (eqb byte 10) line (start + k) i.few);
        lines = rw el (line_feeds (eqb byte 10) line (feeds (drop (k + 1) template)) ∙ lines);
        all = rw ev (all_turn values n v (is_hole_of byte) i.all);
        zeros = rw (en, ev) (zeros_turn values n v (is_hole_of byte) (left_room h b) i.zeros);
      }

module _ (c : ℕ) where
  pub hole_count : c ≡ 35 → is_hole_of c ≡ true
  hole_count e = rw (eq-eqb c 35 e) refl

  pub hole_bits : (c ≡ 35 → ⊥) → c ≡ 37 → is_hole_of c ≡ true
  hole_bits d e = rw (ne_eqb c 35 d, eq-eqb c 37 e) refl

  pub no_hole : (c ≡ 35 → ⊥) → (c ≡ 37 → ⊥) → is_hole_of c ≡ false
  no_hole d e = rw (ne_eqb c 35 d, ne_eqb c 37 e) refl

  pub next_line : (line : ℕ) → c ≡ 10 → line_after_of c line ≡ line + 1
  next_line line e = rw (eq-eqb c 10 e) refl

  pub same_line : (line : ℕ) → (c ≡ 10 → ⊥) → line_after_of c line ≡ line
  same_line line e = rw (ne_eqb c 10 e) refl
