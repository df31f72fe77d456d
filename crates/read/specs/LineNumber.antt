-- The line that Form names is one more than the LFs before it.
use Rattle.std.specs.Prelude.{◌≡◌, refl, List, [], ◌∷◌, ◌++◌, ℕ, ◌+◌, ◌≤◌, length}
use Rattle.std.proofs.Common.{sym, ap, ◌∙◌, append_assoc, arith}
use Rattle.template.specs.Template.{render}
use Rattle.template.specs.Read.{feeds}
use Rattle.template.specs.Feeds.{feeds_append, render_feeds, spells_feeds, feeds_before, text_before}
use Rattle.template.specs.Feeds.{before_of as before_line}
use Rattle.read.specs.Request.{head, litter, closing, render_litters}
use Rattle.read.specs.BothWays.{head_sound, last_line}
use Rattle.read.specs.Departure.{Wrong, no_line, more, Departure, too_long, in_head, past_head}

templates_feed : (feeds head ≡ 7) × (feeds litter ≡ 1) × (feeds closing ≡ 1)
unfolding feeds head litter closing
templates_feed = (refl, refl, refl)

litters_feed : (ls : List (List ℕ)) → feeds (render_litters ls) ≡ length ls
unfolding feeds render_litters
litters_feed [] = refl
litters_feed (l ∷ ls) = rw (feeds_append (render litter l) (render_litters ls), render_feeds litter l, litters_feed ls) (omega (arith, templates_feed))

-- the text before the line at which it departs: for one too long, none
abbrev wrong_after : {n start : ℕ} {t : List ℕ} {k : ℕ} → Wrong n start t k → List ℕ
wrong_after (no_line e p q) = []
wrong_after {n = n} {start = start} (more c u e q) = last_line n start

abbrev pub before_of : {text : List ℕ} {k : ℕ} → Departure text k → List ℕ
before_of (too_long h e) = []
before_of (in_head h d) = before_line d
before_of (past_head vs top ls t h b a e w) = top ++ (render_litters ls ++ wrong_after w)

wrong_feeds : {n start : ℕ} {t : List ℕ} {k : ℕ} → (w : Wrong n start t k) → k ≡ 8 + n + feeds (wrong_after w)
unfolding feeds
wrong_feeds (no_line e p q) = omega arith
wrong_feeds {n = n} {start = start} (more c u e q) = rw (render_feeds closing (n ∷ start ∷ [])) (omega (arith, templates_feed))

pub line_number : {text : List ℕ} {k : ℕ} → (d : Departure text k) → length text ≤ 8192 → k ≡ 1 + feeds (before_of d)
line_number (too_long h e) l = absurd (omega arith)
line_number (in_head h d) l = feeds_before head_sound d
line_number (past_head vs top ls t h b a e w) l =
    rw (feeds_append top (render_litters ls ++ wrong_after w), feeds_append (render_litters ls) (wrong_after w), spells_feeds b, litters_feed ls) (omega (arith, templates_feed, wrong_feeds w))

wrong_text : {n start : ℕ} {t : List ℕ} {k : ℕ} → (w : Wrong n start t k) → (u : List ℕ) × (t ≡ wrong_after w ++ u)
wrong_text {t = t} (no_line e p q) = (t, refl)
wrong_text (more c u e q) = (c ∷ u, q)

-- the text goes on with that line
pub text_before_line : {text : List ℕ} {k : ℕ} → (d : Departure text k) → (t : List ℕ) × (text ≡ before_of d ++ t)
text_before_line {text = text} (too_long h e) = (text, refl)
text_before_line (in_head h d) = text_before d
text_before_line (past_head vs top ls t h b a e w) =
    let r = wrong_text w in
    let inner : render_litters ls ++ t ≡ (render_litters ls ++ wrong_after w) ++ r.0 = ap (λ x. render_litters ls ++ x) r.1 ∙ sym (append_assoc (render_litters ls) (wrong_after w) r.0) in
    (r.0, e ∙ ap (λ x. top ++ x) inner ∙ sym (append_assoc top (render_litters ls ++ wrong_after w) r.0))
