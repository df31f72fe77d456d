-- A text of at most 8,192 bytes is read as a request with a claim exactly if it spells the request and, behind it, the claim: no line of a request begins with a `c`.
use Rattle.std.specs.Prelude.{◌≡◌, refl, ◌↔◌, Bool, true, false, not, ◌&&◌, ◌||◌, List, [], ◌∷◌, ◌++◌, ℕ, ◌+◌, ◌≤◌, ◌<◌, T, ltb, eqb, length, take, drop}
use Rattle.std.proofs.Common.{sym, ap, ◌∙◌, append-nil, zero-add, add-zero, arith, ltb-false, le-ltb, length-append, take-append-drop, take_at}
use Rattle.std.proofs.Math.Bool.{and-eq-true_iff}
use Rattle.std.proofs.lemmas.Bool.{not-true}
use borrow.Table.Steps.{cases}
use Rattle.std.proofs.Math.Seq.{drop-append_seam}
use Rattle.template.specs.Template.{is_hole_of, render}
use Rattle.template.specs.Field.{read_byte}
use Rattle.template.specs.Read.{Reading, done, departs_at, feeds, read_field, read}
use Rattle.template.specs.Sound.{sound}
use Rattle.template.specs.Digits.{decimal}
use Rattle.template.specs.Spells.{Spells, ended, a_count, a_number, a_byte}
use Rattle.template.specs.BothWays.{not_done, spelled_read, read_spelled, render_spells}
use Rattle.template.specs.Feeds.{feeds_append, spells_feeds, number_none}
use Rattle.read.specs.Request.{head, litter, closing, Asked, asked, form, is_empty, render_litters, read_request}
use Rattle.read.specs.BothWays.{EachHolds, last_line, SpellsRequest, last_holds, parts_long, litters_some, request_read_back, read_is_spelled, is_empty_lem}
use Rattle.claimed.specs.Claimed.{claims, claim, claim_at_of, read_claim, read_behind, read_claimed}
use Rattle.claimed.specs.Claiming.{not_claims}

-- ---- lists without a line that begins with a `c`, behind the byte `last`; and the byte that stands before what follows

abbrev last_of : ℕ → List ℕ → ℕ
last_of last [] = last
last_of last (c ∷ s) = last_of c s

abbrev Clean : ℕ → List ℕ → Type 0
Clean last [] = Unit
Clean last (c ∷ s) = ((eqb last 10 && eqb c 99) ≡ false) × Clean c s

clean_append : (last : ℕ) (a b : List ℕ) → Clean last a → Clean (last_of last a) b → Clean last (a ++ b)
clean_append last [] b h g = g
clean_append last (c ∷ a) b h g = (h.0, clean_append c a b h.1 g)

last_append : (last : ℕ) (a b : List ℕ) → last_of last (a ++ b) ≡ last_of (last_of last a) b
last_append last [] b = refl
last_append last (c ∷ a) b = last_append c a b

passed : (last : ℕ) (s t : List ℕ) → Clean last s → claim_at_of last (s ++ t) ≡ length s + claim_at_of (last_of last s) t
unfolding claim_at_of
passed last [] t h = sym (zero-add (claim_at_of last t))
passed last (c ∷ s) t h = rw (h.0, passed c s t h.1) (omega arith)

-- what is known of a text before which the byte `last` stands, and that ends a line or not
record Ends (last : ℕ) (s : List ℕ) (fresh : Bool) : Type 0 where
  clean : Clean last s
  begins : eqb (last_of last s) 10 ≡ fresh

both : (last : ℕ) (a b : List ℕ) (m n : Bool) → Ends last a m → Ends (last_of last a) b n → Ends last (a ++ b) n
both last a b m n h g = record { clean = clean_append last a b h.clean g.clean; begins = rw (last_append last a b) g.begins }

-- digits have no LF
quiet : (last : ℕ) (s : List ℕ) → feeds s ≡ 0 → eqb last 10 ≡ false → Ends last s false
unfolding feeds
quiet last [] e f = record { clean = tt; begins = f }
quiet last (c ∷ s) e f =
    cases (eqb c 10)
    (λ b. let z = rw b at e in absurd (omega arith))
    (λ b.
    let g = quiet c s (let z = rw b at e in omega arith) b in
    record { clean = (rw f, g.clean); begins = g.begins })

-- ---- a template: no hole and no `c` at the start of a line

abbrev tidy : Bool → List ℕ → Bool
tidy fresh [] = true
tidy fresh (c ∷ f) = not (fresh && (is_hole_of c || eqb c 99)) && tidy (eqb c 10) f

abbrev leaves : Bool → List ℕ → Bool
leaves fresh [] = fresh
leaves fresh (c ∷ f) = leaves (eqb c 10) f

count_feeds : (n : ℕ) → n < 4294967296 → feeds (decimal n) ≡ 0
unfolding feeds
count_feeds n b = let e = spells_feeds (a_count n b refl ended) in let g = feeds_append (decimal n) [] in omega arith

hole_follows : (fresh : Bool) → not (fresh && true) ≡ true → fresh ≡ false
hole_follows true h = sym h
hole_follows false h = refl

spells_tidy : {f vs s : List ℕ} → Spells f vs s → (last : ℕ) (fresh : Bool) → eqb last 10 ≡ fresh → tidy fresh f ≡ true → Ends last s (leaves fresh f)
spells_tidy ended last fresh e h = record { clean = tt; begins = e }
spells_tidy (a_count {f = f} {s = s} n b p k) last fresh e h =
    let t = (and-eq-true_iff (not (fresh && true)) (tidy false f)).0 h in
    let g = quiet last (decimal n) (count_feeds n b) (e ∙ hole_follows fresh t.0) in
    rw p (both last (decimal n) s false (leaves false f) g (spells_tidy k (last_of last (decimal n)) false g.begins t.1))
spells_tidy (a_number {f = f} {s = s} v q b p k) last fresh e h =
    let t = (and-eq-true_iff (not (fresh && true)) (tidy false f)).0 h in
    let g = quiet last q (number_none v q b) (e ∙ hole_follows fresh t.0) in
    rw p (both last q s false (leaves false f) g (spells_tidy k (last_of last q) false g.begins t.1))
spells_tidy (a_byte {f = f} {s = s} c p q w k) last fresh e h =
    let t = (and-eq-true_iff (not (fresh && (is_hole_of c || eqb c 99))) (tidy (eqb c 10) f)).0 h in
    let u = rw (p, q) at (not-true (fresh && (is_hole_of c || eqb c 99)) t.0) in
    let g = spells_tidy k c (eqb c 10) refl t.1 in
    rw w (record { clean = (rw e u, g.clean); begins = g.begins })

-- ---- a request

head_tidy : (tidy true head ≡ true) × (leaves true head ≡ true)
unfolding head
head_tidy = (refl, refl)

litter_tidy : (tidy true litter ≡ true) × (leaves true litter ≡ true)
unfolding litter
litter_tidy = (refl, refl)

closing_tidy : (tidy true closing ≡ true) × (leaves true closing ≡ true)
unfolding closing
closing_tidy = (refl, refl)

line_ends : (f vs s : List ℕ) → (tidy true f ≡ true) × (leaves true f ≡ true) → Spells f vs s → (last : ℕ) → eqb last 10 ≡ true → Ends last s true
line_ends f vs s t k last e = rw t.1 at (spells_tidy k last true e t.0)

litters_end : (ls : List (List ℕ)) → EachHolds ls → (last : ℕ) → eqb last 10 ≡ true → Ends last (render_litters ls) true
unfolding render_litters
litters_end [] a last e = record { clean = tt; begins = e }
litters_end (l ∷ ls) a last e =
    let g = line_ends litter l (render litter l) litter_tidy (render_spells litter l a.0) last e in
    both last (render litter l) (render_litters ls) true true g (litters_end ls a.1 (last_of last (render litter l)) g.begins)

request_ends : (text vs : List ℕ) (ls : List (List ℕ)) → SpellsRequest vs ls text → length text ≤ 8192 → Ends 10 text true
request_ends text vs ls a h =
    let top = a.top in
    let lines = render_litters ls in
    let end = last_line (length ls) (length top) in
    let n : length text ≡ length top + (length lines + length end) = ap length a.is ∙ parts_long top lines end in
    let s = litters_some ls a.litters in
    let p = line_ends head vs top head_tidy a.heads 10 refl in
    let q = litters_end ls a.litters (last_of 10 top) p.begins in
    let us = length ls ∷ length top ∷ [] in
    let r = line_ends closing us end closing_tidy (render_spells closing us (last_holds (length ls) (length top) (omega arith) (omega arith))) (last_of (last_of 10 top) lines) q.begins in
    rw a.is (both 10 top (lines ++ end) true true p (both (last_of 10 top) lines end true true q r))

-- ---- the claim

claim_sound : T (sound claim)
unfolding sound claim
claim_sound = tt

begun : (f : List ℕ) (line : ℕ) (s us t : List ℕ) (last : ℕ) → eqb last 10 ≡ true → read (99 ∷ f) line s ≡ done us t → claim_at_of last s ≡ 0
unfolding claim_at_of read read_field read_byte
begun f line [] us t last e h = refl
begun f line (d ∷ s) us t last e h = cases (eqb d 99) (λ b. rw (e, b)) (λ b. absurd (not_done line us t (rw b at h)))

claim_begins : (line : ℕ) (s us t : List ℕ) (last : ℕ) → eqb last 10 ≡ true → read claim line s ≡ done us t → claim_at_of last s ≡ 0
unfolding claim
claim_begins line s us t last e h = begun _ line s us t last e h

pub record SpellsClaimed (vs : List ℕ) (ls : List (List ℕ)) (us text : List ℕ) : Type 0 where
  pub request : List ℕ
  pub lines : List ℕ
  pub asks : SpellsRequest vs ls request
  pub claims : Spells claim us lines
  pub is : text ≡ request ++ lines

pub claimed_read_back : (text vs : List ℕ) (ls : List (List ℕ)) (us : List ℕ) → SpellsClaimed vs ls us text → length text ≤ 8192 → read_claimed text ≡ claims vs ls us
unfolding read_claimed
claimed_read_back text vs ls us a h =
    let r = a.request in
    let s = a.lines in
    let n : length text ≡ length r + length s = ap length a.is ∙ length-append r s in
    let m : length r ≤ 8192 = omega arith in
    let e = request_ends r vs ls a.asks m in
    let c : read claim (9 + length ls) s ≡ done us [] = rw (append-nil s) at (read_spelled (9 + length ls) [] claim_sound a.claims) in
    let z = claim_begins (9 + length ls) s us [] (last_of 10 r) e.begins c in
    let k : claim_at_of 10 text ≡ length r = ap (claim_at_of 10) a.is ∙ passed 10 r s e.clean ∙ rw z (add-zero (length r)) in
    let t : take (length r) text ≡ r = ap (take (length r)) a.is ∙ take_at r s (length r) refl in
    let d : drop (length r) text ≡ s = ap (drop (length r)) a.is ∙ drop-append_seam r s in
    rw (le-ltb 8192 (length text) h, k, t, d, request_read_back r vs ls a.asks m, c)

-- ---- what is read is spelled

claim_is : (vs ws us s : List ℕ) (ls ks : List (List ℕ)) (r : Reading) → read claim (9 + length ks) s ≡ r → read_claim ws ks r ≡ claims vs ls us → (ws ≡ vs) × (ks ≡ ls) × Spells claim us s
claim_is vs ws us s ls ks (departs_at k) e f = absurd (not_claims k vs ls us f)
claim_is vs ws us s ls ks (done xs t) e f =
    cases (is_empty t)
    (λ b.
    let g = rw b at f in
    let x : xs ≡ us = cc in
    let q = spelled_read claim s xs t (9 + length ks) e in
    let z : s ≡ q.spelled = q.text ∙ ap (λ y. q.spelled ++ y) (is_empty_lem t b) ∙ append-nil q.spelled in
    (cc, cc, rw (z, ← x) q.spells))
    (λ b. absurd (not_claims (12 + length ks) vs ls us (rw b at f)))

pub claimed_is_spelled : (text vs : List ℕ) (ls : List (List ℕ)) (us : List ℕ) → read_claimed text ≡ claims vs ls us → SpellsClaimed vs ls us text × (length text ≤ 8192)
unfolding read_claimed
claimed_is_spelled text vs ls us e =
    cases (ltb 8192 (length text))
    (λ b. absurd (not_claims 0 vs ls us (rw b at e)))
    (λ b. (by_asked (read_request (take (claim_at_of 10 text) text)) refl (rw b at e), ltb-false 8192 (length text) b))
  where
    by_asked : (q : Asked) → read_request (take (claim_at_of 10 text) text) ≡ q → read_behind (drop (claim_at_of 10 text) text) q ≡ claims vs ls us → SpellsClaimed vs ls us text
    by_asked (form k) h f = absurd (not_claims k vs ls us f)
    by_asked (asked ws ks) h f =
        let k = claim_at_of 10 text in
        let c = claim_is vs ws us (drop k text) ls ks (read claim (9 + length ks) (drop k text)) refl f in
        record { request = take k text; lines = drop k text; asks = rw (← c.0, ← c.1) (read_is_spelled (take k text) ws ks h); claims = c.2; is = sym (take-append-drop k text) }

-- A text is read as a request with a claim exactly if it spells both and is no longer than a text may be.
pub claimed_exactly : (text vs : List ℕ) (ls : List (List ℕ)) (us : List ℕ) → read_claimed text ≡ claims vs ls us ↔ (SpellsClaimed vs ls us text × (length text ≤ 8192))
claimed_exactly text vs ls us = (claimed_is_spelled text vs ls us, λ r. claimed_read_back text vs ls us r.0 r.1)
