-- The laws of the writer's tests, stores and loops.
use mathlib.Core.Path.{◌≡◌, refl, sym, ap, ◌∙◌}
use mathlib.Core.Bool.{Bool, true, false, ◌&&◌}
use mathlib.Core.List.{List, [], ◌∷◌, ◌++◌}
use Prim.Native.Nat.{ℕ, suc, ◌+◌, ◌*◌, ◌/◌, ◌%◌, ◌≤◌}
use native.Mathlib.Numerals.{add-one}
use native.Mathlib.Omega.{arith}
use borrow.Author.Tests.{leb-true}
use lib.Dec.{leb, eqb}
use lib.ListN.{length, take, drop}
use borrow.Rule.Slice.PartMut.{put_mid}
use Rattle.std.proofs.Common.{append_assoc}
use Rattle.std.proofs.lemmas.List.{drop-drop}
use Rattle.std.proofs.lemmas.List.Edits.{sets-eq}
use lib.Seq.{sets}
use Rattle.num.specs.Both.{and_left, and_right}
use Rattle.litters.specs.Litters.{count_of, successes_at, total_at, group_at}
use Rattle.litters.specs.Valid.{each_valid_of}
use Rattle.summary.specs.declared.GroupCounts.{GroupCounts}
use Rattle.store.specs.Stored.{stored}
use Rattle.std.specs.Prelude.{Ok, Err}
use Rattle.summary.specs.declared.Counts.{Counts}
use Rattle.summary.specs.Both.{none, both_of, one_of, BothBelow, raised}
use Rattle.archive.specs.declared.Refused.TheVariants.{InvalidInput}
use Rattle.archive.specs.Layout.{size_of}
use Rattle.archive_write.specs.Archive.{word_bytes, litter_bytes, group_bytes, counts_bytes, trailer_bytes, litters_to, counted_to, totals_to, archive_of, is_writable_of, written, write_of}
use Rattle.archive_write.specs.Puts.{next, word_long, group_long, litters_long, totals_long, archive_long, puts_stored}

-- ---- the tests

-- what is writable has few litters and room
module _ (ls : List ℕ) (room : ℕ) (t : Bool) (e : t ≡ is_writable_of ls room) (f : t ≡ true) where
  rest : (leb (count_of ls) 4096 && (leb (size_of (count_of ls)) room && each_valid_of ls)) ≡ true
  unfolding is_writable_of
  rest = and_right (eqb (length ls % 3) 0) (leb (count_of ls) 4096 && (leb (size_of (count_of ls)) room && each_valid_of ls)) (sym e ∙ f)

  pub few : length ls / 3 ≤ 4096
  few = leb-true (count_of ls) 4096 (and_left (leb (count_of ls) 4096) (leb (size_of (count_of ls)) room && each_valid_of ls) rest)

  size_fits : size_of (count_of ls) ≤ room
  size_fits = leb-true (size_of (count_of ls)) room (and_left (leb (size_of (count_of ls)) room) (each_valid_of ls) (and_right (leb (count_of ls) 4096) (leb (size_of (count_of ls)) room && each_valid_of ls) rest))

  pub has_room : 12 * (length ls / 3) + 32 * (length ls / 3 / 64) + 12 ≤ room
  unfolding size_of
  has_room = size_fits

-- ---- the stores

pub word_put : (l m bs high : List ℕ) (p k x : ℕ) → p + 4 ≤ length l → k ≡ 4 → bs ≡ x % 256 ∷ x / 256 % 256 ∷ x / 65536 % 256 ∷ x / 16777216 % 256 ∷ high → m ≡ take 4 bs → put_mid p k l m ≡ sets l p (word_bytes x)
unfolding word_bytes
word_put l m bs high p k x h e b f =
    let u : x / 256 / 256 ≡ x / 65536 = omega arith in
    let v : x / 65536 / 256 ≡ x / 16777216 = omega arith in
    let four : List ℕ = x % 256 ∷ x / 256 % 256 ∷ x / 65536 % 256 ∷ x / 16777216 % 256 ∷ [] in
    rw (e, f, b, u, v, drop-drop) (sym (sets-eq four l p h ∙ append_assoc (take p l) four (drop (p + 4) l)))

module _ (l a b m : List ℕ) (p x y z : ℕ) (ea : a ≡ sets l p (word_bytes x)) (eb : b ≡ sets a (p + 4) (word_bytes y)) (em : m ≡ sets b (p + 8) (word_bytes z)) where
  pub three_words : m ≡ sets l p (word_bytes x ++ (word_bytes y ++ word_bytes z))
  three_words =
      next l a m p (p + 4) (word_bytes x) (word_bytes y ++ word_bytes z) ea (omega (arith, word_long x))
      (next a b m (p + 4) (p + 8) (word_bytes y) (word_bytes z) eb (omega (arith, word_long y)) em)

pub litter_put : (l a b m : List ℕ) (p s t g : ℕ) → a ≡ sets l p (word_bytes g) → b ≡ sets a (p + 4) (word_bytes s) → m ≡ sets b (p + 8) (word_bytes t) → m ≡ sets l p (litter_bytes s t g)
unfolding litter_bytes
litter_put l a b m p s t g ea eb em = three_words l a b m p g s t ea eb em

pub trailer_put : (l a b m : List ℕ) (p n : ℕ) → a ≡ sets l p (word_bytes n) → b ≡ sets a (p + 4) (word_bytes (12 * n)) → m ≡ sets b (p + 8) (word_bytes 0) → m ≡ sets l p (trailer_bytes n)
unfolding trailer_bytes
trailer_put l a b m p n ea eb em = three_words l a b m p n (12 * n) 0 ea eb em

pub group_put : (l a b d m : List ℕ) (p : ℕ) (c : GroupCounts) → a ≡ sets l p (word_bytes c.litters) → b ≡ sets a (p + 4) (word_bytes c.successes) → d ≡ sets b (p + 8) (word_bytes c.trials) → m ≡ sets d (p + 12) (word_bytes c.extreme) → m ≡ sets l p (group_bytes c)
unfolding group_bytes
group_put l a b d m p c ea eb ed em =
    next l a m p (p + 4) (word_bytes c.litters) (word_bytes c.successes ++ (word_bytes c.trials ++ word_bytes c.extreme)) ea (omega (arith, word_long c.litters))
    (next a b m (p + 4) (p + 8) (word_bytes c.successes) (word_bytes c.trials ++ word_bytes c.extreme) eb (omega (arith, word_long c.successes))
    (next b d m (p + 8) (p + 12) (word_bytes c.trials) (word_bytes c.extreme) ed (omega (arith, word_long c.trials)) em))

pub counts_put : (l a m : List ℕ) (p : ℕ) (c : Counts) → a ≡ sets l p (group_bytes c.first) → m ≡ sets a (p + 16) (group_bytes c.second) → m ≡ sets l p (counts_bytes c)
unfolding counts_bytes
counts_put l a m p c ea em = next l a m p (p + 16) (group_bytes c.first) (group_bytes c.second) ea (omega (arith, group_long c.first)) em

-- ---- the loops

pub litters_begin : (ls l : List ℕ) → l ≡ sets l 0 (litters_to ls 0)
unfolding litters_to
litters_begin ls l = refl

pub litters_turn : (ls l a m : List ℕ) (i : ℕ) → a ≡ sets l 0 (litters_to ls i) → m ≡ sets a (12 * i) (litter_bytes (successes_at ls i) (total_at ls i) (group_at ls i)) → m ≡ sets l 0 (litters_to ls (i + 1))
unfolding litters_to
litters_turn ls l a m i ea em = rw (add-one i) (next l a m 0 (12 * i) (litters_to ls i) (litter_bytes (successes_at ls i) (total_at ls i) (group_at ls i)) ea (omega (arith, litters_long ls i)) em)

pub counted_begin : (ls : List ℕ) (c : Counts) → c ≡ none → c ≡ counted_to ls (64 * 0)
unfolding counted_to
counted_begin ls c e = e

pub counted_turn : (ls : List ℕ) (m : ℕ) (c d : Counts) → c ≡ counted_to ls m → d ≡ both_of c (one_of (successes_at ls m) (total_at ls m) (group_at ls m)) → d ≡ counted_to ls (m + 1)
unfolding counted_to
counted_turn ls m c d ec ed = rw (add-one m) (rw (← ec) ed)

pub totals_begin : (ls l : List ℕ) (p : ℕ) → l ≡ sets l p (totals_to ls 0)
unfolding totals_to
totals_begin ls l p = refl

pub totals_turn : (ls l a m : List ℕ) (n j : ℕ) (d : Counts) → a ≡ sets l (12 * n) (totals_to ls j) → d ≡ counted_to ls (64 * j + 64) → m ≡ sets a (12 * n + 32 * j) (counts_bytes d) → m ≡ sets l (12 * n) (totals_to ls (j + 1))
unfolding totals_to
totals_turn ls l a m n j d ea ed em =
    let e : 64 * j + 64 ≡ 64 * suc j = omega arith in
    let f : d ≡ counted_to ls (64 * suc j) = ed ∙ ap (counted_to ls) e in
    rw (add-one j) (next l a m (12 * n) (12 * n + 32 * j) (totals_to ls j) (counts_bytes (counted_to ls (64 * suc j))) ea (omega (arith, totals_long ls j)) (rw (← f) em))

pub counted_next : (ls : List ℕ) (j : ℕ) (d : Counts) → d ≡ counted_to ls (64 * j + 64) → d ≡ counted_to ls (64 * (j + 1))
counted_next ls j d e = let f : 64 * j + 64 ≡ 64 * (j + 1) = omega arith in e ∙ ap (counted_to ls) f

pub below_next : (d : Counts) (j : ℕ) → BothBelow d (64 * j + 64 + 1) → BothBelow d (64 * (j + 1) + 1)
below_next d j w = raised d (64 * j + 64 + 1) (64 * (j + 1) + 1) (omega arith) w

-- ---- the whole

pub archive_put : (ls l a b m : List ℕ) → 12 * (length ls / 3) + 32 * (length ls / 3 / 64) + 12 ≤ length l → a ≡ sets l 0 (litters_to ls (count_of ls)) → b ≡ sets a (12 * count_of ls) (totals_to ls (count_of ls / 64)) → m ≡ sets b (12 * count_of ls + 32 * (count_of ls / 64)) (trailer_bytes (count_of ls)) → m ≡ stored l (archive_of ls)
unfolding archive_of size_of
archive_put ls l a b m h ea eb em =
    let y = next a b m (12 * count_of ls) (12 * count_of ls + 32 * (count_of ls / 64)) (totals_to ls (count_of ls / 64)) (trailer_bytes (count_of ls)) eb (omega (arith, totals_long ls (count_of ls / 64))) em in
    let z = next l a m 0 (12 * count_of ls) (litters_to ls (count_of ls)) (totals_to ls (count_of ls / 64) ++ trailer_bytes (count_of ls)) ea (omega (arith, litters_long ls (count_of ls))) y in
    let fits : length (archive_of ls) ≤ length l = rw (archive_long ls) h in
    z ∙ puts_stored l (archive_of ls) fits

pub write_done : (ls l m : List ℕ) (t : Bool) → t ≡ is_writable_of ls (length l) → t ≡ true → m ≡ stored l (archive_of ls) → written (Ok tt) m ≡ write_of ls l
unfolding write_of
write_done ls l m t e f em = rw (← e, f) (ap (written (Ok tt)) em)

pub not_written : (ls l : List ℕ) (t : Bool) → t ≡ is_writable_of ls (length l) → t ≡ false → written (Err InvalidInput) l ≡ write_of ls l
unfolding write_of
not_written ls l t e f = rw (← e, f)
