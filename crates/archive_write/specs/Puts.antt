-- Bytes put into a buffer one run after the other are put there as one run; and how long each part of an archive is.
use Rattle.std.specs.Prelude.{◌≡◌, refl, List, [], ◌∷◌, ◌++◌, ℕ, zero, suc, ◌+◌, ◌*◌, ◌/◌, ◌≤◌, length, set, drop}
use Rattle.std.proofs.Common.{ap, ◌∙◌, add-zero, zero-add, arith, length-append}
use Rattle.std.proofs.lemmas.List.Edits.{sets, sets-eq}
use Rattle.litters.specs.Litters.{count_of, successes_at, total_at, group_at}
use Rattle.summary.specs.declared.GroupCounts.{GroupCounts}
use Rattle.store.specs.Stored.{stored}
use Rattle.summary.specs.declared.Counts.{Counts}
use Rattle.archive.specs.Layout.{size_of}
use Rattle.archive_write.specs.Archive.{word_bytes, litter_bytes, group_bytes, counts_bytes, trailer_bytes, litters_to, counted_to, totals_to, archive_of}

pub sets_append : (l : List ℕ) (p : ℕ) (xs ys : List ℕ) → sets l p (xs ++ ys) ≡ sets (sets l p xs) (p + length xs) ys
sets_append l p [] ys = rw (add-zero p)
sets_append l p (x ∷ xs) ys = let e : p + suc (length xs) ≡ suc p + length xs = omega arith in rw e (sets_append (set l p x) (suc p) xs ys)

pub next : (l a m : List ℕ) (p q : ℕ) (xs ys : List ℕ) → a ≡ sets l p xs → q ≡ p + length xs → m ≡ sets a q ys → m ≡ sets l p (xs ++ ys)
next l a m p q xs ys ea eq em = rw (sets_append l p xs ys, ← ea, ← eq) em

-- ---- lengths

pub word_long : (x : ℕ) → length (word_bytes x) ≡ 4
unfolding word_bytes
word_long x = refl

pub litter_long : (s t g : ℕ) → length (litter_bytes s t g) ≡ 12
unfolding litter_bytes
litter_long s t g = simp (length-append, word_long)

pub group_long : (c : GroupCounts) → length (group_bytes c) ≡ 16
unfolding group_bytes
group_long c = simp (length-append, word_long)

pub counts_long : (c : Counts) → length (counts_bytes c) ≡ 32
unfolding counts_bytes
counts_long c = simp (length-append, group_long)

pub trailer_long : (n : ℕ) → length (trailer_bytes n) ≡ 12
unfolding trailer_bytes
trailer_long n = simp (length-append, word_long)

pub litters_long : (ls : List ℕ) (i : ℕ) → length (litters_to ls i) ≡ 12 * i
unfolding litters_to
litters_long ls zero = refl
litters_long ls (suc i) = rw (length-append (litters_to ls i) (litter_bytes (successes_at ls i) (total_at ls i) (group_at ls i))) (omega (arith, litters_long ls i, litter_long (successes_at ls i) (total_at ls i) (group_at ls i)))

pub totals_long : (ls : List ℕ) (j : ℕ) → length (totals_to ls j) ≡ 32 * j
unfolding totals_to
totals_long ls zero = refl
totals_long ls (suc j) = rw (length-append (totals_to ls j) (counts_bytes (counted_to ls (64 * suc j)))) (omega (arith, totals_long ls j, counts_long (counted_to ls (64 * suc j))))

pub archive_long : (ls : List ℕ) → length (archive_of ls) ≡ size_of (count_of ls)
unfolding archive_of size_of
archive_long ls =
    rw (length-append (litters_to ls (count_of ls)) (totals_to ls (count_of ls / 64) ++ trailer_bytes (count_of ls)), length-append (totals_to ls (count_of ls / 64)) (trailer_bytes (count_of ls)))
    (omega (arith, litters_long ls (count_of ls), totals_long ls (count_of ls / 64), trailer_long (count_of ls)))

-- put from the start on, they are stored
pub puts_stored : (l vs : List ℕ) → length vs ≤ length l → sets l 0 vs ≡ stored l vs
unfolding stored
puts_stored l vs h = let k : 0 + length vs ≤ length l = omega arith in sets-eq vs l 0 k ∙ ap (λ (n : ℕ). vs ++ drop n l) (zero-add (length vs))
