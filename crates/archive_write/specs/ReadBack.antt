-- What the writer makes is right, and it is read back as its litters.
use Rattle.std.specs.Prelude.{◌≡◌, true, ◌&&◌, List, ◌++◌, leb, eqb, ltb, drop}
use Rattle.std.proofs.Math.Path.{refl, sym}
use Rattle.std.proofs.Common.{ap, ◌∙◌, zero-add, mod-eq_of_lt, drop_of_length-le, get_or-append-add}
use Prim.Native.Nat.{ℕ, zero, suc, ◌+◌, ◌-◌, ◌*◌, ◌/◌, ◌%◌, ◌<◌, ◌≤◌}
use Rattle.std.proofs.Math.Nat.{div-add-mod}
use native.Mathlib.Omega.{arith}
use borrow.Author.Tests.{leb-true, eqb-true, ltb-true, ltb-false}
use borrow.Table.Steps.{cases}
use Rattle.std.proofs.Math.ListN.{length, get_or-append}
use Rattle.std.proofs.Math.Seq.{drop-cons}
use Rattle.num.specs.Both.{and_left, and_right}
use Rattle.litters.specs.Litters.{count_of, successes_at, total_at, group_at}
use Rattle.litters.specs.Valid.{valid_litter_of, each_valid_of}
use Rattle.litters.specs.Checks.{bounds, each_valid}
use Rattle.summary.specs.declared.GroupCounts.{GroupCounts}
use Rattle.summary.specs.Most.{Most}
use Rattle.summary.specs.declared.Counts.{Counts}
use Rattle.summary.specs.Both.{one_of, BothMost}
use Rattle.archive.specs.Layout.{word_at, group_in, successes_in, total_in, valid_of, size_of, count_in, totals_byte_in, litter_byte_in}
use Rattle.archive.specs.Shaped.{Shaped}
use Rattle.archive.specs.Counts.{litter_in, group_totals_of, totals_of, totals_in, counts_to, numbers_from}
use Rattle.archive.specs.Right.{Right}
use Rattle.archive.specs.Most.{counts_most}
use Rattle.archive_write.specs.Archive.{word_bytes, litter_bytes, group_bytes, counts_bytes, trailer_bytes, litters_to, counted_to, totals_to, archive_of, is_writable_of}
use Rattle.archive_write.specs.Puts.{word_long, group_long, litters_long, totals_long, archive_long}

-- ---- a word in one of two lists

word_first : (xs ys : List ℕ) (p : ℕ) → p + 4 ≤ length xs → word_at (xs ++ ys) p ≡ word_at xs p
unfolding word_at
word_first xs ys p h =
    rw (get_or-append xs ys 0 p (omega arith), get_or-append xs ys 0 (p + 1) (omega arith), get_or-append xs ys 0 (p + 2) (omega arith), get_or-append xs ys 0 (p + 3) (omega arith))

word_second : (xs ys : List ℕ) (q p : ℕ) → q ≡ length xs + p → word_at (xs ++ ys) q ≡ word_at ys p
unfolding word_at
word_second xs ys q p e =
    let e1 : q + 1 ≡ length xs + (p + 1) = omega arith in
    let e2 : q + 2 ≡ length xs + (p + 2) = omega arith in
    let e3 : q + 3 ≡ length xs + (p + 3) = omega arith in
    rw (e1, e2, e3, e, get_or-append-add xs ys p 0, get_or-append-add xs ys (p + 1) 0, get_or-append-add xs ys (p + 2) 0, get_or-append-add xs ys (p + 3) 0)

-- four digits to the base 256
joined : (x a b c r s t : ℕ) → 256 * a + r ≡ x → 256 * b + s ≡ a → 256 * c + t ≡ b → r + 256 * s + 65536 * t + 16777216 * c ≡ x
joined x a b c r s t e f g = omega arith

top : (x a b c r s t : ℕ) → 256 * a + r ≡ x → 256 * b + s ≡ a → 256 * c + t ≡ b → x < 0x1_0000_0000 → c < 256
top x a b c r s t e f g h = omega arith

four_bytes : (x : ℕ) → x < 0x1_0000_0000 → x % 256 + 256 * (x / 256 % 256) + 65536 * (x / 256 / 256 % 256) + 16777216 * (x / 256 / 256 / 256 % 256) ≡ x
four_bytes x h =
    let e = div-add-mod x 256 in
    let f = div-add-mod (x / 256) 256 in
    let g = div-add-mod (x / 256 / 256) 256 in
    let k = top x (x / 256) (x / 256 / 256) (x / 256 / 256 / 256) (x % 256) (x / 256 % 256) (x / 256 / 256 % 256) e f g h in
    rw (mod-eq_of_lt k) (joined x (x / 256) (x / 256 / 256) (x / 256 / 256 / 256) (x % 256) (x / 256 % 256) (x / 256 / 256 % 256) e f g)

word_alone : (x : ℕ) → x < 0x1_0000_0000 → word_at (word_bytes x) 0 ≡ x
unfolding word_at word_bytes
word_alone x h = four_bytes x h

word_read : (x : ℕ) (ys : List ℕ) → x < 0x1_0000_0000 → word_at (word_bytes x ++ ys) 0 ≡ x
word_read x ys h = word_first (word_bytes x) ys 0 (omega (arith, word_long x)) ∙ word_alone x h

-- past a word
word_past : (x : ℕ) (ys : List ℕ) (q p : ℕ) → q ≡ p + 4 → word_at (word_bytes x ++ ys) q ≡ word_at ys p
word_past x ys q p e = word_second (word_bytes x) ys q p (omega (arith, word_long x))

-- ---- a group's totals in one of two lists

group_first : (xs ys : List ℕ) (p : ℕ) → p + 16 ≤ length xs → group_totals_of (xs ++ ys) p ≡ group_totals_of xs p
group_first xs ys p h =
    let a = word_first xs ys p (omega arith) in
    let b = word_first xs ys (p + 4) (omega arith) in
    let c = word_first xs ys (p + 8) (omega arith) in
    let d = word_first xs ys (p + 12) (omega arith) in
    λ j. record { litters = a j; successes = b j; trials = c j; extreme = d j }

group_second : (xs ys : List ℕ) (q p : ℕ) → q ≡ length xs + p → group_totals_of (xs ++ ys) q ≡ group_totals_of ys p
group_second xs ys q p e =
    let a = word_second xs ys q p (omega arith) in
    let b = word_second xs ys (q + 4) (p + 4) (omega arith) in
    let c = word_second xs ys (q + 8) (p + 8) (omega arith) in
    let d = word_second xs ys (q + 12) (p + 12) (omega arith) in
    λ j. record { litters = a j; successes = b j; trials = c j; extreme = d j }

both_first : (xs ys : List ℕ) (p : ℕ) → p + 32 ≤ length xs → totals_of (xs ++ ys) p ≡ totals_of xs p
both_first xs ys p h =
    let a = group_first xs ys p (omega arith) in
    let b = group_first xs ys (p + 16) (omega arith) in
    λ j. record { first = a j; second = b j }

both_second : (xs ys : List ℕ) (q p : ℕ) → q ≡ length xs + p → totals_of (xs ++ ys) q ≡ totals_of ys p
both_second xs ys q p e =
    let a = group_second xs ys q p (omega arith) in
    let b = group_second xs ys (q + 16) (p + 16) (omega arith) in
    λ j. record { first = a j; second = b j }

group_read : (c : GroupCounts) → Most c 0xffff_ffff → group_totals_of (group_bytes c) 0 ≡ c
unfolding group_bytes
group_read c m =
    let u = word_bytes c.extreme in
    let v = word_bytes c.trials ++ u in
    let w = word_bytes c.successes ++ v in
    let a = word_read c.litters w (omega (arith, m.litters)) in
    let b = word_past c.litters w 4 0 refl ∙ word_read c.successes v (omega (arith, m.successes)) in
    let d = word_past c.litters w 8 4 refl ∙ (word_past c.successes v 4 0 refl ∙ word_read c.trials u (omega (arith, m.trials))) in
    let e = word_past c.litters w 12 8 refl ∙ (word_past c.successes v 8 4 refl ∙ (word_past c.trials u 4 0 refl ∙ word_alone c.extreme (omega (arith, m.extreme)))) in
    λ j. record { litters = a j; successes = b j; trials = d j; extreme = e j }

counts_read : (c : Counts) → BothMost c 0xffff_ffff → totals_of (counts_bytes c) 0 ≡ c
unfolding counts_bytes
counts_read c m =
    let a = group_first (group_bytes c.first) (group_bytes c.second) 0 (omega (arith, group_long c.first)) ∙ group_read c.first m.first in
    let b = group_second (group_bytes c.first) (group_bytes c.second) 16 0 (omega (arith, group_long c.first)) ∙ group_read c.second m.second in
    λ j. record { first = a j; second = b j }

-- ---- a litter

module _ (s t g : ℕ) (hs : s < 0x1_0000_0000) (ht : t < 0x1_0000_0000) (hg : g < 0x1_0000_0000) where
  litter_group : word_at (litter_bytes s t g) 0 ≡ g
  unfolding litter_bytes
  litter_group = word_read g (word_bytes s ++ word_bytes t) hg

  litter_successes : word_at (litter_bytes s t g) 4 ≡ s
  unfolding litter_bytes
  litter_successes = word_past g (word_bytes s ++ word_bytes t) 4 0 refl ∙ word_read s (word_bytes t) hs

  litter_total : word_at (litter_bytes s t g) 8 ≡ t
  unfolding litter_bytes
  litter_total = word_past g (word_bytes s ++ word_bytes t) 8 4 refl ∙ (word_past s (word_bytes t) 4 0 refl ∙ word_alone t ht)

module _ (ls : List ℕ) where
  among_litters : (n i d : ℕ) → i < n → d + 4 ≤ 12 → word_at (litters_to ls n) (12 * i + d) ≡ word_at (litter_bytes (successes_at ls i) (total_at ls i) (group_at ls i)) d
  unfolding litters_to
  among_litters zero i d h k = absurd (omega arith)
  among_litters (suc m) i d h k =
      let last = litter_bytes (successes_at ls m) (total_at ls m) (group_at ls m) in
      cases
      (ltb i m)
      (λ e. let l = ltb-true i m e in word_first (litters_to ls m) last (12 * i + d) (omega (arith, litters_long ls m)) ∙ among_litters m i d l k)
      (λ e. let q : i ≡ m = omega (arith, ltb-false i m e) in rw q (word_second (litters_to ls m) last (12 * m + d) d (omega (arith, litters_long ls m))))

  among_totals : (n j : ℕ) → j < n → totals_of (totals_to ls n) (32 * j) ≡ totals_of (counts_bytes (counted_to ls (64 * suc j))) 0
  unfolding totals_to
  among_totals zero j h = absurd (omega arith)
  among_totals (suc m) j h =
      let last = counts_bytes (counted_to ls (64 * suc m)) in
      cases
      (ltb j m)
      (λ e. let l = ltb-true j m e in both_first (totals_to ls m) last (32 * j) (omega (arith, totals_long ls m)) ∙ among_totals m j l)
      (λ e. let q : j ≡ m = omega (arith, ltb-false j m e) in rw q (both_second (totals_to ls m) last (32 * m) 0 (omega (arith, totals_long ls m))))

-- the numbers of a valid litter are words
pub record Small (s t g : ℕ) : Type 0 where
  pub successes : s < 0x1_0000_0000
  pub total : t < 0x1_0000_0000
  pub group : g < 0x1_0000_0000

small : (s t g : ℕ) → valid_litter_of s t g ≡ true → Small s t g
small s t g h = let b = bounds s t g h in record { successes = omega arith; total = omega arith; group = omega arith }

-- ---- the archive

module _ (ls : List ℕ) (room : ℕ) (w : is_writable_of ls room ≡ true) where
  rest : (leb (count_of ls) 4096 && (leb (size_of (count_of ls)) room && each_valid_of ls)) ≡ true
  unfolding is_writable_of
  rest = and_right (eqb (length ls % 3) 0) (leb (count_of ls) 4096 && (leb (size_of (count_of ls)) room && each_valid_of ls)) w

  whole : length ls % 3 ≡ 0
  unfolding is_writable_of
  whole = eqb-true (length ls % 3) 0 (and_left (eqb (length ls % 3) 0) (leb (count_of ls) 4096 && (leb (size_of (count_of ls)) room && each_valid_of ls)) w)

  few : count_of ls ≤ 4096
  few = leb-true (count_of ls) 4096 (and_left (leb (count_of ls) 4096) (leb (size_of (count_of ls)) room && each_valid_of ls) rest)

  valid : each_valid_of ls ≡ true
  valid = and_right (leb (size_of (count_of ls)) room) (each_valid_of ls) (and_right (leb (count_of ls) 4096) (leb (size_of (count_of ls)) room && each_valid_of ls) rest)

  at_valid : (i : ℕ) → i < count_of ls → valid_litter_of (successes_at ls i) (total_at ls i) (group_at ls i) ≡ true
  at_valid i h = each_valid ls i valid (omega arith)

  litter_word : (i d : ℕ) → i < count_of ls → d + 4 ≤ 12 → word_at (archive_of ls) (12 * i + d) ≡ word_at (litter_bytes (successes_at ls i) (total_at ls i) (group_at ls i)) d
  unfolding archive_of
  litter_word i d h k =
      word_first (litters_to ls (count_of ls)) (totals_to ls (count_of ls / 64) ++ trailer_bytes (count_of ls)) (12 * i + d) (omega (arith, litters_long ls (count_of ls))) ∙ among_litters ls (count_of ls) i d h k

  module _ (i : ℕ) (h : i < count_of ls) where
    sizes : Small (successes_at ls i) (total_at ls i) (group_at ls i)
    sizes = small (successes_at ls i) (total_at ls i) (group_at ls i) (at_valid i h)

    pub same_group : group_in (archive_of ls) i ≡ group_at ls i
    same_group =
        let e : 12 * i + 0 ≡ 12 * i = omega arith in
        ap (word_at (archive_of ls)) (sym e) ∙ (litter_word i 0 h (omega arith) ∙ litter_group (successes_at ls i) (total_at ls i) (group_at ls i) sizes.successes sizes.total sizes.group)

    pub same_successes : successes_in (archive_of ls) i ≡ successes_at ls i
    same_successes = litter_word i 4 h (omega arith) ∙ litter_successes (successes_at ls i) (total_at ls i) (group_at ls i) sizes.successes sizes.total sizes.group

    pub same_total : total_in (archive_of ls) i ≡ total_at ls i
    same_total = litter_word i 8 h (omega arith) ∙ litter_total (successes_at ls i) (total_at ls i) (group_at ls i) sizes.successes sizes.total sizes.group

    same_litter : litter_in (archive_of ls) i ≡ one_of (successes_at ls i) (total_at ls i) (group_at ls i)
    same_litter = rw (same_successes, same_total, same_group)

    same_valid : valid_of (archive_of ls) i ≡ true
    same_valid = rw (same_successes, same_total, same_group) (at_valid i h)

  same_counts : (i : ℕ) → i ≤ count_of ls → counts_to (archive_of ls) i ≡ counted_to ls i
  unfolding counts_to counted_to
  same_counts zero h = refl
  same_counts (suc i) h = rw (same_counts i (omega arith), same_litter i h)

  -- ---- the trailer

  trailer_word : (q d : ℕ) → q ≡ 12 * count_of ls + 32 * (count_of ls / 64) + d → word_at (archive_of ls) q ≡ word_at (trailer_bytes (count_of ls)) d
  unfolding archive_of
  trailer_word q d e =
      word_second (litters_to ls (count_of ls)) (totals_to ls (count_of ls / 64) ++ trailer_bytes (count_of ls)) q (32 * (count_of ls / 64) + d) (omega (arith, litters_long ls (count_of ls))) ∙
      word_second (totals_to ls (count_of ls / 64)) (trailer_bytes (count_of ls)) (32 * (count_of ls / 64) + d) d (omega (arith, totals_long ls (count_of ls / 64)))

  long : length (archive_of ls) ≡ 12 * count_of ls + 32 * (count_of ls / 64) + 12
  unfolding size_of
  long = archive_long ls

  pub same_count : count_in (archive_of ls) ≡ count_of ls
  unfolding trailer_bytes
  same_count = trailer_word (length (archive_of ls) - 12) 0 (omega (arith, long)) ∙ word_read (count_of ls) (word_bytes (12 * count_of ls) ++ word_bytes 0) (omega (arith, few))

  totals_byte : totals_byte_in (archive_of ls) ≡ 12 * count_of ls
  unfolding trailer_bytes
  totals_byte =
      trailer_word (length (archive_of ls) - 8) 4 (omega (arith, long)) ∙
      (word_past (count_of ls) (word_bytes (12 * count_of ls) ++ word_bytes 0) 4 0 refl ∙ word_read (12 * count_of ls) (word_bytes 0) (omega (arith, few)))

  litter_byte : litter_byte_in (archive_of ls) ≡ 0
  unfolding trailer_bytes
  litter_byte =
      trailer_word (length (archive_of ls) - 4) 8 (omega (arith, long)) ∙
      (word_past (count_of ls) (word_bytes (12 * count_of ls) ++ word_bytes 0) 8 4 refl ∙ (word_past (12 * count_of ls) (word_bytes 0) 4 0 refl ∙ word_alone 0 (omega arith)))

  shaped : Shaped (archive_of ls)
  shaped = record { few = rw same_count few; long = rw same_count long; totals = rw same_count totals_byte; litters = litter_byte }

  -- ---- the totals

  some_totals : (j : ℕ) → j < count_of ls / 64 → totals_in (archive_of ls) (count_of ls) j ≡ totals_of (counts_bytes (counted_to ls (64 * suc j))) 0
  unfolding archive_of totals_in
  some_totals j h =
      both_second (litters_to ls (count_of ls)) (totals_to ls (count_of ls / 64) ++ trailer_bytes (count_of ls)) (12 * count_of ls + 32 * j) (32 * j) (omega (arith, litters_long ls (count_of ls))) ∙
      (both_first (totals_to ls (count_of ls / 64)) (trailer_bytes (count_of ls)) (32 * j) (omega (arith, totals_long ls (count_of ls / 64))) ∙ among_totals ls (count_of ls / 64) j h)

  fit : (i : ℕ) → i ≤ count_of ls → BothMost (counted_to ls i) 0xffff_ffff
  fit i h =
      let m = rw (same_counts i h) at (counts_most (archive_of ls) (count_of ls) same_valid i h) in
      record {
        first = record { litters = omega (arith, m.first.litters, few); successes = omega (arith, m.first.successes, few); trials = omega (arith, m.first.trials, few); extreme = omega (arith, m.first.extreme, few) };
        second = record { litters = omega (arith, m.second.litters, few); successes = omega (arith, m.second.successes, few); trials = omega (arith, m.second.trials, few); extreme = omega (arith, m.second.extreme, few) };
      }

  same_totals : (j : ℕ) → j < count_of ls / 64 → totals_in (archive_of ls) (count_of ls) j ≡ counts_to (archive_of ls) (64 * (j + 1))
  same_totals j h =
      let e : 64 * suc j ≡ 64 * (j + 1) = omega arith in
      let l : 64 * suc j ≤ count_of ls = omega arith in
      some_totals j h ∙ (counts_read (counted_to ls (64 * suc j)) (fit (64 * suc j) l) ∙ (sym (same_counts (64 * suc j) l) ∙ ap (counts_to (archive_of ls)) e))

  -- ---- what the writer makes

  pub archive_right : Right (archive_of ls)
  archive_right = record { shape = shaped; litters = rw same_count same_valid; totals = rw same_count same_totals }

  read_from : (k i : ℕ) → i + k ≡ count_of ls → numbers_from (archive_of ls) k i ≡ drop (3 * i) ls
  unfolding numbers_from
  read_from zero i h = let l : length ls ≤ 3 * i = omega (arith, whole) in sym (drop_of_length-le ls {i = 3 * i} l)
  read_from (suc k) i h =
      let l : i < count_of ls = omega arith in
      let e : 3 * suc i ≡ suc (suc (suc (3 * i))) = omega arith in
      let f : 3 * i + 1 ≡ suc (3 * i) = omega arith in
      let g : 3 * i + 2 ≡ suc (suc (3 * i)) = omega arith in
      let room : 3 * i + 2 < length ls = omega (arith, whole) in
      let d0 = drop-cons ls (3 * i) 0 (omega arith) in
      let d1 = drop-cons ls (suc (3 * i)) 0 (omega arith) in
      let d2 = drop-cons ls (suc (suc (3 * i))) 0 (omega arith) in
      rw (same_successes i l, same_total i l, same_group i l, read_from k (suc i) (omega arith), e, f, g, d0, d1, d2)

  -- read whole, an archive gives back the litters that it was made of
  pub read_back : numbers_from (archive_of ls) (count_in (archive_of ls)) 0 ≡ ls
  read_back = rw same_count (read_from (count_of ls) 0 (zero-add (count_of ls)))
