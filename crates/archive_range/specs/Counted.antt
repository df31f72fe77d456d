-- For an archive that is right, a range is the summary counted over all its litters; an empty one is zeros.
use Rattle.std.specs.Prelude.{◌≡◌, true, List, [], ◌∷◌, ◌++◌, Result, Ok}
use Rattle.std.proofs.Math.Path.{refl, ap}
use Rattle.std.proofs.Common.{sym, ◌∙◌, add-zero, add-one}
use Prim.Native.Nat.{ℕ, zero, suc, ◌+◌, ◌-◌, ◌*◌, ◌/◌, ◌%◌, ◌≤◌}
use Rattle.std.proofs.Math.Nat.{zero-add}
use native.Mathlib.Omega.{arith}
use borrow.Author.Tests.{le-leb}
use Rattle.num.specs.Both.{and_both}
use Rattle.num.specs.Sum.{sum_from}
use Rattle.summary.specs.declared.GroupCounts.{GroupCounts}
use Rattle.summary.specs.Most.{Most}
use Rattle.summary.specs.Summary.{plus_of, counts_of, counted_of}
use Rattle.summary.specs.declared.Counts.{Counts}
use Rattle.summary.specs.Both.{none, both_of, BothMost}
use Rattle.archive.specs.declared.Refused.{Refused}
use Rattle.archive.specs.Layout.{valid_of, count_in}
use Rattle.archive.specs.Shaped.{shape_is}
use Rattle.archive.specs.Counts.{counts_to, numbers_from}
use Rattle.archive.specs.Right.{Right}
use Rattle.archive.specs.Most.{counts_most}
use Rattle.archive.specs.Split.{split}
use Rattle.archive_range.specs.Reads.{Read, litters_from, last_total, reads_of, read_in, summed, valid_reads_of, running_of}
use Rattle.archive_range.specs.Range.{group_fits_of, fits_of, group_within_of, within_of, less_of, difference_of, judged_of, between_of}

-- ---- the running summary is the count of all litters before the position

summed_append : (b : List ℕ) (c : Counts) (xs ys : List Read) → summed b c (xs ++ ys) ≡ summed b (summed b c xs) ys
unfolding summed
summed_append b c [] ys = refl
summed_append b c (x ∷ xs) ys = summed_append b (both_of c (read_in b x)) xs ys

since : (b : List ℕ) (k i : ℕ) → summed b (counts_to b i) (litters_from k i) ≡ counts_to b (i + k)
unfolding summed litters_from counts_to
since b zero i = rw (add-zero i)
since b (suc k) i =
    let e : i + suc k ≡ suc i + k = omega arith in
    rw (e, add-one i) (since b k (suc i))

module _ (b : List ℕ) (r : Right b) where
  none_yet : none ≡ counts_to b 0
  unfolding counts_to
  none_yet = refl

  before : (q : ℕ) → 64 * q ≤ count_in b → summed b none (last_total q) ≡ counts_to b (64 * q)
  unfolding summed last_total
  before zero h = none_yet
  before (suc j) h =
      let t = r.totals j (omega arith) in
      let e : 64 * (j + 1) ≡ 64 * suc j = omega arith in
      simp zero-add (t ∙ ap (counts_to b) e)

  pub running_is : (p : ℕ) → p ≤ count_in b → running_of b p ≡ counts_to b p
  unfolding running_of reads_of
  running_is p h =
      let e : 64 * (p / 64) + p % 64 ≡ p = omega arith in
      summed_append b none (last_total (p / 64)) (litters_from (p % 64) (64 * (p / 64))) ∙
      ap (λ c. summed b c (litters_from (p % 64) (64 * (p / 64)))) (before (p / 64) (omega arith)) ∙ since b (p % 64) (64 * (p / 64)) ∙ ap (counts_to b) e

  -- ---- what is read is valid

  valid_from : (k i : ℕ) → i + k ≤ count_in b → valid_reads_of b (litters_from k i) ≡ true
  unfolding valid_reads_of litters_from
  valid_from zero i h = refl
  valid_from (suc k) i h = and_both (valid_of b i) (valid_reads_of b (litters_from k (i + 1))) (r.litters i (omega arith)) (valid_from k (i + 1) (omega arith))

  valid_all : (q k i : ℕ) → i + k ≤ count_in b → valid_reads_of b (last_total q ++ litters_from k i) ≡ true
  unfolding valid_reads_of last_total
  valid_all zero k i h = valid_from k i h
  valid_all (suc j) k i h = valid_from k i h

  valid_reads : (p : ℕ) → p ≤ count_in b → valid_reads_of b (reads_of p) ≡ true
  unfolding reads_of
  valid_reads p h = valid_all (p / 64) (p % 64) (64 * (p / 64)) (omega arith)

-- ---- counts of valid litters fit, and a difference takes back what was added

group_fits : (c : GroupCounts) (m : ℕ) → m ≤ 0xffff_ffff → Most c m → group_fits_of c ≡ true
unfolding group_fits_of
group_fits c m h x =
    let p = le-leb c.litters 0xffff_ffff (omega arith) in
    let q = le-leb c.successes 0xffff_ffff (omega arith) in
    let s = le-leb c.trials 0xffff_ffff (omega arith) in
    let t = le-leb c.extreme 0xffff_ffff (omega arith) in
    rw (p, q, s, t)

fits : (c : Counts) (m : ℕ) → m ≤ 0xffff_ffff → BothMost c m → fits_of c ≡ true
unfolding fits_of
fits c m h x = and_both (group_fits_of c.first) (group_fits_of c.second) (group_fits c.first m h x.first) (group_fits c.second m h x.second)

group_within : (a d : GroupCounts) → group_within_of a (plus_of a d) ≡ true
unfolding group_within_of
group_within a d =
    let p = le-leb a.litters (a.litters + d.litters) (omega arith) in
    let q = le-leb a.successes (a.successes + d.successes) (omega arith) in
    let s = le-leb a.trials (a.trials + d.trials) (omega arith) in
    let t = le-leb a.extreme (a.extreme + d.extreme) (omega arith) in
    rw (p, q, s, t)

within : (a d : Counts) → within_of a (both_of a d) ≡ true
unfolding within_of
within a d = and_both (group_within_of a.first (plus_of a.first d.first)) (group_within_of a.second (plus_of a.second d.second)) (group_within a.first d.first) (group_within a.second d.second)

back : (x y : ℕ) → x + y - x ≡ y
back x y = omega arith

less : (a d : Counts) → less_of a (both_of a d) ≡ d
less a d = simp back

abbrev pub answered : Counts → Result Counts Refused
answered c = Ok c

differs : (a c d : Counts) → c ≡ both_of a d → fits_of a ≡ true → fits_of c ≡ true → difference_of a c ≡ answered d
unfolding difference_of
differs a c d e f g =
    let w : within_of a c ≡ true = rw e (within a d) in
    let k : less_of a c ≡ d = ap (less_of a) e ∙ less a d in
    rw (f, g, w) (ap answered k)

-- ---- the range

-- a range of a right archive: what the summary counts over its litters
abbrev pub counted_range : List ℕ → ℕ → ℕ → Result Counts Refused
counted_range b from to = answered (counted_of (numbers_from b (to - from) from))

module _ (b : List ℕ) (r : Right b) where
  pub range_counted : (from to : ℕ) → from ≤ to → to ≤ count_in b → between_of b from to ≡ counted_range b from to
  unfolding between_of judged_of
  range_counted from to h l =
      let few = r.shape.few in
      let low : from ≤ count_in b = omega arith in
      let e : from + (to - from) ≡ to = omega arith in
      let d = differs (counts_to b from) (counts_to b to) (counted_of (numbers_from b (to - from) from)) (ap (counts_to b) (sym e) ∙ split b (to - from) from) (fits (counts_to b from) (1000 * from) (omega arith) (counts_most b (count_in b) r.litters from low)) (fits (counts_to b to) (1000 * to) (omega arith) (counts_most b (count_in b) r.litters to l)) in
      rw (shape_is b r.shape, le-leb from to h, le-leb to (count_in b) l, valid_reads b r from low, valid_reads b r to l, running_is b r from low, running_is b r to l) d

  pub empty_range : (p : ℕ) → p ≤ count_in b → between_of b p p ≡ answered none
  unfolding numbers_from counted_of counts_of sum_from
  empty_range p l = let e : p - p ≡ 0 = omega arith in rw e at (range_counted p p (omega arith) l)
