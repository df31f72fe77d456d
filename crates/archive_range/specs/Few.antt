-- A running summary reads at most one of the totals and 63 litters, whatever the archive; and two archives that agree in what is read have the
-- same running summary.
use Rattle.std.specs.Prelude.{◌≡◌, refl, List, [], ◌∷◌, ◌++◌, ℕ, zero, suc, ◌+◌, ◌*◌, ◌/◌, ◌%◌, ◌≤◌}
use Rattle.std.proofs.Common.{arith}
use Rattle.summary.specs.declared.Counts.{Counts}
use Rattle.summary.specs.Both.{none, both_of}
use Rattle.archive_range.specs.Reads.{Read, total, litter, litters_from, last_total, reads_of, read_in, is_valid, summed, valid_reads_of, running_of}

-- how many of the reads are totals, and how many litters
abbrev pub totals_read : List Read → ℕ
totals_read [] = 0
totals_read (total j ∷ rs) = suc (totals_read rs)
totals_read (litter i ∷ rs) = totals_read rs

abbrev pub litters_read : List Read → ℕ
litters_read [] = 0
litters_read (total j ∷ rs) = litters_read rs
litters_read (litter i ∷ rs) = suc (litters_read rs)

no_totals_lem : (k i : ℕ) → totals_read (litters_from k i) ≡ 0
unfolding litters_from
no_totals_lem zero i = refl
no_totals_lem (suc k) i = no_totals_lem k (i + 1)

all_litters : (k i : ℕ) → litters_read (litters_from k i) ≡ k
unfolding litters_from
all_litters zero i = refl
all_litters (suc k) i = rw (all_litters k (i + 1))

one_total : (q k i : ℕ) → totals_read (last_total q ++ litters_from k i) ≤ 1
unfolding last_total
one_total zero k i = omega (arith, no_totals_lem k i)
one_total (suc j) k i = omega (arith, no_totals_lem k i)

same_litters : (q k i : ℕ) → litters_read (last_total q ++ litters_from k i) ≡ k
unfolding last_total
same_litters zero k i = all_litters k i
same_litters (suc j) k i = all_litters k i

pub few_totals : (p : ℕ) → totals_read (reads_of p) ≤ 1
unfolding reads_of
few_totals p = one_total (p / 64) (p % 64) (64 * (p / 64))

pub few_litters : (p : ℕ) → litters_read (reads_of p) ≤ 63
unfolding reads_of
few_litters p = omega (arith, same_litters (p / 64) (p % 64) (64 * (p / 64)))

-- ---- nothing else is read

-- two archives agree in what is read
abbrev pub Agree : List ℕ → List ℕ → List Read → Type 0
Agree a b [] = Unit {0}
Agree a b (r ∷ rs) = (read_in a r ≡ read_in b r) × (is_valid a r ≡ is_valid b r) × Agree a b rs

same_sum : (a b : List ℕ) (c : Counts) (rs : List Read) → Agree a b rs → summed a c rs ≡ summed b c rs
unfolding summed
same_sum a b c [] h = refl
same_sum a b c (r ∷ rs) h = rw h.0 (same_sum a b (both_of c (read_in b r)) rs h.2)

same_valid : (a b : List ℕ) (rs : List Read) → Agree a b rs → valid_reads_of a rs ≡ valid_reads_of b rs
unfolding valid_reads_of
same_valid a b [] h = refl
same_valid a b (r ∷ rs) h = rw (h.1, same_valid a b rs h.2)

pub only_read : (a b : List ℕ) (p : ℕ) → Agree a b (reads_of p) → (running_of a p ≡ running_of b p) × (valid_reads_of a (reads_of p) ≡ valid_reads_of b (reads_of p))
unfolding running_of
only_read a b p h = (same_sum a b none (reads_of p) h, same_valid a b (reads_of p) h)
