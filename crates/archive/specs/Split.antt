-- A count splits at a position: the litters before it, and those from it on as the summary counts them.
use Rattle.std.specs.Prelude.{◌≡◌, List, [], ◌∷◌, length, get_or}
use Rattle.std.proofs.Math.Path.{refl}
use Rattle.std.proofs.Common.{◌∙◌, add-zero, add_assoc}
use Prim.Native.Nat.{ℕ, zero, suc, ◌+◌, ◌*◌, ◌/◌}
use native.Mathlib.Omega.{arith}
use Rattle.num.specs.Sum.{sum_from}
use Rattle.summary.specs.Summary.{plus_of, litter_counts_of, counts_from, counts_of, counted_of}
use Rattle.summary.specs.declared.Counts.{Counts}
use Rattle.summary.specs.Both.{both_of, one_of}
use Rattle.archive.specs.Layout.{group_in, successes_in, total_in}
use Rattle.archive.specs.Counts.{litter_in, counts_to, numbers_from}

module _ (s t g : ℕ) (ls : List ℕ) where
  three : (i : ℕ) → 3 * (i + 1) ≡ suc (suc (suc (3 * i)))
  three i = omega arith

  next_successes : (i : ℕ) → get_or (s ∷ t ∷ g ∷ ls) (3 * (i + 1)) 0 ≡ get_or ls (3 * i) 0
  next_successes i = rw (three i)

  next_total : (i : ℕ) → get_or (s ∷ t ∷ g ∷ ls) (3 * (i + 1) + 1) 0 ≡ get_or ls (3 * i + 1) 0
  next_total i = let e : 3 * (i + 1) + 1 ≡ suc (suc (suc (3 * i + 1))) = omega arith in rw e

  next_group : (i : ℕ) → get_or (s ∷ t ∷ g ∷ ls) (3 * (i + 1) + 2) 0 ≡ get_or ls (3 * i + 2) 0
  next_group i = let e : 3 * (i + 1) + 2 ≡ suc (suc (suc (3 * i + 2))) = omega arith in rw e

  one_on : (asked m i : ℕ) → counts_from (s ∷ t ∷ g ∷ ls) asked m (i + 1) ≡ counts_from ls asked m i
  unfolding sum_from
  one_on asked zero i = refl
  one_on asked (suc m) i = rw (next_successes i, next_total i, next_group i, one_on asked m (i + 1))

  counts_cons : (asked : ℕ) → counts_of (s ∷ t ∷ g ∷ ls) asked ≡ plus_of (litter_counts_of asked s t g) (counts_of ls asked)
  unfolding counts_of sum_from
  counts_cons asked =
      let e : suc (suc (suc (length ls))) / 3 ≡ suc (length ls / 3) = omega arith in
      rw (e, one_on asked (length ls / 3) 0)

  counted_cons : counted_of (s ∷ t ∷ g ∷ ls) ≡ both_of (one_of s t g) (counted_of ls)
  unfolding counted_of one_of
  counted_cons = let p = counts_cons 0 in let q = counts_cons 1 in λ j. record { first = p j; second = q j }

both_assoc : (a b d : Counts) → both_of (both_of a b) d ≡ both_of a (both_of b d)
both_assoc a b d = simp add_assoc

both_none : (a : Counts) → a ≡ both_of a (counted_of [])
unfolding counted_of counts_of sum_from
both_none a = simp add-zero

module _ (b : List ℕ) where
  pub split : (k i : ℕ) → counts_to b (i + k) ≡ both_of (counts_to b i) (counted_of (numbers_from b k i))
  unfolding numbers_from counts_to
  split zero i = rw (add-zero i) (both_none (counts_to b i))
  split (suc k) i =
      let e : i + suc k ≡ suc i + k = omega arith in
      rw (e, counted_cons (successes_in b i) (total_in b i) (group_in b i) (numbers_from b k (suc i))) (split k (suc i) ∙ both_assoc (counts_to b i) (litter_in b i) (counted_of (numbers_from b k (suc i))))
