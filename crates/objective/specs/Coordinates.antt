-- An objective reads the four coordinates of its point, and nothing else of it.
use Rattle.std.specs.Prelude.{◌≡◌, List, [], ◌∷◌, ltb, get_or, Float}
use Rattle.std.proofs.Math.Path.{refl, fun_ext}
use Rattle.std.proofs.Common.{ap}
use Prim.Native.Nat.{ℕ, zero, suc, ◌+◌}
use Rattle.std.specs.Float.{nan}
use Rattle.work.specs.Work.{◌>>=◌}
use Rattle.work.specs.Metered.{split}
use Rattle.legendre.specs.declared.Pair.{Pair}
use Rattle.value.specs.declared.Totals.{Totals}
use Rattle.litters.specs.Litters.{group_at}
use Rattle.objective.specs.Point.{valid_point_of}
use Rattle.objective.specs.Totals.{index_of, with_share}
use Rattle.objective.specs.Objective.{share_at, rows, objective}

-- two means, then two variances
abbrev pub point_of : List Float → List Float
point_of x = get_or x 0 nan ∷ get_or x 1 nan ∷ get_or x 2 nan ∷ get_or x 3 nan ∷ []

module _ (rule : List Pair) (x : List Float) (ls : List ℕ) where
  share_reads : (i : ℕ) → share_at rule (point_of x) ls i ≡ share_at rule x ls i
  share_reads i = split (ltb (group_at ls i) 1) (λ b. rw b) (λ b. rw b)

  rows_read : (n i : ℕ) (t : Totals) → rows rule (point_of x) ls n i t ≡ rows rule x ls n i t
  unfolding rows
  rows_read zero i t = refl
  rows_read (suc n) i t =
      rw (share_reads i) (ap (λ f. share_at rule x ls i >>= f) (fun_ext (λ s. rows_read n (i + 1) (with_share t (index_of (group_at ls i)) s))))

  pub objective_reads : objective rule (point_of x) ls ≡ objective rule x ls
  unfolding objective valid_point_of
  objective_reads = rw rows_read
