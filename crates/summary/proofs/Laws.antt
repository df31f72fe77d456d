-- The laws of adding counts.
use Rattle.std.specs.Prelude.{◌≡◌, Bool, true, false, List, ℕ, ◌<◌, length, get_or, take, Ok, Err}
use Rattle.std.proofs.Common.{sym, ◌∙◌, subst, take_all, zero-add, add-zero, add_assoc, arith}
use Rattle.work.specs.declared.Refusal.TheVariants.{InvalidInput}
use Rattle.litters.specs.Litters.{count_of, row_at}
use Rattle.litters.specs.Valid.{valid_litters_of}
use Rattle.litters.specs.Checks.{at_most_128}
use Rattle.summary.specs.declared.GroupCounts.{GroupCounts}
use Rattle.summary.specs.Summary.{no_counts, plus_of, counts_of, counted_of, summary_of}

pub plus_assoc : (a b d : GroupCounts) → plus_of (plus_of a b) d ≡ plus_of a (plus_of b d)
plus_assoc a b d = simp add_assoc

pub plus_none : (a : GroupCounts) → plus_of a no_counts ≡ a
plus_none a = simp add-zero

pub none_plus : (a : GroupCounts) → plus_of no_counts a ≡ a
none_plus a = simp zero-add

-- the rows are those of the run
abbrev pub RowsOf : List ℕ → List (List ℕ) → Type 0
RowsOf ls rows = (length rows ≡ count_of ls) × ((i : ℕ) (none : List ℕ) → i < count_of ls → get_or rows i none ≡ row_at ls i)

-- of a run that is the whole of ls
pub rows_of : (ls ms : List ℕ) (rows : List (List ℕ)) → RowsOf ms rows → ms ≡ take (length ls) ls → RowsOf ls rows
rows_of ls ms rows r h = subst (λ x. RowsOf x rows) (h ∙ take_all (length ls) ls (omega arith)) r

module _ (ls : List ℕ) (t : Bool) (e : t ≡ valid_litters_of ls) where
  -- valid litters are few enough to count
  pub valid_few : t ≡ true → length ls < 0x1_0000_0000
  valid_few f = omega (arith, at_most_128 ls (sym e ∙ f))

  pub summary_stops : t ≡ false → Err InvalidInput ≡ summary_of ls
  unfolding summary_of
  summary_stops f = rw (← e, f)

  pub summary_goes : (a b : GroupCounts) → t ≡ true → a ≡ counts_of ls 0 → b ≡ counts_of ls 1 → Ok (record { first = a; second = b }) ≡ summary_of ls
  unfolding summary_of counted_of
  summary_goes a b f x y = rw (← e, f, ← x, ← y)
