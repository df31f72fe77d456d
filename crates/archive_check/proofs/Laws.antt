-- The laws of the check's loop: c is what the first i litters count.
use Rattle.std.proofs.Math.Bool.{and_assoc}
use mathlib.Core.Path.{◌≡◌}
use mathlib.Core.Bool.{Bool, true, false, ◌&&◌}
use lib.Dec.{eqb}
use mathlib.Core.List.{List}
use Prim.Native.Nat.{ℕ, suc, ◌+◌, ◌-◌, ◌/◌, ◌%◌, ◌<◌}
use native.Mathlib.Numerals.{add-one}
use borrow.Author.Tests.{eq-eqb, ne_eqb}
use Rattle.num.specs.Every.{every_from, every_stops}
use Rattle.summary.specs.declared.Counts.{Counts}
use Rattle.archive.specs.Layout.{valid_of, count_in}
use Rattle.summary.specs.Both.{none, both_of}
use Rattle.archive.specs.Counts.{litter_in, totals_in, counts_to}
use Rattle.archive_check.specs.Check.{same_group_of, same_of, totals_hold_of, holds_at}

-- what `==` says, as the definition groups it
pub same_is : (c d : Counts) (r : Bool) → r ≡ ((eqb c.first.litters d.first.litters && (eqb c.first.successes d.first.successes && (eqb c.first.trials d.first.trials && eqb c.first.extreme d.first.extreme))) && (eqb c.second.litters d.second.litters && (eqb c.second.successes d.second.successes && (eqb c.second.trials d.second.trials && eqb c.second.extreme d.second.extreme)))) → r ≡ same_of c d
unfolding same_of same_group_of
same_is c d r e = rw (and_assoc (eqb c.first.litters d.first.litters), and_assoc (eqb c.second.litters d.second.litters)) e

pub none_yet : (b : List ℕ) (c : Counts) → c ≡ none → c ≡ counts_to b 0
unfolding counts_to
none_yet b c e = e

pub no_totals_lem : (b : List ℕ) (i : ℕ) (c : Counts) → (i % 64 ≡ 0 → ⊥) → true ≡ totals_hold_of b i c
unfolding totals_hold_of
no_totals_lem b i c h = rw (ne_eqb (i % 64) 0 h)

pub some_totals : (b : List ℕ) (i : ℕ) (c d : Counts) (r : Bool) → (i % 64 ≡ 0) → d ≡ totals_in b (count_in b) (i / 64 - 1) → r ≡ same_of c d → r ≡ totals_hold_of b i c
unfolding totals_hold_of
some_totals b i c d r h f g = rw (eq-eqb (i % 64) 0 h, ← f) g

module _ (b : List ℕ) (i : ℕ) (c d : Counts) (u : c ≡ counts_to b i) (w : d ≡ both_of c (litter_in b i)) where
  next_counts : d ≡ counts_to b (suc i)
  unfolding counts_to
  next_counts = rw (← u) w

  pub counts_next : d ≡ counts_to b (i + 1)
  counts_next = rw (add-one i) next_counts

  pub totals_at : (s t : Bool) → s ≡ valid_of b i → s ≡ true → t ≡ totals_hold_of b (i + 1) d → t ≡ holds_at b i
  unfolding holds_at
  totals_at s t e f g = rw (← e, f, ← next_counts, ← add-one i) g

module _ (b : List ℕ) (n i : ℕ) (v : every_from (holds_at b) (n - i) i ≡ every_from (holds_at b) n 0) (l : i < n) where
  pub invalid_litter : (t : Bool) → t ≡ valid_of b i → t ≡ false → false ≡ every_from (holds_at b) n 0
  unfolding holds_at
  invalid_litter t e f = every_stops (holds_at b) _ n i v t l (rw (← e, f)) f

  pub wrong_totals : (c d : Counts) → c ≡ counts_to b i → d ≡ both_of c (litter_in b i) → (s t : Bool) → s ≡ valid_of b i → s ≡ true → t ≡ totals_hold_of b (i + 1) d → t ≡ false → false ≡ every_from (holds_at b) n 0
  wrong_totals c d u w s t e f g h = every_stops (holds_at b) _ n i v t l (totals_at b i c d u w s t e f g) h
