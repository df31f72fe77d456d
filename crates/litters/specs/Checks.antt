-- What litters must satisfy (docs/RULES.md), check by check: these are what is tested. So none and more than 128 are not valid, and the numbers of a valid litter are bounded.
use Rattle.std.specs.Prelude.{◌≡◌, refl, Bool, true, false, List, [], ◌∷◌, ◌++◌, ℕ, zero, suc, ◌+◌, ◌%◌, ◌<◌, ◌≤◌, leb, eqb, length, get_or}
use Rattle.std.proofs.Common.{sym, ◌∙◌, zero-le, arith, leb-true}
use Rattle.std.proofs.lemmas.Bool.{lt-leb}
use Rattle.num.specs.Every.{every_from, each_passes as Every·each-passes}
use Rattle.litters.specs.All.{all, and-true, both_all, one_fails, each_passes}
use Rattle.litters.specs.Litters.{count_of, successes_at, total_at, group_at}
use Rattle.litters.specs.Valid.{valid_litter_of, valid_at, each_valid_of, valid_litters_of}

-- of a litter
abbrev pub one_litter : ℕ → ℕ → ℕ → List Bool
one_litter successes total group = leb group 1 ∷ leb 1 total ∷ leb total 1000 ∷ leb successes total ∷ []

-- of each of n litters from the i-th on
abbrev pub each_litter : List ℕ → ℕ → ℕ → List Bool
each_litter ls zero i = []
each_litter ls (suc n) i = one_litter (successes_at ls i) (total_at ls i) (group_at ls i) ++ each_litter ls n (i + 1)

-- three numbers a litter, 1 to 128 litters, and each of them
abbrev pub litter_checks : List ℕ → List Bool
litter_checks ls = eqb (length ls % 3) 0 ∷ leb 1 (count_of ls) ∷ leb (count_of ls) 128 ∷ each_litter ls (count_of ls) 0

litter_all : (successes total group : ℕ) → valid_litter_of successes total group ≡ all (one_litter successes total group)
unfolding valid_litter_of
litter_all successes total group = simp and-true

from_all : (ls : List ℕ) (n i : ℕ) → every_from (λ i. valid_at ls i) n i ≡ all (each_litter ls n i)
unfolding every_from
from_all ls zero i = refl
from_all ls (suc n) i = both_all _ _ (one_litter (successes_at ls i) (total_at ls i) (group_at ls i)) (each_litter ls n (i + 1)) (litter_all _ _ _) (from_all ls n (i + 1))

pub litters_all : (ls : List ℕ) → valid_litters_of ls ≡ all (litter_checks ls)
unfolding valid_litters_of each_valid_of
litters_all ls = rw (from_all ls (count_of ls) 0)

pub litters_fail : (ls : List ℕ) (i : ℕ) → get_or (litter_checks ls) i true ≡ false → valid_litters_of ls ≡ false
litters_fail ls i h = litters_all ls ∙ one_fails (litter_checks ls) i h

pub many_invalid : (ls : List ℕ) → 128 < count_of ls → valid_litters_of ls ≡ false
many_invalid ls h = litters_fail ls 2 (lt-leb (count_of ls) 128 h)

pub none_invalid : valid_litters_of [] ≡ false
none_invalid = litters_fail [] 1 refl

pub at_most_128 : (ls : List ℕ) → valid_litters_of ls ≡ true → count_of ls ≤ 128
at_most_128 ls h = leb-true (count_of ls) 128 (each_passes (litter_checks ls) 2 (sym (litters_all ls) ∙ h))

-- ---- of a valid litter

pub record Bounds (s t g : ℕ) : Type 0 where
  pub successes : s ≤ t
  pub total : t ≤ 1000
  pub group : g ≤ 1

pub bounds : (s t g : ℕ) → valid_litter_of s t g ≡ true → Bounds s t g
bounds s t g h =
    let passes : (i : ℕ) → get_or (one_litter s t g) i true ≡ true = λ i. each_passes (one_litter s t g) i (sym (litter_all s t g) ∙ h) in
    record { successes = leb-true s t (passes 3); total = leb-true t 1000 (passes 2); group = leb-true g 1 (passes 0) }

-- and each litter of a run of them is one
pub each_valid : (ls : List ℕ) (i : ℕ) → each_valid_of ls ≡ true → i < count_of ls → valid_at ls i ≡ true
unfolding each_valid_of
each_valid ls i h l = Every·each-passes (λ i. valid_at ls i) (count_of ls) 0 i h zero-le (omega arith)
