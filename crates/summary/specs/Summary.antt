-- The group summary: for each group the number of litters, successes, trials and extreme litters.
use Rattle.std.specs.Prelude.{◌≡◌, Bool, ◌||◌, cond, List, [], ◌∷◌, ◌++◌, ℕ, ◌+◌, ◌<◌, eqb, Result, Ok, Err}
use Rattle.num.specs.Sum.{sum_from}
use Rattle.work.specs.declared.Refusal.{Refusal}
use Rattle.work.specs.declared.Refusal.TheVariants.{InvalidInput}
use Rattle.litters.specs.Litters.{count_of, successes_at, total_at, group_at}
use Rattle.litters.specs.Valid.{valid_litters_of}
use Rattle.summary.specs.declared.GroupCounts.{GroupCounts}
use Rattle.summary.specs.declared.Counts.{Counts}

-- a litter with no successes, or with no failures
unfoldable pub extreme_of : ℕ → ℕ → Bool
extreme_of successes total = eqb successes 0 || eqb successes total

abbrev pub no_counts : GroupCounts
no_counts = record { litters = 0; successes = 0; trials = 0; extreme = 0 }

-- what `default` says of its fields, as one equation
pub none_is : (c : GroupCounts) → (c.litters ≡ 0) × ((c.successes ≡ 0) × ((c.trials ≡ 0) × (c.extreme ≡ 0))) → c ≡ no_counts
none_is c e = λ j. record { litters = e.0 j; successes = e.1.0 j; trials = e.1.1.0 j; extreme = e.1.1.1 j }

abbrev pub plus_of : GroupCounts → GroupCounts → GroupCounts
plus_of a b =
    record {
      litters = a.litters + b.litters;
      successes = a.successes + b.successes;
      trials = a.trials + b.trials;
      extreme = a.extreme + b.extreme;
    }

-- what a litter adds to the counts of its own group
abbrev pub own_counts : ℕ → ℕ → GroupCounts
own_counts successes total = record { litters = 1; successes = successes; trials = total; extreme = cond (extreme_of successes total) 1 0 }

-- what a litter adds to the counts of the group asked for
unfoldable pub litter_counts_of : ℕ → ℕ → ℕ → ℕ → GroupCounts
litter_counts_of asked successes total group = cond (eqb group asked) (own_counts successes total) no_counts

-- what the i-th litter adds to them
abbrev pub litter_counts_at : List ℕ → ℕ → ℕ → GroupCounts
litter_counts_at ls asked i = litter_counts_of asked (successes_at ls i) (total_at ls i) (group_at ls i)

-- a group's counts over n litters from the i-th on, valid or not
abbrev pub counts_from : List ℕ → ℕ → ℕ → ℕ → GroupCounts
counts_from ls asked n i = sum_from plus_of no_counts (litter_counts_at ls asked) n i

unfoldable pub counts_of : List ℕ → ℕ → GroupCounts
counts_of ls asked = counts_from ls asked (count_of ls) 0

abbrev group_list : GroupCounts → List ℕ
group_list c = c.litters ∷ c.successes ∷ c.trials ∷ c.extreme ∷ []

-- both groups' counts, as a host is given them
abbrev pub listed_of : GroupCounts → GroupCounts → List ℕ
listed_of a b = group_list a ++ group_list b

-- both groups of a run of litters, valid or not
unfoldable pub counted_of : List ℕ → Counts
counted_of ls = record { first = counts_of ls 0; second = counts_of ls 1 }

unfoldable pub summary_of : List ℕ → Result Counts Refusal
summary_of ls = cond (valid_litters_of ls) (Ok (counted_of ls)) (Err InvalidInput)

-- two counts whose sums fit 64 bits
pub record Adds (a b : GroupCounts) : Type 0 where
  pub litters : a.litters + b.litters < 0x1_0000_0000_0000_0000
  pub successes : a.successes + b.successes < 0x1_0000_0000_0000_0000
  pub trials : a.trials + b.trials < 0x1_0000_0000_0000_0000
  pub extreme : a.extreme + b.extreme < 0x1_0000_0000_0000_0000
