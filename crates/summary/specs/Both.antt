-- The counts of both groups added, what one litter adds to them, and how large they can be.
use Rattle.std.specs.Prelude.{◌≡◌, ℕ, ◌*◌, ◌≤◌}
use Rattle.std.proofs.Common.{arith}
use Rattle.summary.specs.declared.Counts.{Counts}
use Rattle.summary.specs.Summary.{no_counts, none_is, plus_of, litter_counts_of}
use Rattle.summary.specs.Most.{Most, none_most, raise}

abbrev pub none : Counts
none = record { first = no_counts; second = no_counts }

abbrev pub both_of : Counts → Counts → Counts
both_of c d = record { first = plus_of c.first d.first; second = plus_of c.second d.second }

-- what one litter counts
unfoldable pub one_of : ℕ → ℕ → ℕ → Counts
one_of successes total group = record { first = litter_counts_of 0 successes total group; second = litter_counts_of 1 successes total group }

-- ---- how large they can be

pub record BothMost (c : Counts) (m : ℕ) : Type 0 where
  pub first : Most c.first m
  pub second : Most c.second m

-- at most k numbers of 32 bits together
abbrev pub BothBelow : Counts → ℕ → Type 0
BothBelow c k = BothMost c (0xffff_ffff * k)

-- a bound may be raised
pub raised : (c : Counts) (k m : ℕ) → k ≤ m → BothBelow c k → BothBelow c m
raised c k m h w = record { first = raise c.first (0xffff_ffff * k) (0xffff_ffff * m) (omega arith) w.first; second = raise c.second (0xffff_ffff * k) (0xffff_ffff * m) (omega arith) w.second }

pub none_both : (m : ℕ) → BothMost none m
none_both m = record { first = none_most m; second = none_most m }

pub none_below : (c : Counts) (k : ℕ) → c ≡ none → BothBelow c k
none_below c k e = rw e (none_both (0xffff_ffff * k))

-- what `default` says of each field, as one equation
pub both_none_is : (c : Counts) → ((c.first.litters ≡ 0) × ((c.first.successes ≡ 0) × ((c.first.trials ≡ 0) × (c.first.extreme ≡ 0)))) × ((c.second.litters ≡ 0) × ((c.second.successes ≡ 0) × ((c.second.trials ≡ 0) × (c.second.extreme ≡ 0)))) → c ≡ none
both_none_is c e =
    let p = none_is c.first e.0 in
    let q = none_is c.second e.1 in
    λ j. record { first = p j; second = q j }
