-- How large a group's counts can be: what a litter adds is at most 32 bits, and at most 1000 where it is valid.
use Rattle.std.specs.Prelude.{◌≡◌, Bool, true, false, cond, ℕ, ◌+◌, ◌*◌, ◌<◌, ◌≤◌, eqb}
use Rattle.std.proofs.Common.{arith}
use Rattle.litters.specs.Valid.{valid_litter_of}
use Rattle.litters.specs.Checks.{bounds}
use Rattle.summary.specs.declared.GroupCounts.{GroupCounts}
use Rattle.summary.specs.Summary.{extreme_of, no_counts, own_counts, plus_of, litter_counts_of, Adds}

pub record Most (c : GroupCounts) (m : ℕ) : Type 0 where
  pub litters : c.litters ≤ m
  pub successes : c.successes ≤ m
  pub trials : c.trials ≤ m
  pub extreme : c.extreme ≤ m

-- at most k numbers of 32 bits together
abbrev pub Below : GroupCounts → ℕ → Type 0
Below c k = Most c (0xffff_ffff * k)

-- so large a count still has room for one litter more
abbrev pub capacity : ℕ
capacity = 0x1_0000_0000

pub none_most : (m : ℕ) → Most no_counts m
none_most m = record { litters = omega arith; successes = omega arith; trials = omega arith; extreme = omega arith }

pub raise : (c : GroupCounts) (k m : ℕ) → k ≤ m → Most c k → Most c m
raise c k m h w = record { litters = omega arith; successes = omega arith; trials = omega arith; extreme = omega arith }

pub plus_most : (a d : GroupCounts) (m k : ℕ) → Most a m → Most d k → Most (plus_of a d) (m + k)
plus_most a d m k x y = record { litters = omega arith; successes = omega arith; trials = omega arith; extreme = omega arith }

-- ---- one litter

most_cond : (t : Bool) (a b : GroupCounts) (m : ℕ) → Most a m → Most b m → Most (cond t a b) m
most_cond true a b m x y = x
most_cond false a b m x y = y

tally_small : (t : Bool) (m : ℕ) → 1 ≤ m → cond {A = ℕ} t 1 0 ≤ m
tally_small true m h = h
tally_small false m h = omega arith

litter_most : (m asked s t g : ℕ) → 1 ≤ m → s ≤ m → t ≤ m → Most (litter_counts_of asked s t g) m
unfolding litter_counts_of
litter_most m asked s t g one hs ht =
    most_cond (eqb g asked) (own_counts s t) no_counts m (record { litters = one; successes = hs; trials = ht; extreme = tally_small (extreme_of s t) m one }) (none_most m)

pub valid_most : (asked s t g : ℕ) → valid_litter_of s t g ≡ true → Most (litter_counts_of asked s t g) 1000
valid_most asked s t g h = let b = bounds s t g h in litter_most 1000 asked s t g (omega arith) (omega arith) (omega arith)

-- ---- one litter more: below k numbers of 32 bits there is room for it, and then they are k + 1
module _ (asked s t g : ℕ) (c one : GroupCounts) (e : one ≡ litter_counts_of asked s t g) (hs : s < 0x1_0000_0000) (ht : t < 0x1_0000_0000) (k : ℕ) (w : Below c k) where
  just_one : Most one 0xffff_ffff
  just_one = rw e (litter_most 0xffff_ffff asked s t g (omega arith) (omega arith) (omega arith))

  pub adds : k ≤ capacity → Adds c one
  adds h =
      let o = just_one in
      record { litters = omega arith; successes = omega arith; trials = omega arith; extreme = omega arith }

  pub more : (r : GroupCounts) → r ≡ plus_of c one → Below r (k + 1)
  more r u =
      let o = just_one in
      rw u (record { litters = omega arith; successes = omega arith; trials = omega arith; extreme = omega arith })
