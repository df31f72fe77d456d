-- The counts of both groups from one position up to but not including another: the difference of two running summaries.
use Rattle.std.specs.Prelude.{Bool, ◌&&◌, cond, List, ℕ, ◌-◌, leb, Result, Ok, Err}
use Rattle.summary.specs.declared.GroupCounts.{GroupCounts}
use Rattle.summary.specs.declared.Counts.{Counts}
use Rattle.archive.specs.declared.Refused.{Refused}
use Rattle.archive.specs.declared.Refused.TheVariants.{InvalidInput, Form}
use Rattle.archive.specs.Layout.{count_in, shaped_of}
use Rattle.archive_range.specs.Reads.{reads_of, valid_reads_of, running_of}

-- a group's sums within 32 bits. Sums only grow, so if the last is, all before it are.
unfoldable pub group_fits_of : GroupCounts → Bool
group_fits_of c = (leb c.litters 0xffff_ffff && leb c.successes 0xffff_ffff) && (leb c.trials 0xffff_ffff && leb c.extreme 0xffff_ffff)

unfoldable pub fits_of : Counts → Bool
fits_of c = group_fits_of c.first && group_fits_of c.second

-- none of a group's differences negative
unfoldable pub group_within_of : GroupCounts → GroupCounts → Bool
group_within_of a b = (leb a.litters b.litters && leb a.successes b.successes) && (leb a.trials b.trials && leb a.extreme b.extreme)

unfoldable pub within_of : Counts → Counts → Bool
within_of a b = group_within_of a.first b.first && group_within_of a.second b.second

abbrev pub group_less_of : GroupCounts → GroupCounts → GroupCounts
group_less_of a b =
    record {
      litters = b.litters - a.litters;
      successes = b.successes - a.successes;
      trials = b.trials - a.trials;
      extreme = b.extreme - a.extreme;
    }

abbrev pub less_of : Counts → Counts → Counts
less_of a b = record { first = group_less_of a.first b.first; second = group_less_of a.second b.second }

-- from a up to b: a sum past 32 bits or a negative difference is Form
unfoldable pub difference_of : Counts → Counts → Result Counts Refused
difference_of a b = cond ((fits_of a && fits_of b) && within_of a b) (Ok (less_of a b)) (Err Form)

abbrev pub in_order : ℕ → ℕ → ℕ → Bool
in_order from to n = leb from to && leb to n

-- Every litter that either running summary reads is looked at before either is summed.
unfoldable pub judged_of : List ℕ → ℕ → ℕ → Result Counts Refused
judged_of b from to = cond (valid_reads_of b (reads_of from) && valid_reads_of b (reads_of to)) (difference_of (running_of b from) (running_of b to)) (Err InvalidInput)

unfoldable pub between_of : List ℕ → ℕ → ℕ → Result Counts Refused
between_of b from to = cond (shaped_of b) (cond (in_order from to (count_in b)) (judged_of b from to) (Err InvalidInput)) (Err Form)
