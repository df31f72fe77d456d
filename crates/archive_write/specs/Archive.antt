-- The archive of a list of litters, byte by byte, and what the writer leaves in a buffer.
use Rattle.std.specs.Prelude.{Bool, ◌&&◌, cond, List, [], ◌∷◌, ◌++◌, ℕ, zero, suc, ◌*◌, ◌/◌, ◌%◌, leb, eqb, length, Result, Ok, Err}
use Rattle.litters.specs.Litters.{count_of, successes_at, total_at, group_at}
use Rattle.litters.specs.Valid.{each_valid_of}
use Rattle.summary.specs.declared.GroupCounts.{GroupCounts}
use Rattle.store.specs.Stored.{stored}
use Rattle.summary.specs.declared.Counts.{Counts}
use Rattle.summary.specs.Both.{none, both_of, one_of}
use Rattle.archive.specs.declared.Refused.{Refused}
use Rattle.archive.specs.declared.Refused.TheVariants.{InvalidInput}
use Rattle.archive.specs.Layout.{size_of}

-- a word's four bytes, the lowest first
unfoldable pub word_bytes : ℕ → List ℕ
word_bytes x = x % 256 ∷ x / 256 % 256 ∷ x / 256 / 256 % 256 ∷ x / 256 / 256 / 256 % 256 ∷ []

-- group, successes, total
unfoldable pub litter_bytes : ℕ → ℕ → ℕ → List ℕ
litter_bytes successes total group = word_bytes group ++ (word_bytes successes ++ word_bytes total)

unfoldable pub group_bytes : GroupCounts → List ℕ
group_bytes c = word_bytes c.litters ++ (word_bytes c.successes ++ (word_bytes c.trials ++ word_bytes c.extreme))

-- of group 0, then of group 1
unfoldable pub counts_bytes : Counts → List ℕ
counts_bytes c = group_bytes c.first ++ group_bytes c.second

-- litters, byte of the first totals, byte of the first litter
unfoldable pub trailer_bytes : ℕ → List ℕ
trailer_bytes n = word_bytes n ++ (word_bytes (12 * n) ++ word_bytes 0)

-- ---- of litters as lent numbers

-- the first i litters
unfoldable pub litters_to : List ℕ → ℕ → List ℕ
litters_to ls zero = []
litters_to ls (suc i) = litters_to ls i ++ litter_bytes (successes_at ls i) (total_at ls i) (group_at ls i)

-- the first i litters counted
unfoldable pub counted_to : List ℕ → ℕ → Counts
counted_to ls zero = none
counted_to ls (suc i) = both_of (counted_to ls i) (one_of (successes_at ls i) (total_at ls i) (group_at ls i))

-- the totals of the first j full 64 litters
unfoldable pub totals_to : List ℕ → ℕ → List ℕ
totals_to ls zero = []
totals_to ls (suc j) = totals_to ls j ++ counts_bytes (counted_to ls (64 * suc j))

unfoldable pub archive_of : List ℕ → List ℕ
archive_of ls = litters_to ls (count_of ls) ++ (totals_to ls (count_of ls / 64) ++ trailer_bytes (count_of ls))

-- ---- what is written

-- no number over, at most 4,096 litters, room for the archive, every litter valid
unfoldable pub is_writable_of : List ℕ → ℕ → Bool
is_writable_of ls room = eqb (length ls % 3) 0 && (leb (count_of ls) 4096 && (leb (size_of (count_of ls)) room && each_valid_of ls))

-- what a call answers, and what its buffer holds after it
pub record Written : Type 0 where
  pub answer : Result (Unit {0}) Refused
  pub out : List ℕ

abbrev pub written : Result (Unit {0}) Refused → List ℕ → Written
written answer out = record { answer = answer; out = out }

-- the archive, and after it the bytes that stood there; or nothing
unfoldable pub write_of : List ℕ → List ℕ → Written
write_of ls out = cond (is_writable_of ls (length out)) (written (Ok tt) (stored out (archive_of ls))) (written (Err InvalidInput) out)
