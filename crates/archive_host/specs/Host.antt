-- What a host's calls on an archive answer, and what they leave in its buffers.
use Rattle.std.specs.Prelude.{cond, List, ℕ, leb, length, Result, Ok, Err}
use Rattle.summary.specs.Summary.{listed_of}
use Rattle.store.specs.Stored.{stored}
use Rattle.summary.specs.declared.Counts.{Counts}
use Rattle.summary.specs.Both.{none}
use Rattle.archive.specs.declared.Refused.{Refused}
use Rattle.archive.specs.Layout.{size_of, number_of as refused_number_of}
use Rattle.archive_range.specs.Range.{between_of}
use Rattle.archive_check.specs.Check.{check_of}
use Rattle.archive_write.specs.Archive.{write_of}

-- a call's value, and what its buffer holds after it
pub record Given : Type 0 where
  pub value : ℕ
  pub out : List ℕ

abbrev pub given : ℕ → List ℕ → Given
given value out = record { value = value; out = out }

-- 0, or a refusal's number
abbrev pub number_of : {A : Type 0} → Result A Refused → ℕ
number_of (Ok a) = 0
number_of (Err e) = refused_number_of e

-- the counts, or zeros beside a refusal
abbrev pub counts_or_none : Result Counts Refused → Counts
counts_or_none (Ok c) = c
counts_or_none (Err e) = none

unfoldable pub put_range_of : Result Counts Refused → List ℕ → Given
put_range_of r counts = given (number_of r) (stored counts (listed_of (counts_or_none r).first (counts_or_none r).second))

-- eight places, or nothing is written
unfoldable pub range_given : List ℕ → ℕ → ℕ → List ℕ → Given
range_given b from to counts = cond (leb 8 (length counts)) (put_range_of (between_of b from to) counts) (given 1 counts)

unfoldable pub write_given : List ℕ → List ℕ → Given
write_given ls out = given (number_of (write_of ls out).answer) (write_of ls out).out

abbrev pub check_given : List ℕ → ℕ
check_given b = cond (check_of b) 1 0

abbrev pub size_given : ℕ → ℕ
size_given n = cond (leb n 4096) (size_of n) 0
