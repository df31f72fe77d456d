-- What the writer makes passes the full check, and its ranges are what the summary counts over the litters that were written.
use Rattle.std.specs.Prelude.{◌≡◌, true, List, ℕ, ◌≤◌}
use Rattle.archive.specs.Layout.{count_in}
use Rattle.archive_range.specs.Range.{between_of}
use Rattle.archive_range.specs.Counted.{counted_range, range_counted}
use Rattle.archive_check.specs.Check.{check_of}
use Rattle.archive_check.specs.Exactly.{yes_right, right_yes}
use Rattle.archive_write.specs.Archive.{archive_of, is_writable_of}
use Rattle.archive_write.specs.ReadBack.{archive_right}

pub archive_checks : (ls : List ℕ) (room : ℕ) → is_writable_of ls room ≡ true → check_of (archive_of ls) ≡ true
archive_checks ls room w = right_yes (archive_of ls) (archive_right ls room w)

-- of an archive that passes the check, a range is the summary counted over its litters
pub checked_range : (b : List ℕ) (from to : ℕ) → check_of b ≡ true → from ≤ to → to ≤ count_in b → between_of b from to ≡ counted_range b from to
checked_range b from to h = range_counted b (yes_right b h) from to
