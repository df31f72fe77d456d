-- The layout of an archive, a list of bytes. Every number in it is a little-endian word of four bytes:
-- for each litter group, successes, total; for each full 64 litters the running totals, eight words; the trailer, three.
use Rattle.std.specs.Prelude.{Bool, ◌&&◌, List, ℕ, ◌+◌, ◌-◌, ◌*◌, ◌/◌, leb, eqb, length, get_or}
use Rattle.litters.specs.Valid.{valid_litter_of}
use Rattle.litters.specs.declared.Litter.{Litter}
use Rattle.archive.specs.declared.Refused.{Refused}
use Rattle.archive.specs.declared.Refused.TheVariants.{InvalidInput, Form}

-- a refusal's number
abbrev pub number_of : Refused → ℕ
number_of InvalidInput = 1
number_of Form = 4

-- the word at byte p
unfoldable pub word_at : List ℕ → ℕ → ℕ
word_at b p = get_or b p 0 + 256 * get_or b (p + 1) 0 + 65536 * get_or b (p + 2) 0 + 16777216 * get_or b (p + 3) 0

-- ---- litter i

abbrev pub group_in : List ℕ → ℕ → ℕ
group_in b i = word_at b (12 * i)

abbrev pub successes_in : List ℕ → ℕ → ℕ
successes_in b i = word_at b (12 * i + 4)

abbrev pub total_in : List ℕ → ℕ → ℕ
total_in b i = word_at b (12 * i + 8)

abbrev pub record_in : List ℕ → ℕ → Litter
record_in b i = record { successes = successes_in b i; total = total_in b i; group = group_in b i }

abbrev pub valid_of : List ℕ → ℕ → Bool
valid_of b i = valid_litter_of (successes_in b i) (total_in b i) (group_in b i)

-- ---- the whole

-- the bytes of an archive of n litters
unfoldable pub size_of : ℕ → ℕ
size_of n = 12 * n + 32 * (n / 64) + 12

-- the trailer: how many litters, the byte of the first totals, the byte of the first litter
abbrev pub count_in : List ℕ → ℕ
count_in b = word_at b (length b - 12)

abbrev pub totals_byte_in : List ℕ → ℕ
totals_byte_in b = word_at b (length b - 8)

abbrev pub litter_byte_in : List ℕ → ℕ
litter_byte_in b = word_at b (length b - 4)

-- what the trailer says is so: at most 4,096 litters, the length that they have, and both bytes
abbrev pub trailer_holds_of : List ℕ → Bool
trailer_holds_of b = leb (count_in b) 4096 && (eqb (length b) (size_of (count_in b)) && (eqb (totals_byte_in b) (12 * count_in b) && eqb (litter_byte_in b) 0))

unfoldable pub shaped_of : List ℕ → Bool
shaped_of b = leb 12 (length b) && trailer_holds_of b
