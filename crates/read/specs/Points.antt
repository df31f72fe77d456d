-- Example A (docs/FORMAT.md) and texts beside it, as antt computes them from the definitions.
use Rattle.std.specs.Prelude.{◌≡◌, refl, List, [], ◌∷◌, ◌++◌, ℕ}
use Prim.Native.String.{String}
use Rattle.std.specs.Int.Count.{count_trailing_zeros}
use Rattle.std.specs.Float.Ieee.{span, climb, size, odd, units, round, to_bits}
use Rattle.template.specs.Digits.{digits, places_from}
use Rattle.template.specs.Template.{ascii, render}
use Rattle.template.specs.Field.{read_hex, read_more, read_count, read_byte}
use Rattle.template.specs.Decimal.{read_run, decimal_bits, read_unsigned, read_decimal, read_value}
use Rattle.template.specs.Read.{read_field, read}
use Rattle.read.specs.Request.{head, litter, closing, asked, form, render_litters, render_request, read_rows, read_request}

-- LF after every line
abbrev pub text : List String → List ℕ
text [] = []
text (l ∷ ls) = ascii l ++ (10 ∷ text ls)

-- example A but for its second line, its work line and what follows the litters
abbrev pub like_a : String → String → String → List ℕ
like_a mean work end =
    text
    ("probit-request 1" ∷
    mean ∷
    "mean 1 bff0000000000000 3ff0000000000000 0000000000000000" ∷
    "sd 0 0000000000000000 3ff0000000000000 0000000000000000" ∷
    "sd 1 0000000000000000 3ff0000000000000 0000000000000000" ∷
    work ∷
    "tolerance 3eb0000000000000" ∷
    "litter 0 1 2" ∷
    "litter 0 1 2" ∷
    "litter 1 1 2" ∷
    "litter 1 1 2" ∷
    [])
    ++ ascii end

abbrev pub mean_a : String
mean_a = "mean 0 bff0000000000000 3ff0000000000000 0000000000000000"

abbrev pub example_a : List ℕ
example_a = like_a mean_a "work 10 10 4" "rows 4 at 285\n"

abbrev pub values_a : ℕ → List ℕ
values_a iterations =
    0xbff0_0000_0000_0000 ∷ 0x3ff0_0000_0000_0000 ∷ 0 ∷ 0xbff0_0000_0000_0000 ∷ 0x3ff0_0000_0000_0000 ∷ 0 ∷
    0 ∷ 0x3ff0_0000_0000_0000 ∷ 0 ∷ 0 ∷ 0x3ff0_0000_0000_0000 ∷ 0 ∷ 10 ∷ iterations ∷ 4 ∷ 0x3eb0_0000_0000_0000 ∷ []

abbrev pub litters_a : List (List ℕ)
litters_a = (0 ∷ 1 ∷ 2 ∷ []) ∷ (0 ∷ 1 ∷ 2 ∷ []) ∷ (1 ∷ 1 ∷ 2 ∷ []) ∷ (1 ∷ 1 ∷ 2 ∷ []) ∷ []

pub example_a_rendered : render_request (values_a 10) litters_a ≡ example_a
unfolding render_request render_litters render head litter closing digits places_from
example_a_rendered = refl

-- with no iterations the work line is a byte shorter
pub example_a_read : (read_request example_a ≡ asked (values_a 10) litters_a) × (read_request (like_a mean_a "work 10 0 4" "rows 4 at 284\n") ≡ asked (values_a 0) litters_a)
unfolding read_request read_rows read read_field read_byte read_count read_more read_hex read_value read_decimal read_unsigned read_run head litter closing
example_a_read = (refl, refl)

-- an upper-case digit; a zero in front; 2^32; another start; another number of litters; no LF; no last line; a line after the last; no text
pub departures :
    (read_request (like_a "mean 0 BFF0000000000000 3ff0000000000000 0000000000000000" "work 10 10 4" "rows 4 at 285\n") ≡ form 2)
    × (read_request (like_a mean_a "work 010 10 4" "rows 4 at 286\n") ≡ form 6)
    × (read_request (like_a mean_a "work 4294967296 10 4" "rows 4 at 293\n") ≡ form 6)
    × (read_request (like_a mean_a "work 10 10 4" "rows 4 at 284\n") ≡ form 12)
    × (read_request (like_a mean_a "work 10 10 4" "rows 3 at 285\n") ≡ form 12)
    × (read_request (like_a mean_a "work 10 10 4" "rows 4 at 285") ≡ form 12)
    × (read_request (like_a mean_a "work 10 10 4" "") ≡ form 12)
    × (read_request (like_a mean_a "work 10 10 4" "rows 4 at 285\nlitter 1 1 2\n") ≡ form 13)
    × (read_request [] ≡ form 1)
unfolding read_request read_rows read read_field read_byte read_count read_more read_hex read_value read_decimal read_unsigned read_run head litter closing
departures = (refl, refl, refl, refl, refl, refl, refl, refl, refl)

-- ---- decimals

-- example A in decimals, where they have at most seventeen digits
abbrev pub example_a_decimals : List ℕ
example_a_decimals =
    text
    ("probit-request 1" ∷
    "mean 0 -1.0 1.0 0.0" ∷
    "mean 1 -1.0 1.0 0.0" ∷
    "sd 0 0.0 1.0 0.0" ∷
    "sd 1 0.0 1.0 0.0" ∷
    "work 10 10 4" ∷
    "tolerance 3eb0000000000000" ∷
    "litter 0 1 2" ∷
    "litter 0 1 2" ∷
    "litter 1 1 2" ∷
    "litter 1 1 2" ∷
    "rows 4 at 131" ∷
    [])

-- it asks the same as the other text
pub example_a_decimals_read : read_request example_a_decimals ≡ asked (values_a 10) litters_a
unfolding read_request read_rows read read_field read_byte read_count read_more read_hex read_value read_decimal read_unsigned read_run decimal_bits round units size span climb odd count_trailing_zeros to_bits head litter closing
example_a_decimals_read = refl

-- no digit behind the point; none before it; an exponent; a second point; eighteen digits; a minus before hexadecimals
pub decimals_depart :
    (read_request (like_a "mean 0 -1. 1.0 0.0" "work 10 10 4" "rows 4 at 246\n") ≡ form 2)
    × (read_request (like_a "mean 0 -.5 1.0 0.0" "work 10 10 4" "rows 4 at 246\n") ≡ form 2)
    × (read_request (like_a "mean 0 -1.0e0 1.0 0.0" "work 10 10 4" "rows 4 at 249\n") ≡ form 2)
    × (read_request (like_a "mean 0 -1.0.0 1.0 0.0" "work 10 10 4" "rows 4 at 249\n") ≡ form 2)
    × (read_request (like_a "mean 0 -1.00000000000000000 1.0 0.0" "work 10 10 4" "rows 4 at 263\n") ≡ form 2)
    × (read_request (like_a "mean 0 -1.0 1.0 -3fb999999999999a" "work 10 10 4" "rows 4 at 261\n") ≡ form 2)
unfolding read_request read_rows read read_field read_byte read_count read_more read_hex read_value read_decimal read_unsigned read_run decimal_bits round units size span climb odd count_trailing_zeros to_bits head litter closing
decimals_depart = (refl, refl, refl, refl, refl, refl)
