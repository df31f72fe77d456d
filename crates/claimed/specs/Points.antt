-- Example A with a claim behind it, and texts beside it, as antt computes them from the definitions.
use Rattle.std.specs.Prelude.{◌≡◌, refl, [], ◌∷◌, ◌++◌}
use Prim.Native.String.{String}
use Rattle.std.specs.Int.Count.{count_trailing_zeros}
use Rattle.std.specs.Float.Ieee.{span, climb, size, odd, units, round, to_bits}
use Rattle.template.specs.Field.{read_hex, read_more, read_count, read_byte}
use Rattle.template.specs.Decimal.{read_run, decimal_bits, read_unsigned, read_decimal, read_value}
use Rattle.template.specs.Read.{read_field, read}
use Rattle.read.specs.Request.{head, litter, closing, read_rows, read_request}
use Rattle.read.specs.Points.{text, like_a, mean_a, example_a, values_a, litters_a}
use Rattle.claimed.specs.Claimed.{claims, departed, claim, claim_at_of, read_claimed}

abbrev mean : String
mean = "claim mean 0.0 -0.0"

abbrev variance : String
variance = "claim variance 0000000000000000 0.0"

abbrev nll : String
nll = "claim nll 40062e42fefa39ef"

pub example_a_claimed : read_claimed (example_a ++ text (mean ∷ variance ∷ nll ∷ [])) ≡ claims (values_a 10) litters_a (0 ∷ 0x8000_0000_0000_0000 ∷ 0 ∷ 0 ∷ 0x4006_2e42_fefa_39ef ∷ [])
unfolding read_claimed claim_at_of claim read_request read_rows read read_field read_byte read_count read_more read_hex read_value read_decimal read_unsigned read_run decimal_bits round units size span climb odd count_trailing_zeros to_bits head litter closing
example_a_claimed = refl

-- no claim; a line of it missing, each of the three; a line after it; no request; a request without its last line; one that goes on after its last line
pub departures :
    (read_claimed example_a ≡ departed 13)
    × (read_claimed (example_a ++ text (variance ∷ nll ∷ [])) ≡ departed 13)
    × (read_claimed (example_a ++ text (mean ∷ nll ∷ [])) ≡ departed 14)
    × (read_claimed (example_a ++ text (mean ∷ variance ∷ [])) ≡ departed 15)
    × (read_claimed (example_a ++ text (mean ∷ variance ∷ nll ∷ nll ∷ [])) ≡ departed 16)
    × (read_claimed (text (mean ∷ variance ∷ nll ∷ [])) ≡ departed 1)
    × (read_claimed (like_a mean_a "work 10 10 4" "" ++ text (mean ∷ variance ∷ nll ∷ [])) ≡ departed 12)
    × (read_claimed (like_a mean_a "work 10 10 4" "rows 4 at 285\nlitter 1 1 2\n" ++ text (mean ∷ variance ∷ nll ∷ [])) ≡ departed 13)
unfolding read_claimed claim_at_of claim read_request read_rows read read_field read_byte read_count read_more read_hex read_value read_decimal read_unsigned read_run decimal_bits round units size span climb odd count_trailing_zeros to_bits head litter closing
departures = (refl, refl, refl, refl, refl, refl, refl, refl)
