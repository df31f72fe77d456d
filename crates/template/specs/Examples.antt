-- Templates with their values, and texts where an f64 is asked for, computed: the smallest and the largest counts, bits, what is read and what is refused.
use Rattle.std.specs.Prelude.{◌≡◌, refl, Bool, true, cond, ◌&&◌, List, [], ◌∷◌, ℕ, ◌+◌, T, eqb}
use Prim.Native.String.{String}
use Rattle.std.specs.Int.Count.{count_trailing_zeros}
use Rattle.std.specs.Float.Ieee.{span, climb, size, odd, units, round, to_bits}
use Rattle.template.specs.Digits.{digits, places_from}
use Rattle.template.specs.Template.{ascii, first, render}
use Rattle.template.specs.Field.{Field, found, departs, read_hex}
use Rattle.template.specs.Decimal.{read_run, decimal_bits, read_unsigned, read_decimal, read_value}

counts : render (ascii "# # #\n") (0 ∷ 20000000 ∷ 18446744073709551615 ∷ []) ≡ ascii "0 20000000 18446744073709551615\n"
unfolding render digits places_from
counts = refl

bits : render (ascii "%\n%\n") (0x7ff8_0000_0000_0000 ∷ 0xbfa1_b2c3_d4e5_f607 ∷ []) ≡ ascii "7ff8000000000000\nbfa1b2c3d4e5f607\n"
unfolding render digits places_from
bits = refl

-- a value that is not there is 0
short : render (ascii "#%") [] ≡ ascii "00000000000000000"
unfolding render digits places_from
short = refl

-- ---- an f64 before the end of a line: its bits and one more, or 0 where the text is refused

abbrev got : Field → ℕ
got departs = 0
got (found v t) = cond (eqb (first t) 10) (v + 1) 0

abbrev is : String → ℕ → Bool
is s v = eqb (got (read_value (ascii s))) (v + 1)

abbrev refused : String → Bool
refused s = eqb (got (read_value (ascii s))) 0

abbrev all : List Bool → Bool
all [] = true
all (b ∷ bs) = b && all bs

-- a tenth in both spellings; both zeros; ties between two f64s, to the even one below and above; seventeen digits, the first sixteen of which begin like hexadecimals
values :
    T
    (all
    (is "3fb999999999999a\n" 0x3fb9_9999_9999_999a ∷
    is "0.1\n" 0x3fb9_9999_9999_999a ∷
    is "00.10\n" 0x3fb9_9999_9999_999a ∷
    is "0.0\n" 0 ∷
    is "-0.00\n" 0x8000_0000_0000_0000 ∷
    is "-2.5\n" 0xc004_0000_0000_0000 ∷
    is "9007199254740993.0\n" 0x4340_0000_0000_0000 ∷
    is "9007199254740995.0\n" 0x4340_0000_0000_0002 ∷
    is "4503599627370497.5\n" 0x4330_0000_0000_0002 ∷
    is "1234567890123456.7\n" 0x4311_8b54_f22a_eb03 ∷
    is "0.0000000000000001\n" 0x3c9c_d2b2_97d8_89bc ∷
    []))
unfolding read_value read_decimal read_unsigned read_run read_hex decimal_bits round units size span climb odd count_trailing_zeros to_bits
values = tt

refusals :
    T
    (all
    (refused "1.\n" ∷
    refused ".5\n" ∷
    refused "-.5\n" ∷
    refused "+1.0\n" ∷
    refused "--1.0\n" ∷
    refused "1e3\n" ∷
    refused "1.0e3\n" ∷
    refused "1.0.0\n" ∷
    refused "1\n" ∷
    refused "inf\n" ∷
    refused "-3fb999999999999a\n" ∷
    refused "3fb999999999999a.0\n" ∷
    refused "0.00000000000000001\n" ∷
    refused "12345678901234567.0\n" ∷
    refused "123456789.123456789\n" ∷
    []))
unfolding read_value read_decimal read_unsigned read_run read_hex decimal_bits round units size span climb odd count_trailing_zeros to_bits
refusals = tt
