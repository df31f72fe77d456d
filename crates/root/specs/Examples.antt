-- The root of 2: to ten digits, where 724² and 112 are 2 · 4^9, and as an f64. The root of the smallest f64, which is a subnormal.
use Rattle.std.specs.Prelude.{◌≡◌, refl, ◌^◌}
use Rattle.std.specs.Int.Count.{count_leading_zeros}
use Rattle.std.specs.Float.{binary64}
use Rattle.std.specs.Float.Ieee.{lt, of_bits, to_bits, of_fields, odd}
use Rattle.num.specs.F64.{bits}
use Rattle.root.specs.Steps.{start_of, pencil_from, pencil_of, sqrt_of}

pub ten_digits_of_two : pencil_from 10 (start_of (2 ^ 53)) ≡ record { coming = 0; down = 0; brought = 112; trial = 1449; digit = 0; rest = 112; root = 724 }
unfolding pencil_from
ten_digits_of_two = refl

pub root_of_two : to_bits binary64 (sqrt_of (bits 0x4000_0000_0000_0000)) ≡ 0x3ff6_a09e_667f_3bcd
unfolding sqrt_of pencil_of pencil_from count_leading_zeros lt of_bits of_fields odd to_bits
root_of_two = refl

pub root_of_the_least : to_bits binary64 (sqrt_of (bits 1)) ≡ 0x1e60_0000_0000_0000
unfolding sqrt_of pencil_of pencil_from count_leading_zeros lt of_bits of_fields odd to_bits
root_of_the_least = refl
