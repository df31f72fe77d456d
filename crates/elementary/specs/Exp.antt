-- The exponential, step by step. A NaN fails both tests of `exp_of`, and comes through the series.
use Rattle.std.specs.Prelude.{cond, ℕ, ◌+◌, ◌-◌, ◌*◌, ◌/◌, ◌%◌, ◌^◌, ltb, Float}
use Rattle.std.specs.Float.Ieee.{neg, lt}
use Rattle.num.specs.F64.{◌⊕◌, ◌⊖◌, ◌⊗◌, bits, bits_of, zero·, one·, infinity·}
use Rattle.tables.specs.declared.exp.ExpRow.{ExpRow}
use Rattle.tables.specs.Exp.{exp_row_of}

-- 64 / ln 2
abbrev pub exp_inv : Float
exp_inv = bits 0x4057_1547_652b_82fe

-- 1.5 · 2^52 + 131072: added to a number it rounds that to a whole n, and n + 131072 stands in the sum's last 18 bits
abbrev pub exp_m : Float
exp_m = bits 0x4338_0000_0002_0000

-- outer cuts: from the first sum on the result is infinite in any case, up to the second it is zero
abbrev pub exp_high : Float
exp_high = bits 0x4338_0000_0003_0040

abbrev pub exp_low_bound : Float
exp_low_bound = bits 0x4338_0000_0000_f2c0

-- ln 2 / 64 in two parts
abbrev pub exp_l1 : Float
exp_l1 = bits 0x3f86_2e42_fefa_0000

abbrev pub exp_l2 : Float
exp_l2 = bits 0x3d1c_f79a_bc9e_3b3a

-- exp r - 1 - r, from r² on
abbrev pub exp_c2 : Float
exp_c2 = bits 0x3fdf_ffff_ffff_daef

abbrev pub exp_c3 : Float
exp_c3 = bits 0x3fc5_5555_5555_48a0

abbrev pub exp_c4 : Float
exp_c4 = bits 0x3fa5_5557_4119_d698

abbrev pub exp_c5 : Float
exp_c5 = bits 0x3f81_1112_3e25_e104

-- 1 / n!
abbrev pub fact2 : Float
fact2 = bits 0x3fe0_0000_0000_0000

abbrev pub fact3 : Float
fact3 = bits 0x3fc5_5555_5555_5555

abbrev pub fact4 : Float
fact4 = bits 0x3fa5_5555_5555_5555

abbrev pub fact5 : Float
fact5 = bits 0x3f81_1111_1111_1111

abbrev pub fact6 : Float
fact6 = bits 0x3f56_c16c_16c1_6c17

abbrev pub fact7 : Float
fact7 = bits 0x3f2a_01a0_1a01_a01a

abbrev pub fact8 : Float
fact8 = bits 0x3efa_01a0_1a01_a01a

abbrev pub fact9 : Float
fact9 = bits 0x3ec7_1de3_a556_c734

abbrev pub fact10 : Float
fact10 = bits 0x3e92_7e4f_b778_9f5c

abbrev pub fact11 : Float
fact11 = bits 0x3e5a_e645_67f5_44e4

abbrev pub fact12 : Float
fact12 = bits 0x3e21_eed8_eff8_d898

abbrev pub fact13 : Float
fact13 = bits 0x3de6_1246_13a8_6d09

abbrev pub fact14 : Float
fact14 = bits 0x3da9_3974_a8c0_7c9d

-- within 3/8 of zero: 1 + x + x² (P + x^8 Q), the power series to x^14 / 14!, with h + f for 1 + x
abbrev pub exp_small : Float → Float
exp_small x =
    let z = x ⊗ x in
    let z2 = z ⊗ z in
    let z4 = z2 ⊗ z2 in
    let p = ((fact2 ⊕ x ⊗ fact3) ⊕ z ⊗ (fact4 ⊕ x ⊗ fact5)) ⊕ z2 ⊗ ((fact6 ⊕ x ⊗ fact7) ⊕ z ⊗ (fact8 ⊕ x ⊗ fact9)) in
    let q = ((fact10 ⊕ x ⊗ fact11) ⊕ z ⊗ (fact12 ⊕ x ⊗ fact13)) ⊕ z2 ⊗ fact14 in
    let h = one· ⊕ x in
    let f = x ⊖ (h ⊖ one·) in
    h ⊕ (f ⊕ z ⊗ (p ⊕ z4 ⊗ q))

-- what is left of x beside n ln 2 / 64, where w is the sum of n and exp-m
abbrev pub exp_reduced : Float → Float → Float
exp_reduced x w = let n = w ⊖ exp_m in (x ⊖ n ⊗ exp_l1) ⊖ n ⊗ exp_l2

-- exp r - 1, and the row's rest with it
abbrev pub exp_poly : Float → Float → Float
exp_poly rest r = let z = r ⊗ r in ((rest ⊕ r) ⊕ z ⊗ (exp_c2 ⊕ r ⊗ exp_c3)) ⊕ (z ⊗ z) ⊗ (exp_c4 ⊕ r ⊗ exp_c5)

-- t (1 + p), the scale put on t first
abbrev pub exp_scaled : Float → Float → Float → Float
exp_scaled t scale p = let s = t ⊗ scale in s ⊕ s ⊗ p

-- near underflow and overflow 2^(e - 2048) is put on in two steps, the first of them exact; the two tests are never met (e is 971 to 3072) and keep the steps total
unfoldable pub exp_far : Float → Float → ℕ → Float
exp_far t p e =
    let a = e / 2 in
    let y = t ⊕ t ⊗ p in
    cond (ltb e 900) zero· (cond (ltb 3100 e) zero· ((y ⊗ bits ((a - 1) * 2 ^ 52)) ⊗ bits ((e - a - 1) * 2 ^ 52)))

-- 2^((m - 131072) / 64) exp r
unfoldable pub exp_finish : ℕ → Float → Float
exp_finish m r =
    let row = exp_row_of (m % 64) in
    let e = m / 64 in
    let p = exp_poly row.rest r in
    cond (ltb e 1100) (exp_far row.value p e) (cond (ltb 3070 e) (exp_far row.value p e) (exp_scaled row.value (bits ((e - 1025) * 2 ^ 52)) p))

abbrev pub exp_sum : Float → Float
exp_sum x = x ⊗ exp_inv ⊕ exp_m

-- n + 131072
abbrev pub exp_whole : Float → ℕ
exp_whole w = bits_of w % 262144

-- exp (x + lo) for an x below zero and a far smaller lo
unfoldable pub exp_low : Float → Float → Float
exp_low x lo = let w = exp_sum x in cond (lt exp_low_bound w) (exp_finish (exp_whole w) (exp_reduced x w ⊕ lo)) zero·

unfoldable pub exp_below : Float → Float
exp_below x = let w = exp_sum x in cond (lt exp_low_bound w) (exp_finish (exp_whole w) (exp_reduced x w)) zero·

unfoldable pub exp_above : Float → Float
exp_above x = let w = exp_sum x in cond (lt w exp_high) (exp_finish (exp_whole w) (exp_reduced x w)) infinity·

abbrev pub three_eighths : Float
three_eighths = bits 0x3fd8_0000_0000_0000

unfoldable pub exp_of : Float → Float
exp_of x = cond (lt x (neg three_eighths)) (exp_below x) (cond (lt three_eighths x) (exp_above x) (exp_small x))

-- For many numbers at once, in two parts with the table's row between them: a number's place, which is n + 131072, or 0 past a cut,
unfoldable pub exp_place : Float → ℕ
exp_place x = let w = exp_sum x in cond {A = ℕ} (lt exp_low_bound w) (cond {A = ℕ} (lt w exp_high) (exp_whole w) 0) 0

-- and the exponential by the place m and its row, where `exp_finish` does not go to `exp_far`; the scale is a number at any m
unfoldable pub exp_by_row : Float → ℕ → ExpRow → Float
exp_by_row x m row = exp_scaled row.value (bits ((m / 64 + 1023) % 2048 * 2 ^ 52)) (exp_poly row.rest (exp_reduced x (exp_sum x)))
