-- The natural logarithm, step by step.
use Rattle.std.specs.Prelude.{cond, ℕ, ◌+◌, ◌-◌, ◌*◌, ◌/◌, ◌%◌, ◌^◌, Float}
use Rattle.std.specs.Int.Count.{count_leading_zeros}
use Rattle.std.specs.Float.{nan}
use Rattle.std.specs.Float.Ieee.{neg, lt, eq}
use Rattle.num.specs.F64.{◌⊕◌, ◌⊖◌, ◌⊗◌, whole, bits, bits_of, zero·, infinity·}
use Rattle.tables.specs.declared.log.LogRow.{LogRow}
use Rattle.tables.specs.Log.{log_row_of}
use Rattle.elementary.specs.declared.log_parts.LogParts.{LogParts}

-- the bits where the range of the reduced number z begins, about 0.698, and the bits of 1 less those
abbrev pub log_off : ℕ
log_off = 0x3fe6_5555_0000_0000

abbrev pub log_d : ℕ
log_d = 0x0009_aaab_0000_0000

-- 1.5 · 2^10: added and taken away again it rounds to a multiple of 2^-42
abbrev pub log_m : Float
log_m = bits 0x4098_0000_0000_0000

-- ln 2 to a multiple of 2^-42, and the rest
abbrev pub log_l1 : Float
log_l1 = bits 0x3fe6_2e42_fefa_3800

abbrev pub log_l2 : Float
log_l2 = bits 0x3d2e_f357_93c7_6730

-- log (1 + p) - p, from p² on
abbrev pub log_c2 : Float
log_c2 = bits 0xbfe0_0000_0000_0039

abbrev pub log_c3 : Float
log_c3 = bits 0x3fd5_5555_5555_55e1

abbrev pub log_c4 : Float
log_c4 = bits 0xbfcf_ffff_febd_0445

abbrev pub log_c5 : Float
log_c5 = bits 0x3fc9_9999_9846_d1d0

abbrev pub log_c6 : Float
log_c6 = bits 0xbfc5_55d8_0c66_c7ab

abbrev pub log_c7 : Float
log_c7 = bits 0x3fc2_49a0_e4e3_5109

-- The number with the bits b, its exponent counted from sub, is z 2^k; its logarithm is k ln 2, the row's, and that of z / centre.
-- The sum of what is a multiple of 2^-42 is exact: that is `hi`, and `lo` is the rest. Of t, which is b + log-d, k is the exponent and frac the fraction.
abbrev pub log_exponent : ℕ → Float → Float
log_exponent t sub = whole (t / 2 ^ 52) ⊖ sub

abbrev pub log_at : Float → ℕ → LogRow → LogParts
log_at k frac row =
    let z = bits (frac + log_off) in
    let d = z ⊖ row.centre in
    let p = d ⊗ row.inverse in
    let rh = (p ⊕ log_m) ⊖ log_m in
    let rl = (d ⊖ rh ⊗ row.centre) ⊗ row.inverse in
    let q = p ⊗ p in
    let g = q ⊗ (((log_c2 ⊕ p ⊗ log_c3) ⊕ q ⊗ (log_c4 ⊕ p ⊗ log_c5)) ⊕ (q ⊗ q) ⊗ (log_c6 ⊕ p ⊗ log_c7)) in
    record { hi = (k ⊗ log_l1 ⊕ row.high) ⊕ rh; lo = ((k ⊗ log_l2 ⊕ row.low) ⊕ rl) ⊕ g }

-- the row for t
abbrev pub log_row_at : ℕ → LogRow
log_row_at t = log_row_of (t % 2 ^ 52 / 2 ^ 46)

unfoldable pub log_parts : ℕ → Float → LogParts
log_parts b sub = let t = b + log_d in log_at (log_exponent t sub) (t % 2 ^ 52) (log_row_at t)

abbrev pub log_sum : LogParts → Float
log_sum p = p.hi ⊕ p.lo

-- 1023, from which a normal number's exponent counts
abbrev pub log_bias : Float
log_bias = bits 0x408f_f800_0000_0000

-- below the least normal number: the significand is brought up by its leading zeros, and the exponent counts from so much more; its leading bit then stands as exponent field 1
unfoldable pub log_small : Float → Float
log_small x =
    let m = bits_of x % 2 ^ 52 in
    let s = count_leading_zeros 64 m - 11 in
    cond (lt zero· x) (log_sum (log_parts (m * 2 ^ s) (log_bias ⊕ whole s))) (cond (eq x zero·) (neg infinity·) nan)

-- 2^-1022, the least normal number
abbrev pub least_normal : Float
least_normal = bits 0x0010_0000_0000_0000

-- a NaN and plus infinity fail both tests
unfoldable pub log_of : Float → Float
log_of x = cond (lt x least_normal) (log_small x) (cond (lt x infinity·) (log_sum (log_parts (bits_of x) log_bias)) x)

-- For many numbers at once, in two parts with the table's row between them: a number's place, which is t, or 0 where `log_of` goes another way,
unfoldable pub log_place : Float → ℕ
log_place x = cond {A = ℕ} (lt x least_normal) 0 (cond {A = ℕ} (lt x infinity·) (bits_of x + log_d) 0)

-- and the logarithm by the place and its row
unfoldable pub log_by_row : ℕ → LogRow → Float
log_by_row t row = log_sum (log_at (log_exponent t log_bias) (t % 2 ^ 52) row)
