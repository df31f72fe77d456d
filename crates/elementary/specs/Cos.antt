-- The cosine, step by step: a sine from the nearest odd multiple of π / 2.
use Rattle.std.specs.Prelude.{[], ◌∷◌, cond, ◌%◌, eqb, Float}
use Rattle.std.specs.Float.{nan}
use Rattle.std.specs.Float.Ieee.{neg, lt}
use Rattle.num.specs.F64.{◌⊕◌, ◌⊖◌, ◌⊗◌, bits, bits_of, half·}
use Rattle.num.specs.Helpers.{abs_of}
use Rattle.elementary.specs.Series.{series}

-- 1 / π
abbrev pub cos_invpi : Float
cos_invpi = bits 0x3fd4_5f30_6dc9_c883

-- 1.5 · 2^52: added to a number it rounds that to a whole n, and whether n is odd stands in the sum's last bit
abbrev pub cos_m : Float
cos_m = bits 0x4338_0000_0000_0000

-- the sum from which there is no answer, cos-m and 262144: x is about 262144 π there
abbrev pub cos_end : Float
cos_end = bits 0x4338_0000_0004_0000

-- π in three parts
abbrev pub cos_p1 : Float
cos_p1 = bits 0x4009_21fb_5440_0000

abbrev pub cos_p2 : Float
cos_p2 = bits 0x3de0_b461_1a60_0000

abbrev pub cos_p3 : Float
cos_p3 = bits 0x3bb3_198a_2e03_7073

-- 1 / n!, with alternating signs
abbrev pub sin3 : Float
sin3 = bits 0xbfc5_5555_5555_5555

abbrev pub sin5 : Float
sin5 = bits 0x3f81_1111_1111_1111

abbrev pub sin7 : Float
sin7 = bits 0xbf2a_01a0_1a01_a01a

abbrev pub sin9 : Float
sin9 = bits 0x3ec7_1de3_a556_c734

abbrev pub sin11 : Float
sin11 = bits 0xbe5a_e645_67f5_44e4

abbrev pub sin13 : Float
sin13 = bits 0x3de6_1246_13a8_6d09

abbrev pub sin15 : Float
sin15 = bits 0xbd6a_e7f3_e733_b81f

abbrev pub sin17 : Float
sin17 = bits 0x3ce9_52c7_7030_ad4a

abbrev pub sin19 : Float
sin19 = bits 0xbc62_f49b_4681_4157

abbrev pub sin21 : Float
sin21 = bits 0x3bd7_1b8e_f6dc_f572

abbrev pub sin23 : Float
sin23 = bits 0xbb47_61b4_1316_381a

-- y + y³ (S3 + S5 y² + ..)
abbrev pub sin_near_of : Float → Float
sin_near_of y =
    let z = y ⊗ y in
    let s = series (sin3 ∷ sin5 ∷ sin7 ∷ sin9 ∷ sin11 ∷ sin13 ∷ sin15 ∷ sin17 ∷ sin19 ∷ sin21 ∷ sin23 ∷ []) z in
    y ⊕ (y ⊗ z) ⊗ s

-- m is n + 1/2 for the n that puts m π nearest; cos a is -sin (a - m π) for an even n. Past the end, and for a NaN, the answer is NaN.
unfoldable pub cos_of : Float → Float
cos_of x =
    let a = abs_of x in
    let v = a ⊗ cos_invpi in
    let w = (v ⊖ half·) ⊕ cos_m in
    let m = (w ⊖ cos_m) ⊕ half· in
    let b = sin_near_of (((a ⊖ m ⊗ cos_p1) ⊖ m ⊗ cos_p2) ⊖ m ⊗ cos_p3) in
    cond (lt w cos_end) (cond (eqb (bits_of w % 2) 0) (neg b) b) nan
