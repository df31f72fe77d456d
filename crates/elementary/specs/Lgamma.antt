-- The logarithm of the gamma function above zero, step by step.
use Rattle.std.specs.Prelude.{List, [], ◌∷◌, cond, ℕ, zero, suc, Float}
use Rattle.std.specs.Float.{nan}
use Rattle.std.specs.Float.Ieee.{lt, le, eq}
use Rattle.num.specs.F64.{◌⊕◌, ◌⊖◌, ◌⊗◌, ◌⊘◌, bits, bits_of, zero·, half·, one·, infinity·}
use Rattle.elementary.specs.declared.lgamma.Factors.{Factors}
use Rattle.elementary.specs.Series.{series}
use Rattle.elementary.specs.Log.{log_of, log_parts, log_bias}

-- (log 2π - 1) / 2
abbrev pub lgam_c : Float
lgam_c = bits 0x3fda_cfe3_90c9_7d69

-- Stirling's series: 1/12, -1/360, 1/1260, -1/1680, 1/1188
abbrev pub stir0 : Float
stir0 = bits 0x3fb5_5555_5555_5555

abbrev pub stir1 : Float
stir1 = bits 0xbf66_c16c_16c1_6c17

abbrev pub stir2 : Float
stir2 = bits 0x3f4a_01a0_1a01_a01a

abbrev pub stir3 : Float
stir3 = bits 0xbf43_8138_1381_3814

abbrev pub stir4 : Float
stir4 = bits 0x3f4b_951e_2b18_ff23

-- 1.5 · 2^26: added and taken away again it rounds to a multiple of 2^-26
abbrev pub lgam_m : Float
lgam_m = bits 0x4198_0000_0000_0000

-- lgamma (1 + y) / (y (y - 1)) in powers of y - 1/2
abbrev pub lgamma_series : List Float
lgamma_series =
    bits 0x3fde_eb95_b094_c191
    ∷ bits 0xbfc2_aed0_59bd_608a
    ∷ bits 0x3fb0_1af6_2a29_2b2d
    ∷ bits 0xbfa0_07aa_83ce_e190
    ∷ bits 0x3f91_3342_3526_0640
    ∷ bits 0xbf83_4dbd_a149_c4cc
    ∷ bits 0x3f76_4f06_65f5_0076
    ∷ bits 0xbf6a_5035_22e7_ac85
    ∷ bits 0x3f5f_814b_43f0_1339
    ∷ bits 0xbf53_13e8_b0ec_fab2
    ∷ bits 0x3f47_50b2_1f9b_e1b1
    ∷ bits 0xbf3c_b44b_04de_6e70
    ∷ bits 0x3f31_c736_7657_bcfb
    ∷ bits 0xbf26_2423_c774_6779
    ∷ bits 0x3f1b_ac45_9e11_47e1
    ∷ bits 0xbf11_5486_af62_c867
    ∷ bits 0x3f06_3621_bb5d_52cc
    ∷ bits 0xbefc_a214_7971_4655
    ∷ bits 0x3eee_1f59_fa71_cf80
    ∷ bits 0xbee1_1eb0_b9e2_ee86
    ∷ bits 0x3ee7_9434_b939_6273
    ∷ bits 0xbee0_9695_0ae1_5eb6
    ∷ []

abbrev pub lgamma_poly : Float → Float
lgamma_poly w = series lgamma_series w

-- the factors y, y - 1, .. above 1, at most n of them, with the product p so far
unfoldable pub product_from : ℕ → Float → Float → Factors
product_from zero y p = record { p = p; y = y }
product_from (suc n) y p = cond (le y one·) (record { p = p; y = y }) (product_from n (y ⊖ one·) (p ⊗ y))

unfoldable pub product_of : Float → Factors
product_of x = product_from 22 (x ⊖ one·) one·

-- lgamma x is lgamma (1 + x) less log x
unfoldable pub lgamma_below_one : Float → Float
lgamma_below_one x = cond (lt zero· x) ((x ⊗ (x ⊖ one·)) ⊗ lgamma_poly (x ⊖ half·) ⊖ log_of x) (cond (eq x zero·) infinity· nan)

-- a whole x leaves y at 1, or at 0 where x is 1: the product is the factorial itself, and exact
unfoldable pub lgamma_by_product : Float → Float
lgamma_by_product x =
    let f = product_of x in
    let l = log_of f.p in
    cond (eq f.y one·) l (cond (eq f.y zero·) l (l ⊕ (f.y ⊗ (f.y ⊖ one·)) ⊗ lgamma_poly (f.y ⊖ half·)))

-- (x - 1/2) (log x - 1) + (log 2π - 1) / 2 + 1/12x - .., with log x in two parts; the product with the part that is a multiple of 2^-26 is exact at a whole x below 2^22
abbrev pub lgamma_by_stirling : Float → Float → Float → Float
lgamma_by_stirling x hi lo =
    let a = x ⊖ half· in
    let h = hi ⊖ one· in
    let hs = (h ⊕ lgam_m) ⊖ lgam_m in
    let hl = h ⊖ hs in
    let u = one· ⊘ x in
    let w = u ⊗ series (stir0 ∷ stir1 ∷ stir2 ∷ stir3 ∷ stir4 ∷ []) (u ⊗ u) in
    a ⊗ hs ⊕ (a ⊗ (hl ⊕ lo) ⊕ (lgam_c ⊕ w))

-- a NaN fails every test, and so does plus infinity
unfoldable pub lgamma_of : Float → Float
lgamma_of x =
    let l = log_parts (bits_of x) log_bias in
    cond (lt x one·) (lgamma_below_one x)
    (cond (lt x (bits 0x4037_8000_0000_0000)) (lgamma_by_product x)
    (cond (lt x infinity·) (lgamma_by_stirling x l.hi l.lo) x))
