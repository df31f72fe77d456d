-- The complementary error function, step by step. A NaN comes through the tail.
use Rattle.std.specs.Prelude.{List, [], ◌∷◌, Bool, cond, ℕ, ◌%◌, Float}
use Rattle.std.specs.Float.Ieee.{neg, lt, ne}
use Rattle.num.specs.F64.{◌⊕◌, ◌⊖◌, ◌⊗◌, ◌⊘◌, bits, bits_of, zero·, one·, two·, six·}
use Rattle.tables.specs.declared.erfc.ErfcRow.{ErfcRow}
use Rattle.tables.specs.Erfc.{erfc_row_of}
use Rattle.elementary.specs.Series.{series}
use Rattle.elementary.specs.Exp.{exp_low}

-- 1.5 · 2^48: added to a number it rounds that to j / 16, and j stands in the sum's last 7 bits; and the sum from which no row serves, 5.75 more
abbrev pub erfc_m : Float
erfc_m = bits 0x42f8_0000_0000_0000

abbrev pub erfc_end : Float
erfc_end = bits 0x42f8_0000_0000_005c

-- 1.5 · 2^33: added and taken away again it rounds to a multiple of 2^-19, whose square is exact
abbrev pub tail_m : Float
tail_m = bits 0x4208_0000_0000_0000

-- t exp(t²) erfc t in powers of 1 / t²
abbrev pub erfc_series : List Float
erfc_series =
    bits 0x3fe2_0dd7_5042_9b6d
    ∷ bits 0xbfd2_0dd7_5042_9a6a
    ∷ bits 0x3fdb_14c2_f860_f5a7
    ∷ bits 0xbff0_ecf9_da16_6fee
    ∷ bits 0x400d_9eb4_b1b8_9c2a
    ∷ bits 0xc030_a93a_bf23_b2ea
    ∷ bits 0x4056_e788_3e1b_5218
    ∷ bits 0xc082_9118_573a_1f96
    ∷ bits 0x40b1_1df7_2e0b_f9b6
    ∷ bits 0xc0e0_d266_8955_82da
    ∷ bits 0x410f_1a82_867c_55b2
    ∷ bits 0xc136_120a_ea47_5fa0
    ∷ bits 0x4150_aa60_339e_9922
    ∷ []

-- around the row's centre: its value and h (a1 + a2 h + .. + a11 h^10)
abbrev pub erfc_at_row : ErfcRow → Float → Float
erfc_at_row row a =
    let h = a ⊖ row.centre in
    let h2 = h ⊗ h in
    let h4 = h2 ⊗ h2 in
    let p = (row.a1 ⊕ h ⊗ row.a2) ⊕ h2 ⊗ (row.a3 ⊕ h ⊗ row.a4) in
    let q = (row.a5 ⊕ h ⊗ row.a6) ⊕ h2 ⊗ (row.a7 ⊕ h ⊗ row.a8) in
    let s = (row.a9 ⊕ h ⊗ row.a10) ⊕ h2 ⊗ row.a11 in
    row.value ⊕ h ⊗ ((p ⊕ h4 ⊗ q) ⊕ (h4 ⊗ h4) ⊗ s)

abbrev pub erfc_by_series : Float → Float
erfc_by_series u = series erfc_series u

-- exp(-a²) by exp(-z²) and exp(z² - a²), where z is a to a multiple of 2^-19
unfoldable pub erfc_tail : Float → Float
erfc_tail a =
    let z = (a ⊕ tail_m) ⊖ tail_m in
    let g = (z ⊖ a) ⊗ (z ⊕ a) in
    let s = erfc_by_series (one· ⊘ (a ⊗ a)) in
    cond (lt a (bits 0x403c_0000_0000_0000)) (exp_low (neg (z ⊗ z)) g ⊗ (s ⊘ a)) (cond (ne a a) a zero·)

-- of an a that is not below zero
unfoldable pub erfc_pos_of : Float → Float
erfc_pos_of a = let w = a ⊕ erfc_m in cond (lt w erfc_end) (erfc_at_row (erfc_row_of (bits_of w % 128)) a) (erfc_tail a)

unfoldable pub erfc_of : Float → Float
erfc_of x = cond (lt x (neg six·)) two· (cond (lt x zero·) (two· ⊖ erfc_pos_of (neg x)) (erfc_pos_of x))

-- for many numbers at once: whether a row serves an a, and its place, or 0 where none does
abbrev pub erfc_has_row : Float → Bool
erfc_has_row a = lt (a ⊕ erfc_m) erfc_end

unfoldable pub erfc_place : Float → ℕ
erfc_place a = cond {A = ℕ} (erfc_has_row a) (bits_of (a ⊕ erfc_m) % 128) 0
