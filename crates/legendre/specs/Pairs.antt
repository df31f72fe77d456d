-- The sixteen pairs by their bits, from the first node, 0.989.., down to the last, -0.989..
use Rattle.std.specs.Prelude.{◌≡◌, refl, List, [], ◌∷◌, ℕ}
use Rattle.std.specs.Float.Ieee.{add, sub, mul, div, neg, lt, le, of_bits, of_int, to_bits}
use Rattle.num.specs.Fold.{fold_from}
use Rattle.num.specs.Values.{values}
use Rattle.num.specs.F64.{bits}
use Rattle.num.specs.Helpers.{abs_of}
use Rattle.elementary.specs.Cos.{cos_of}
use Rattle.legendre.specs.declared.Pair.{Pair}
use Rattle.legendre.specs.Legendre.{recurrence_of, newton_from, newton_of, node_and_weight_of, legendre_of}

-- a node and its weight
abbrev pub pair : ℕ → ℕ → Pair
pair x w = record { x = bits x; w = bits w }

unfoldable pub table : List Pair
table =
    pair 0x3fef_a92c_264d_787e 0x3f9b_cdda_b4b7_c206
    ∷ pair 0x3fee_39f5_6616_f9b0 0x3faf_dfb1_a2c1_264c
    ∷ pair 0x3feb_b340_3514_e483 0x3fb8_5c4e_e79c_c260
    ∷ pair 0x3fe8_2c45_dda4_726b 0x3fbf_e7af_2bad_386f
    ∷ pair 0x3fe3_c5a4_66d5_e8b8 0x3fc3_25f6_1bca_3cc2
    ∷ pair 0x3fdd_5025_9a43_a772 0x3fc5_a6eb_bb5a_75fd
    ∷ pair 0x3fd2_05ca_e642_337c 0x3fc7_5f8c_77e0_c010
    ∷ pair 0x3fb8_52bd_6676_a9f9 0x3fc8_3fea_e80e_4dfb
    ∷ pair 0xbfb8_52bd_6676_a9f9 0x3fc8_3fea_e80e_4dfb
    ∷ pair 0xbfd2_05ca_e642_337c 0x3fc7_5f8c_77e0_c010
    ∷ pair 0xbfdd_5025_9a43_a772 0x3fc5_a6eb_bb5a_75fd
    ∷ pair 0xbfe3_c5a4_66d5_e8b8 0x3fc3_25f6_1bca_3cc2
    ∷ pair 0xbfe8_2c45_dda4_726b 0x3fbf_e7af_2bad_386f
    ∷ pair 0xbfeb_b340_3514_e483 0x3fb8_5c4e_e79c_c260
    ∷ pair 0xbfee_39f5_6616_f9b0 0x3faf_dfb1_a2c1_264c
    ∷ pair 0xbfef_a92c_264d_787e 0x3f9b_cdda_b4b7_c206
    ∷ []

-- antt computes both sides
pub pairs_are : legendre_of ≡ table
unfolding table fold_from recurrence_of newton_from newton_of node_and_weight_of values legendre_of cos_of abs_of add sub mul div neg lt le of_bits of_int to_bits
pairs_are = refl
