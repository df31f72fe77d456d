-- The table of `exp`, each number by its bits. Row i is for 2^(i/64): `value` is the nearest f64, and `rest` what its rounding lost, relative to it.
-- Written by tools/tables.py.
use Rattle.std.specs.Prelude.{List, [], ◌∷◌, ℕ, get_or}
use Rattle.num.specs.F64.{bits, zero·}
use Rattle.tables.specs.declared.exp.ExpRow.{ExpRow}

unfoldable pub exp_rows : List ExpRow
exp_rows =
    record { value = bits 0x3ff0_0000_0000_0000; rest = bits 0x0000_0000_0000_0000 } ∷
    record { value = bits 0x3ff0_2c9a_3e77_8061; rest = bits 0xbc71_6013_9cd8_dc5d } ∷
    record { value = bits 0x3ff0_59b0_d315_8574; rest = bits 0x3c8c_d252_3567_f613 } ∷
    record { value = bits 0x3ff0_8745_1875_9bc8; rest = bits 0x3c60_f74e_61e6_c861 } ∷
    record { value = bits 0x3ff0_b558_6cf9_890f; rest = bits 0x3c97_9aa6_5d83_7b6d } ∷
    record { value = bits 0x3ff0_e3ec_32d3_d1a2; rest = bits 0x3c3e_be3d_702f_9cd1 } ∷
    record { value = bits 0x3ff1_1301_d012_5b51; rest = bits 0xbc95_5652_2a2f_bd0e } ∷
    record { value = bits 0x3ff1_429a_aea9_2de0; rest = bits 0xbc91_c923_b9d5_f416 } ∷
    record { value = bits 0x3ff1_72b8_3c7d_517b; rest = bits 0xbc80_1b15_eaa5_9348 } ∷
    record { value = bits 0x3ff1_a35b_eb6f_cb75; rest = bits 0x3c8b_898c_3f13_53bf } ∷
    record { value = bits 0x3ff1_d487_3168_b9aa; rest = bits 0x3c9a_ecf7_3e3a_2f60 } ∷
    record { value = bits 0x3ff2_063b_8862_8cd6; rest = bits 0x3c8a_6f41_44a6_c38d } ∷
    record { value = bits 0x3ff2_387a_6e75_6238; rest = bits 0x3c96_8efd_e3a8_a894 } ∷
    record { value = bits 0x3ff2_6b45_65e2_7cdd; rest = bits 0x3c80_472b_981f_e7f2 } ∷
    record { value = bits 0x3ff2_9e9d_f51f_dee1; rest = bits 0x3c82_f7e1_6d09_ab31 } ∷
    record { value = bits 0x3ff2_d285_a6e4_030b; rest = bits 0x3c8b_3782_720c_0ab4 } ∷
    record { value = bits 0x3ff3_06fe_0a31_b715; rest = bits 0x3c83_4d75_4db0_abb6 } ∷
    record { value = bits 0x3ff3_3c08_b264_16ff; rest = bits 0x3c8f_dd39_5dd3_f84a } ∷
    record { value = bits 0x3ff3_71a7_373a_a9cb; rest = bits 0xbc92_4aed_cc4b_5068 } ∷
    record { value = bits 0x3ff3_a7db_34e5_9ff7; rest = bits 0xbc71_d1e8_3e94_36d2 } ∷
    record { value = bits 0x3ff3_dea6_4c12_3422; rest = bits 0x3c85_9f48_a72a_4c6d } ∷
    record { value = bits 0x3ff4_160a_21f7_2e2a; rest = bits 0xbc58_a78f_4817_895b } ∷
    record { value = bits 0x3ff4_4e08_6061_892d; rest = bits 0x3c43_63ed_60c2_ac11 } ∷
    record { value = bits 0x3ff4_86a2_b5c1_3cd0; rest = bits 0x3c6e_cce1_daa1_0379 } ∷
    record { value = bits 0x3ff4_bfda_d536_2a27; rest = bits 0x3c76_90ce_bb7a_afb0 } ∷
    record { value = bits 0x3ff4_f9b2_769d_2ca7; rest = bits 0xbc8f_9434_0071_a38e } ∷
    record { value = bits 0x3ff5_342b_569d_4f82; rest = bits 0xbc78_dec6_bd0f_385f } ∷
    record { value = bits 0x3ff5_6f47_36b5_27da; rest = bits 0x3c93_3505_18fd_d78e } ∷
    record { value = bits 0x3ff5_ab07_dd48_5429; rest = bits 0x3c90_63e1_e21c_5409 } ∷
    record { value = bits 0x3ff5_e76f_15ad_2148; rest = bits 0x3c94_32e6_2b64_c035 } ∷
    record { value = bits 0x3ff6_247e_b03a_5585; rest = bits 0xbc8c_33c5_3bef_4da8 } ∷
    record { value = bits 0x3ff6_6238_8255_2225; rest = bits 0xbc93_cedd_7856_5858 } ∷
    record { value = bits 0x3ff6_a09e_667f_3bcd; rest = bits 0xbc93_b3ef_bf5e_2228 } ∷
    record { value = bits 0x3ff6_dfb2_3c65_1a2f; rest = bits 0xbc63_67ef_b86d_a9ee } ∷
    record { value = bits 0x3ff7_1f75_e8ec_5f74; rest = bits 0xbc78_1f64_7e5a_3ecf } ∷
    record { value = bits 0x3ff7_5feb_5642_67c9; rest = bits 0xbc86_1932_1e55_e68a } ∷
    record { value = bits 0x3ff7_a114_73eb_0187; rest = bits 0xbc7b_32dc_b94d_a51d } ∷
    record { value = bits 0x3ff7_e2f3_36cf_4e62; rest = bits 0x3c65_ebe1_abd6_6c55 } ∷
    record { value = bits 0x3ff8_2589_994c_ce13; rest = bits 0xbc93_69b6_f13b_3734 } ∷
    record { value = bits 0x3ff8_68d9_9b44_92ed; rest = bits 0xbc94_d450_d872_576e } ∷
    record { value = bits 0x3ff8_ace5_422a_a0db; rest = bits 0x3c8d_b72f_c1f0_eab4 } ∷
    record { value = bits 0x3ff8_f1ae_9915_7736; rest = bits 0x3c7b_f683_59f3_5f44 } ∷
    record { value = bits 0x3ff9_3737_b0cd_c5e5; rest = bits 0xbc5d_a9b8_8b6c_1e29 } ∷
    record { value = bits 0x3ff9_7d82_9fde_4e50; rest = bits 0xbc92_4343_22f4_f9aa } ∷
    record { value = bits 0x3ff9_c491_82a3_f090; rest = bits 0x3c71_affc_2b91_ce27 } ∷
    record { value = bits 0x3ffa_0c66_7b5d_e565; rest = bits 0xbc87_c504_2262_2263 } ∷
    record { value = bits 0x3ffa_5503_b23e_255d; rest = bits 0xbc91_bbd1_d3bc_bb15 } ∷
    record { value = bits 0x3ffa_9e6b_5579_fdbf; rest = bits 0x3c84_6984_6e73_5ab3 } ∷
    record { value = bits 0x3ffa_e89f_995a_d3ad; rest = bits 0x3c8c_1a77_92cb_3387 } ∷
    record { value = bits 0x3ffb_33a2_b84f_15fb; rest = bits 0xbc55_c3d9_56dc_aeba } ∷
    record { value = bits 0x3ffb_7f76_f2fb_5e47; rest = bits 0xbc68_d6f4_38ad_9334 } ∷
    record { value = bits 0x3ffb_cc1e_904b_c1d2; rest = bits 0x3c74_ffd7_0a5f_ddcd } ∷
    record { value = bits 0x3ffc_199b_dd85_529c; rest = bits 0x3c73_6eae_30af_0cb3 } ∷
    record { value = bits 0x3ffc_67f1_2e57_d14b; rest = bits 0x3c84_e08f_d109_59ac } ∷
    record { value = bits 0x3ffc_b720_dcef_9069; rest = bits 0x3c67_6b2c_6c92_1968 } ∷
    record { value = bits 0x3ffd_072d_4a07_897c; rest = bits 0xbc8f_ad5d_3fff_fa6f } ∷
    record { value = bits 0x3ffd_5818_dcfb_a487; rest = bits 0x3c74_a385_a63d_07a7 } ∷
    record { value = bits 0x3ffd_a9e6_03db_3285; rest = bits 0x3c8e_5a50_d5c1_92ac } ∷
    record { value = bits 0x3ffd_fc97_337b_9b5f; rest = bits 0xbc82_d521_07b4_3e1f } ∷
    record { value = bits 0x3ffe_502e_e78b_3ff6; rest = bits 0x3c74_b604_603a_88d3 } ∷
    record { value = bits 0x3ffe_a4af_a2a4_90da; rest = bits 0xbc8f_f712_8fd3_91f0 } ∷
    record { value = bits 0x3ffe_fa1b_ee61_5a27; rest = bits 0x3c8e_c3bc_41aa_2008 } ∷
    record { value = bits 0x3fff_5076_5b6e_4540; rest = bits 0x3c8a_64a9_31d1_85ee } ∷
    record { value = bits 0x3fff_a7c1_819e_90d8; rest = bits 0x3c77_893b_4d91_cd9d } ∷
    []

abbrev pub no_row : ExpRow
no_row = record { value = zero·; rest = zero· }

unfoldable pub exp_row_of : ℕ → ExpRow
exp_row_of i = get_or exp_rows i no_row
