-- The table of `erfc`, each number by its bits. Row j is for numbers within 1/32 of j/16: a centre, erfc there, and the coefficients of the powers of the distance to it.
-- Written by tools/tables.py.
use Rattle.std.specs.Prelude.{List, [], ◌∷◌, ℕ, get_or}
use Rattle.num.specs.F64.{bits, zero·}
use Rattle.tables.specs.declared.erfc.ErfcRow.{ErfcRow}

unfoldable pub erfc_rows : List ErfcRow
erfc_rows =
    record { centre = bits 0x0000_0000_0000_0000; value = bits 0x3ff0_0000_0000_0000; a1 = bits 0xbff2_0dd7_5042_9b6d; a2 = bits 0xbd14_85a8_8d0d_cb00; a3 = bits 0x3fd8_1274_6b05_b885; a4 = bits 0xbe20_5308_c9dd_7d9b; a5 = bits 0xbfbc_e2ed_b4e4_b597; a6 = bits 0xbef7_e8a8_f4fc_828d; a7 = bits 0x3f9c_d457_66bb_56a1; a8 = bits 0xbfa8_1c14_5b26_7f76; a9 = bits 0x3ff1_2339_f968_824d; a10 = bits 0xc02b_f405_571e_d4e4; a11 = bits 0x4053_ade3_b02b_4eb5 } ∷
    record { centre = bits 0x3fb0_000c_0000_0000; value = bits 0x3fed_bf03_c047_24c4; a1 = bits 0xbff1_fbd2_61e2_ad0e; a2 = bits 0x3fb1_fbdf_dec0_7663; a3 = bits 0x3fd7_ca78_b439_cead; a4 = bits 0xbfa1_efe2_8cd7_0a94; a5 = bits 0xbfbc_532a_a48f_5620; a6 = bits 0x3f87_da8c_d74d_7cb7; a7 = bits 0x3f9a_c349_6f77_cad7; a8 = bits 0xbf67_c22c_22e7_dd6e; a9 = bits 0xbf73_bd3c_df0b_0b16; a10 = bits 0xbf4e_2d94_70b7_8359; a11 = bits 0xbfb3_871e_f025_8cec } ∷
    record { centre = bits 0x3fc0_0028_8000_0000; value = bits 0x3feb_827c_57bf_3e8b; a1 = bits 0xbff1_c62e_39f9_6bdc; a2 = bits 0x3fc1_c65b_379e_6e67; a3 = bits 0x3fd6_f54d_4b0f_f000; a4 = bits 0xbfb1_96f3_ff0a_04be; a5 = bits 0xbfba_ab9b_338b_ddb7; a6 = bits 0x3f97_351f_898c_d276; a7 = bits 0x3f98_94b4_f533_93b5; a8 = bits 0xbf76_e1fb_2514_2a17; a9 = bits 0xbf8a_cf2d_5c8e_33aa; a10 = bits 0xbf79_8d75_0660_ed29; a11 = bits 0x4007_cb9e_5796_bdef } ∷
    record { centre = bits 0x3fc8_005a_8000_0000; value = bits 0x3fe9_4ecf_cc37_7a04; a1 = bits 0xbff1_6e28_d175_6790; a2 = bits 0x3fca_259f_d146_fc4b; a3 = bits 0x3fd5_9b2b_9b54_f733; a4 = bits 0xbfb9_88b9_7339_1995; a5 = bits 0xbfb8_031f_40f0_5f31; a6 = bits 0x3fa0_9eb0_a2ae_2a63; a7 = bits 0x3f95_184c_23af_b831; a8 = bits 0xbf80_435a_e82c_2953; a9 = bits 0xbf84_7b25_f679_3758; a10 = bits 0x3f82_41d2_99f5_4c25; a11 = bits 0x4001_8c1a_bed8_fee4 } ∷
    record { centre = bits 0x3fd0_0014_4000_0000; value = bits 0x3fe7_284a_d358_ef74; a1 = bits 0xbff0_f5ce_b14a_6233; a2 = bits 0x3fd0_f5e4_2863_fa6a; a3 = bits 0x3fd3_c969_fc74_57f9; a4 = bits 0xbfc0_40f8_dcbd_5e3b; a5 = bits 0xbfb4_7e49_48b4_1e94; a6 = bits 0x3fa4_c0c3_92d0_c6b2; a7 = bits 0x3f90_8d13_81ef_e936; a8 = bits 0xbf83_ca1c_18f4_5cad; a9 = bits 0xbf53_130d_8dcc_81d1; a10 = bits 0xbf85_84b2_741c_9311; a11 = bits 0xbfdf_f011_a7bb_baa2 } ∷
    record { centre = bits 0x3fd4_001a_4000_0000; value = bits 0x3fe5_12a2_f0b5_e76a; a1 = bits 0xbff0_5fcf_ba2b_d794; a2 = bits 0x3fd4_77de_85e7_9ac9; a3 = bits 0x3fd1_916b_ae38_b48f; a4 = bits 0xbfc3_22b7_df01_1210; a5 = bits 0xbfb0_4c33_5fab_ba5a; a6 = bits 0x3fa7_ce85_b2b0_5efc; a7 = bits 0x3f86_8aa0_8b7a_5494; a8 = bits 0xbf86_1e17_e6ba_6457; a9 = bits 0xbf5d_a9b8_2e16_f856; a10 = bits 0xbf7c_6045_4fb9_e474; a11 = bits 0x3fc2_b66c_0dc7_c4de } ∷
    record { centre = bits 0x3fd8_0018_c000_0000; value = bits 0x3fe3_116d_4886_ba1e; a1 = bits 0xbfef_5f03_c19c_7952; a2 = bits 0x3fd7_875b_14b2_42d4; a3 = bits 0x3fce_104b_5602_2616; a4 = bits 0xbfc5_52a5_fe17_48e0; a5 = bits 0xbfa7_4850_17ec_122a; a6 = bits 0x3fa9_a79c_87fb_77cf; a7 = bits 0x3f76_6095_47cc_53e6; a8 = bits 0xbf87_135c_e1fe_e784; a9 = bits 0xbf72_f660_eea9_2bbd; a10 = bits 0x3f82_4285_4599_00cd; a11 = bits 0x3ff8_fc3e_12e0_3db1 } ∷
    record { centre = bits 0x3fdb_ffd3_8000_0000; value = bits 0x3fe1_27d3_d469_6044; a1 = bits 0xbfed_d179_e8ed_996e; a2 = bits 0x3fda_1721_3482_5e4b; a3 = bits 0x3fc8_89e7_5d62_1824; a4 = bits 0xbfc6_c2e2_e226_66a8; a5 = bits 0xbf9b_0720_38a8_858d; a6 = bits 0x3faa_3fda_0793_2158; a7 = bits 0xbf20_801c_5ad7_8b57; a8 = bits 0xbf86_7480_b5a4_dc5a; a9 = bits 0x3f67_2bb4_881a_eaec; a10 = bits 0xbf52_eb7d_0669_1084; a11 = bits 0xbfe3_4725_f03b_038b } ∷
    record { centre = bits 0x3fe0_0005_8000_0000; value = bits 0x3fde_b017_9d28_2071; a1 = bits 0xbfec_1ef7_cf46_7972; a2 = bits 0x3fdc_1f01_79eb_a896; a3 = bits 0x3fc2_bf42_fbfb_67d6; a4 = bits 0xbfc7_6f28_acb1_729f; a5 = bits 0xbf7d_fe18_7919_1d5f; a6 = bits 0x3fa9_9f0f_ac00_958e; a7 = bits 0xbf76_2005_3fc8_f2e0; a8 = bits 0xbf84_88b1_d900_fbfc; a9 = bits 0xbf56_4b35_de1a_8ede; a10 = bits 0xbf79_d923_c672_a544; a11 = bits 0x3ff3_8e49_17a0_96aa } ∷
    record { centre = bits 0x3fe2_000d_6000_0000; value = bits 0x3fdb_48d4_ef55_bbf7; a1 = bits 0xbfea_5068_827e_d034; a2 = bits 0x3fdd_9a8b_9206_0740; a3 = bits 0x3fb9_c3cf_0208_bae9; a4 = bits 0xbfc7_5be8_d980_383a; a5 = bits 0x3f86_41fa_0a08_063f; a6 = bits 0x3fa7_df79_0ef3_caa0; a7 = bits 0xbf84_a339_4e59_05e0; a8 = bits 0xbf81_88a4_d499_e2f7; a9 = bits 0xbf50_da4a_4c03_98cb; a10 = bits 0xbf6b_f542_1600_4edf; a11 = bits 0x3ff6_8182_9e4c_6fcc } ∷
    record { centre = bits 0x3fe3_ffff_2000_0000; value = bits 0x3fd8_1cd3_9c6a_5f88; a1 = bits 0xbfe8_6e97_69da_f027; a2 = bits 0x3fde_8a3b_ee45_647a; a3 = bits 0x3fac_810e_e3cf_74df; a4 = bits 0xbfc6_963d_050c_e916; a5 = bits 0x3f9c_123c_2a08_7cef; a6 = bits 0x3fa5_2b28_3be2_92b9; a7 = bits 0xbf8c_8099_dc91_4895; a8 = bits 0xbf7b_71af_ab5d_7ade; a9 = bits 0x3f85_1f1e_5357_f9b5; a10 = bits 0x3f78_6172_fe53_861d; a11 = bits 0xc002_86d6_03ce_3fa6 } ∷
    record { centre = bits 0x3fe5_fffc_6000_0000; value = bits 0x3fd5_2dbc_9f1d_bec6; a1 = bits 0xbfe6_8202_a634_44d0; a2 = bits 0x3fde_f2be_8b13_44d6; a3 = bits 0x3f8a_42ee_01dd_179a; a4 = bits 0xbfc5_3244_61ef_8819; a5 = bits 0x3fa5_58a8_d223_86bf; a6 = bits 0x3fa1_b7b3_5654_b2f8; a7 = bits 0xbf91_2193_3484_f32f; a8 = bits 0xbf72_7f90_cfc5_3fd4; a9 = bits 0x3f82_d300_a008_9754; a10 = bits 0xbf82_3d8c_9c6a_e32c; a11 = bits 0xbffd_19ac_18b7_d494 } ∷
    record { centre = bits 0x3fe7_ffe8_6000_0000; value = bits 0x3fd2_7c8b_75bb_a08d; a1 = bits 0xbfe4_92fa_f625_e9f1; a2 = bits 0x3fde_dc5a_1032_4f94; a3 = bits 0xbf9b_6cbd_e361_81e3; a4 = bits 0xbfc3_49cf_12c8_1a17; a5 = bits 0x3fab_4264_8422_f4b3; a6 = bits 0x3f9b_84da_ad68_caef; a7 = bits 0xbf92_df80_4645_5fb7; a8 = bits 0xbf63_0ce0_e92f_ec59; a9 = bits 0xbf08_5ec2_a279_55b9; a10 = bits 0x3f81_535c_f754_075d; a11 = bits 0x3ff6_3f74_a213_08ba } ∷
    record { centre = bits 0x3fea_000d_a000_0000; value = bits 0x3fd0_08b8_265e_5bba; a1 = bits 0xbfe2_a8d0_04ce_a088; a2 = bits 0x3fde_5261_eb90_e912; a3 = bits 0xbfaf_e0ed_138e_5e77; a4 = bits 0xbfc0_fa12_2c10_9e7b; a5 = bits 0x3faf_a237_11e3_f76a; a6 = bits 0x3f93_150e_35cb_2755; a7 = bits 0xbf93_7da8_13d8_5aa1; a8 = bits 0xbf23_84bb_be58_c589; a9 = bits 0x3f55_be62_689e_bf07; a10 = bits 0x3f80_0641_151d_4678; a11 = bits 0x3fea_9395_809d_4dac } ∷
    record { centre = bits 0x3fec_001c_8000_0000; value = bits 0x3fcb_a331_d997_909a; a1 = bits 0xbfe0_ca9b_f31d_84b3; a2 = bits 0x3fdd_62ae_d259_714d; a3 = bits 0xbfb7_ca3d_d78c_4ba8; a4 = bits 0xbfbc_c5b8_c772_3d08; a5 = bits 0x3fb1_351d_81d2_4c32; a6 = bits 0x3f85_3ac7_e559_084f; a7 = bits 0xbf93_0bb8_53d4_17c4; a8 = bits 0x3f5e_2b5f_86fa_2f35; a9 = bits 0x3f7c_1819_7cab_7a72; a10 = bits 0x3f50_844d_3282_0a93; a11 = bits 0xbff3_fae5_609d_b375 } ∷
    record { centre = bits 0x3fed_ffff_4000_0000; value = bits 0x3fc7_aaba_e22c_ea64; a1 = bits 0xbfdd_fca3_c0b5_e61f; a2 = bits 0x3fdc_1cd8_d0be_b14d; a3 = bits 0xbfbe_4c97_471c_5254; a4 = bits 0xbfb7_47e5_3295_c002; a5 = bits 0x3fb1_d1ef_e40d_90c1; a6 = bits 0x3f64_7673_68b2_b7fd; a7 = bits 0xbf91_a759_8d5b_bb60; a8 = bits 0x3f6c_9827_7b1b_ce9a; a9 = bits 0xbefa_deea_384d_6b48; a10 = bits 0x3f73_0974_afae_6517; a11 = bits 0x3fed_5c27_fae4_3237 } ∷
    record { centre = bits 0x3fef_fffe_c000_0000; value = bits 0x3fc4_2263_7652_5f53; a1 = bits 0xbfda_9121_1cc6_3343; a2 = bits 0x3fda_9120_131a_e822; a3 = bits 0xbfc1_b613_4ebb_7961; a4 = bits 0xbfb1_b618_2684_b8fb; a5 = bits 0x3fb1_b614_fa54_9cd7; a6 = bits 0xbf72_e449_a733_13ef; a7 = bits 0xbf8f_0a14_b725_27b1; a8 = bits 0x3f73_923a_f240_b403; a9 = bits 0x3f68_a34c_c5ef_565d; a10 = bits 0xbf5a_dc33_65b4_f5b5; a11 = bits 0xbfd8_e6b9_fa73_2592 } ∷
    record { centre = bits 0x3ff1_0004_5000_0000; value = bits 0x3fc1_042f_79b7_8de4; a1 = bits 0xbfd7_5a84_47b7_4868; a2 = bits 0x3fd8_d032_d798_643e; a3 = bits 0xbfc3_954e_171a_75f4; a4 = bits 0xbfa8_8de1_bf53_e5c1; a5 = bits 0x3fb0_f7bc_ec80_24dd; a6 = bits 0xbf85_e25d_dd07_4c8d; a7 = bits 0xbf89_ab71_e44c_5000; a8 = bits 0x3f77_087d_df4a_9066; a9 = bits 0xbf5c_d9ed_b805_c824; a10 = bits 0xbf64_53f2_5a1a_d100; a11 = bits 0x3fef_d9dc_d83d_13a0 } ∷
    record { centre = bits 0x3ff2_0001_f000_0000; value = bits 0x3fbc_928c_e0df_7d9e; a1 = bits 0xbfd4_5e94_2ff5_8b00; a2 = bits 0x3fd6_ea69_2d68_2e32; a3 = bits 0xbfc4_cb3e_aca6_c364; a4 = bits 0xbf9c_a4e2_2c24_705f; a5 = bits 0x3faf_65cb_8e34_3e23; a6 = bits 0xbf8f_d1d7_17e2_1f5a; a7 = bits 0xbf83_ab91_f7e9_e3ff; a8 = bits 0x3f78_b191_7794_1241; a9 = bits 0xbf5b_ea61_37f5_daca; a10 = bits 0xbf2b_c474_1b8f_b130; a11 = bits 0x3fe6_e5ad_1dd8_4ad3 } ∷
    record { centre = bits 0x3ff2_fff5_4000_0000; value = bits 0x3fb7_d429_c9f7_55d2; a1 = bits 0xbfd1_a0f8_72e7_9fe8; a2 = bits 0x3fd4_ef1b_304c_20b4; a3 = bits 0xbfc5_6487_ff00_5d2a; a4 = bits 0xbf84_1133_b3b9_83b6; a5 = bits 0x3fac_0ddf_f7ce_7429; a6 = bits 0xbf93_88a4_0d4e_871c; a7 = bits 0xbf7a_ec0a_8f92_f57f; a8 = bits 0x3f78_b950_e2ec_76ce; a9 = bits 0xbf56_88c9_56a7_e8e1; a10 = bits 0x3f28_a9cd_44cb_9583; a11 = bits 0x3fd7_86a6_7aaa_e38c } ∷
    record { centre = bits 0x3ff3_fff9_e000_0000; value = bits 0x3fb3_bce8_618c_af7f; a1 = bits 0xbfce_466f_f433_8e4d; a2 = bits 0x3fd2_ec00_2d24_cb38; a3 = bits 0xbfc5_71d1_5161_4edc; a4 = bits 0x3f79_3928_949b_ef31; a5 = bits 0x3fa8_2835_e839_3cde; a6 = bits 0xbf95_cff5_f931_5cea; a7 = bits 0xbf6d_b221_43de_ffe7; a8 = bits 0x3f77_518e_bc01_67a4; a9 = bits 0xbf60_e13d_c558_3263; a10 = bits 0x3f4f_af39_d2de_3c2a; a11 = bits 0x3fda_420a_f56b_914a } ∷
    record { centre = bits 0x3ff5_0007_6000_0000; value = bits 0x3fb0_3cf2_f1bc_f5bd; a1 = bits 0xbfc9_cb3c_9f88_ba72; a2 = bits 0x3fd0_ed65_ba88_b31b; a3 = bits 0xbfc5_0668_387d_97e8; a4 = bits 0x3f94_1a56_0990_b73e; a5 = bits 0x3fa3_f3f7_da4f_27a9; a6 = bits 0xbf96_d1da_6fc7_7339; a7 = bits 0xbf4e_4268_51ef_7213; a8 = bits 0x3f74_d080_0575_8afa; a9 = bits 0x3f26_f18a_7db1_c36c; a10 = bits 0xbf60_6f2c_6c2d_35e5; a11 = bits 0xbfe0_5e94_850b_6c3b } ∷
    record { centre = bits 0x3ff6_000a_6000_0000; value = bits 0x3faa_893b_35b0_6686; a1 = bits 0xbfc5_ce32_79e8_822f; a2 = bits 0x3fcd_fb93_8b54_6e09; a3 = bits 0xbfc4_3743_6280_ee57; a4 = bits 0x3f9f_3bf2_eee8_7f69; a5 = bits 0x3f9f_56d3_f731_b4fe; a6 = bits 0xbf96_b168_d1de_a249; a7 = bits 0x3f57_46ed_f5a9_a903; a8 = bits 0x3f71_7555_74f7_a529; a9 = bits 0xbf66_fdd6_c18d_afdd; a10 = bits 0xbf4b_61f8_eb97_9b51; a11 = bits 0x3fdb_4618_3ced_37b7 } ∷
    record { centre = bits 0x3ff7_0007_c000_0000; value = bits 0x3fa5_88ab_a2bd_9ffc; a1 = bits 0xbfc2_4a62_0c27_f8ac; a2 = bits 0x3fca_4af5_cd80_f358; a3 = bits 0xbfc3_19be_0918_3fc4; a4 = bits 0x3fa3_db77_c915_859a; a5 = bits 0x3f97_015d_02ec_06f9; a6 = bits 0xbf95_9d2f_2ce6_abd0; a7 = bits 0x3f6b_345f_f7de_5260; a8 = bits 0x3f6b_4936_de83_2ae0; a9 = bits 0xbf64_04df_6655_4574; a10 = bits 0xbf3d_f456_ddca_2246; a11 = bits 0x3fd0_4f4f_a8d4_2374 } ∷
    record { centre = bits 0x3ff7_fffa_e000_0000; value = bits 0x3fa1_5abe_0ffd_05e5; a1 = bits 0xbfbe_7254_6884_12c7; a2 = bits 0x3fc6_d5ba_6e13_8960; a3 = bits 0xbfc1_c2a7_7c59_b978; a4 = bits 0x3fa6_d59d_2c3d_0bab; a5 = bits 0x3f8e_7283_3b50_bff6; a6 = bits 0xbf93_ca48_2429_5eb4; a7 = bits 0x3f73_6d28_5fec_b1fd; a8 = bits 0x3f63_54bc_d5d6_2296; a9 = bits 0xbf59_2531_a108_a644; a10 = bits 0x3f53_e94c_e2de_8521; a11 = bits 0xbfae_f1ce_50b9_8da7 } ∷
    record { centre = bits 0x3ff9_001c_6000_0000; value = bits 0x3f9b_c60f_818e_4b7d; a1 = bits 0xbfb9_23e5_509b_2402; a2 = bits 0x3fc3_a421_71cd_8a9b; a3 = bits 0xbfc0_4513_d729_17ec; a4 = bits 0x3fa8_a7eb_1da6_1014; a5 = bits 0x3f80_744d_7302_d7bc; a6 = bits 0xbf91_6f54_4b0a_d7e6; a7 = bits 0x3f77_4d0f_00ee_346b; a8 = bits 0x3f57_5e57_3e4d_f7b9; a9 = bits 0xbf61_1ac3_b980_a79f; a10 = bits 0x3f35_7dc8_d034_9e53; a11 = bits 0x3fc5_9cda_c84a_3baf } ∷
    record { centre = bits 0x3ffa_0024_9000_0000; value = bits 0x3f96_121c_47a9_6b93; a1 = bits 0xbfb4_993b_7b13_fb25; a2 = bits 0x3fc0_bc97_dd14_b233; a3 = bits 0xbfbd_65bd_89ef_7e92; a4 = bits 0x3fa9_74cc_b186_06d3; a5 = bits 0x3f61_76ef_eb60_6639; a6 = bits 0xbf8d_84b4_4f8a_15f3; a7 = bits 0x3f79_5569_1442_e105; a8 = bits 0x3f42_cf48_970f_32b1; a9 = bits 0xbf5f_75be_209b_9bc7; a10 = bits 0x3f52_9cfa_ffb9_501a; a11 = bits 0x3fc6_a2d1_6dcd_d25e } ∷
    record { centre = bits 0x3ffb_0004_b000_0000; value = bits 0x3f91_6b11_2b13_3e20; a1 = bits 0xbfb0_bf87_59f4_d5ab; a2 = bits 0x3fbc_4339_4fe9_cfe3; a3 = bits 0xbfba_3678_e10b_e41e; a4 = bits 0x3fa9_6478_1f1f_1ae5; a5 = bits 0xbf66_98b8_a0f5_10d8; a6 = bits 0xbf87_e85b_2b55_baf5; a7 = bits 0x3f79_bf05_91f6_314a; a8 = bits 0xbf23_7726_1ef3_5d84; a9 = bits 0xbf5b_80e3_f6d2_e412; a10 = bits 0xbf24_87b4_2ef2_e660; a11 = bits 0x3fc6_c211_3d19_0d7f } ∷
    record { centre = bits 0x3ffc_0009_0000_0000; value = bits 0x3f8b_4ba5_360b_b651; a1 = bits 0xbfab_051d_d0d2_72db; a2 = bits 0x3fb7_a481_b028_873e; a3 = bits 0xbfb7_1470_8867_848e; a4 = bits 0x3fa8_a0d0_ca18_e75e; a5 = bits 0xbf7b_22a1_61fc_5ece; a6 = bits 0xbf82_5b06_9ebe_cacc; a7 = bits 0x3f78_d0eb_1569_4fa5; a8 = bits 0xbf47_f12b_b562_6f62; a9 = bits 0xbf4a_aaac_49fd_1e9e; a10 = bits 0x3f44_eb68_d3a6_14bf; a11 = bits 0xbf9c_8023_8094_e6a1 } ∷
    record { centre = bits 0x3ffd_0006_0000_0000; value = bits 0x3f85_3c69_67fb_81fd; a1 = bits 0xbfa5_a071_1f7e_5b0e; a2 = bits 0x3fb3_996a_929f_b86e; a3 = bits 0xbfb4_13fd_7cf1_4193; a4 = bits 0x3fa7_5351_42de_e2c8; a5 = bits 0xbf83_74e6_1361_ad14; a6 = bits 0xbf7a_4034_872b_138c; a7 = bits 0x3f76_dbe1_bb70_7c60; a8 = bits 0xbf52_efea_5864_71b7; a9 = bits 0xbf41_a057_748a_2e44; a10 = bits 0x3f42_136b_35e5_27a5; a11 = bits 0xbf9d_1596_f9b2_1302 } ∷
    record { centre = bits 0x3ffd_fffc_a000_0000; value = bits 0x3f80_6792_c0b8_57fb; a1 = bits 0xbfa1_2cf8_ce0c_4783; a2 = bits 0x3fb0_1a27_716d_4550; a3 = bits 0xbfb1_43da_e7c3_a7f7; a4 = bits 0x3fa5_a31c_82a0_64ef; a5 = bits 0xbf87_79a7_423c_8b93; a6 = bits 0xbf70_d0b7_8ce7_76ab; a7 = bits 0x3f74_2fe2_fd07_22d0; a8 = bits 0xbf57_7089_cf11_2ff9; a9 = bits 0xbf3a_cb54_edf7_6134; a10 = bits 0x3f3d_567b_ac09_cdea; a11 = bits 0x3f90_73d1_7770_07d3 } ∷
    record { centre = bits 0x3ffe_fff5_9000_0000; value = bits 0x3f79_29e1_9bb3_9bc3; a1 = bits 0xbf9b_11a5_05b8_3cc8; a2 = bits 0x3faa_390f_0949_2788; a3 = bits 0xbfad_5c0c_838f_394b; a4 = bits 0x3fa3_b372_de29_499d; a5 = bits 0xbf89_d75a_1ded_3f8f; a6 = bits 0xbf61_4d24_6556_e96b; a7 = bits 0x3f71_182f_33ea_7d75; a8 = bits 0xbf59_b5fc_553f_ba0b; a9 = bits 0xbf2d_68c3_97a2_d729; a10 = bits 0x3f3e_cf9c_b478_81ac; a11 = bits 0x3f9f_4358_6c98_d6ea } ∷
    record { centre = bits 0x3fff_fff4_b000_0000; value = bits 0x3f73_2931_c68b_775e; a1 = bits 0xbf95_29f5_c31b_6eb9; a2 = bits 0x3fa5_29ee_47c6_0d3f; a3 = bits 0xbfa8_b0e0_1abf_d693; a4 = bits 0x3fa1_a2dd_484c_0118; a5 = bits 0xbf8a_ce70_07cf_cdf9; a6 = bits 0xbf3e_1d7e_2ef5_bb8e; a7 = bits 0x3f6b_ae6e_1f29_a061; a8 = bits 0xbf5a_10fb_5ffd_b99d; a9 = bits 0x3ed7_56d0_db35_e54d; a10 = bits 0x3f2e_e520_de47_fc06; a11 = bits 0x3f8f_65a1_0bc8_4fe7 } ∷
    record { centre = bits 0x4000_7ffc_e800_0000; value = bits 0x3f6c_f840_15cd_81e1; a1 = bits 0xbf90_6afb_6b9e_abf1; a2 = bits 0x3fa0_ee50_1a4c_0401; a3 = bits 0xbfa4_8b2a_8a1d_7804; a4 = bits 0x3f9f_1575_0ed8_b6ab; a5 = bits 0xbf8a_a2c4_7818_fd8b; a6 = bits 0x3f4b_be97_8c76_edff; a7 = bits 0x3f65_474c_e94c_4b4a; a8 = bits 0xbf58_ea89_5c18_c4c9; a9 = bits 0x3f38_4bd4_2d91_15b8; a10 = bits 0x3f24_8548_866c_e443; a11 = bits 0xbfaf_c6ec_e433_f340 } ∷
    record { centre = bits 0x4001_0001_9800_0000; value = bits 0x3f65_bdd3_05c9_d43a; a1 = bits 0xbf89_460f_8172_5ef3; a2 = bits 0x3f9a_da72_fe04_1041; a3 = bits 0xbfa0_ea3c_9c50_5354; a4 = bits 0x3f9a_fe48_80d3_f549; a5 = bits 0xbf89_9736_d288_4559; a6 = bits 0x3f5d_d7b9_42ac_8523; a7 = bits 0x3f5e_9fef_cf34_c680; a8 = bits 0xbf56_a8cf_c274_e3d4; a9 = bits 0x3f35_4026_fbb1_f031; a10 = bits 0x3ed0_f78b_fc5c_910c; a11 = bits 0xbf88_aa38_33c8_ac17 } ∷
    record { centre = bits 0x4001_7ffc_c000_0000; value = bits 0x3f60_3338_dcce_be55; a1 = bits 0xbf83_4da0_0b4c_9f56; a2 = bits 0x3f95_1ce3_2097_4bf8; a3 = bits 0xbf9b_9280_2b27_a6d1; a4 = bits 0x3f97_1e95_8a94_76cf; a5 = bits 0xbf87_ea64_7ce6_6916; a6 = bits 0x3f64_6e9d_4f9d_6200; a7 = bits 0x3f54_03ce_1523_d435; a8 = bits 0xbf53_b324_2e6d_1745; a9 = bits 0x3f31_949f_c939_d00d; a10 = bits 0x3ef8_caf2_5935_cd94; a11 = bits 0x3f9b_decd_d4ff_7b0e } ∷
    record { centre = bits 0x4002_0000_8000_0000; value = bits 0x3f57_f70c_a97c_b457; a1 = bits 0xbf7d_413b_6f85_ec91; a2 = bits 0x3f90_74b1_e3c0_42cf; a3 = bits 0xbf96_3ef1_3bdc_a8f2; a4 = bits 0x3f93_8a94_c965_1675; a5 = bits 0xbf85_d3af_401c_2cfa; a6 = bits 0x3f67_cae3_356c_ec1d; a7 = bits 0x3f45_f7d2_8486_3280; a8 = bits 0xbf50_5ff8_cf1d_2b4c; a9 = bits 0x3f3a_6ee0_4310_c740; a10 = bits 0xbed9_ecdd_6d06_7c06; a11 = bits 0xbf88_3c23_2753_a0ac } ∷
    record { centre = bits 0x4002_8001_5800_0000; value = bits 0x3f51_98ee_a2a6_3ae8; a1 = bits 0xbf75_ff16_3a6c_d169; a2 = bits 0x3f89_6ef3_8c7a_300a; a3 = bits 0xbf91_c59b_4ea0_c681; a4 = bits 0x3f90_4f54_7998_b773; a5 = bits 0xbf83_829a_e210_fca5; a6 = bits 0x3f69_5cad_b8d1_f7cc; a7 = bits 0x3f2d_2dc3_0b7e_b75c; a8 = bits 0xbf49_f4ff_661b_dcf0; a9 = bits 0x3f3a_a47f_32e7_2af6; a10 = bits 0xbefc_68a6_0138_767a; a11 = bits 0xbf8e_722c_8361_16fd } ∷
    record { centre = bits 0x4003_0004_1000_0000; value = bits 0x3f49_a780_5a8f_67bf; a1 = bits 0xbf70_68f1_20df_bcbc; a2 = bits 0x3f83_7ca2_81ae_e978; a3 = bits 0xbf8c_1e8a_60b6_a8a2; a4 = bits 0x3f8a_e56a_a0b5_10aa; a5 = bits 0xbf81_1d9a_d8db_cca1; a6 = bits 0x3f69_82ae_dea6_03ef; a7 = bits 0xbf20_2913_c718_1e2a; a8 = bits 0xbf43_77a5_03bb_5736; a9 = bits 0x3f35_6425_4e72_81db; a10 = bits 0xbf0a_b7a4_581e_6c10; a11 = bits 0x3f6f_4fe1_aa73_aa51 } ∷
    record { centre = bits 0x4003_8004_3000_0000; value = bits 0x3f42_904f_81e9_e225; a1 = bits 0xbf68_4b65_0191_1182; a2 = bits 0x3f7d_9be9_75a4_3cbb; a3 = bits 0xbf86_086a_6f52_c3dc; a4 = bits 0x3f85_eaf5_e845_89e8; a5 = bits 0xbf7d_8528_d5ba_854b; a6 = bits 0x3f68_9766_54cf_73b6; a7 = bits 0xbf38_8d81_09aa_2740; a8 = bits 0xbf3b_3119_e572_944a; a9 = bits 0x3f34_3949_09b4_90e3; a10 = bits 0xbf17_dac1_768b_3466; a11 = bits 0xbf6f_4a49_383d_442c } ∷
    record { centre = bits 0x4004_000b_3800_0000; value = bits 0x3f3a_aabd_6c73_d46e; a1 = bits 0xbf61_d7b4_53ac_d8d8; a2 = bits 0x3f76_4dad_eb56_ffba; a3 = bits 0xbf81_1976_ff74_607c; a4 = bits 0x3f81_a843_c01d_e4a5; a5 = bits 0xbf79_0e20_b6bc_8c93; a6 = bits 0x3f66_ecb0_5936_a428; a7 = bits 0xbf41_c649_ebb7_bcfc; a8 = bits 0xbf31_14b7_2c3b_127a; a9 = bits 0x3f2e_9b9c_2385_0824; a10 = bits 0xbf13_636b_3cf3_fcdd; a11 = bits 0x3f77_c228_62c1_7a2d } ∷
    record { centre = bits 0x4004_8000_4000_0000; value = bits 0x3f33_0436_8525_83dd; a1 = bits 0xbf5a_023f_3b9a_f54d; a2 = bits 0x3f70_a970_b633_c39e; a3 = bits 0xbf7a_4bf0_f5d3_2c49; a4 = bits 0x3f7c_237c_e76a_4884; a5 = bits 0xbf74_f3fe_7df7_6e62; a6 = bits 0x3f64_c9a1_a744_538f; a7 = bits 0xbf44_f788_1c6f_565d; a8 = bits 0xbf21_8bbc_2ee9_7686; a9 = bits 0x3f28_976e_4c1e_19e9; a10 = bits 0xbf12_880b_8426_356a; a11 = bits 0x3f72_7eaa_2c9d_fa50 } ∷
    record { centre = bits 0x4005_0000_3000_0000; value = bits 0x3f2a_eb40_9d2c_feef; a1 = bits 0xbf52_ce87_379f_59df; a2 = bits 0x3f68_af11_b16c_bb9d; a3 = bits 0xbf74_07f9_bd4f_fa7b; a4 = bits 0x3f76_2d4a_66fe_b664; a5 = bits 0xbf71_46c3_68f9_4eaa; a6 = bits 0x3f62_67f2_d3bb_fff7; a7 = bits 0xbf46_4f6f_dab5_4a6b; a8 = bits 0xbf02_2ba9_4b23_d77e; a9 = bits 0x3f22_8e0b_42e1_46a6; a10 = bits 0xbf12_0f2e_c7aa_f05d; a11 = bits 0x3f6f_6c10_8c55_fa3c } ∷
    record { centre = bits 0x4005_8009_c800_0000; value = bits 0x3f22_e900_f406_d013; a1 = bits 0xbf4a_fbd4_89d0_3fdc; a2 = bits 0x3f62_213b_0c11_a206; a3 = bits 0xbf6e_3bf1_868f_0ab5; a4 = bits 0x3f71_4ac5_ace2_7e30; a5 = bits 0xbf6c_1ba4_a855_e2ef; a6 = bits 0x3f5f_ea64_a805_9e31; a7 = bits 0xbf46_3e80_04b2_aad4; a8 = bits 0x3f04_4854_e18b_adce; a9 = bits 0x3f1d_09d3_0c1e_823e; a10 = bits 0xbf12_7624_6d7a_bb3d; a11 = bits 0xbf44_d2f7_ef33_69f9 } ∷
    record { centre = bits 0x4006_0001_a000_0000; value = bits 0x3f1a_6080_3dc1_75fb; a1 = bits 0xbf43_35f7_56cc_c03e; a2 = bits 0x3f5a_6a36_0ad4_a728; a3 = bits 0xbf66_9cde_b738_3762; a4 = bits 0x3f6a_b0ab_860d_b667; a5 = bits 0xbf66_9348_d40f_0644; a6 = bits 0x3f5b_2746_b442_a7ba; a7 = bits 0xbf45_2b6a_19bf_be93; a8 = bits 0x3f17_5547_3e3b_cd1e; a9 = bits 0x3f14_15bd_5f85_91e7; a10 = bits 0xbf0b_e3b0_990a_04c7; a11 = bits 0xbf5e_61db_da17_fc5d } ∷
    record { centre = bits 0x4006_8007_d800_0000; value = bits 0x3f12_41c4_6ab2_199d; a1 = bits 0xbf3b_230f_f687_c8f3; a2 = bits 0x3f53_14ad_e02f_a2f8; a3 = bits 0xbf60_c1f3_3efe_8056; a4 = bits 0x3f64_62a9_4cf8_0ecb; a5 = bits 0xbf61_e80a_48aa_d659; a6 = bits 0x3f56_b3d5_c21d_5843; a7 = bits 0xbf43_6ec2_d202_d5ae; a8 = bits 0x3f1f_78f2_86e5_d079; a9 = bits 0x3f05_f9e5_020c_6eef; a10 = bits 0xbf07_7a9c_464d_fadc; a11 = bits 0xbf42_17c0_228d_2190 } ∷
    record { centre = bits 0x4007_000b_2800_0000; value = bits 0x3f09_1623_9701_f7db; a1 = bits 0xbf33_04a0_79d5_4aa5; a2 = bits 0x3f4b_56b3_f1dc_803f; a3 = bits 0xbf58_9d6b_c844_865d; a4 = bits 0x3f5e_d3e8_c6ac_2184; a5 = bits 0xbf5c_1156_2749_0b39; a6 = bits 0x3f52_ad7d_44c7_502a; a7 = bits 0xbf41_51c7_c11b_3c26; a8 = bits 0x3f21_c66d_3f36_ee8c; a9 = bits 0x3ef1_bcdb_5c54_8616; a10 = bits 0xbf01_ede1_5314_701b; a11 = bits 0xbf30_d7de_d0f8_5c91 } ∷
    record { centre = bits 0x4007_7ffd_2800_0000; value = bits 0x3f01_1c61_8aae_fbb0; a1 = bits 0xbf2a_743d_c2c6_d8b4; a2 = bits 0x3f43_6d5b_0135_8a15; a3 = bits 0xbf51_eb8e_e671_b1be; a4 = bits 0x3f57_1512_32e5_81ca; a5 = bits 0xbf55_bee0_d4c6_9c9c; a6 = bits 0x3f4e_4647_4d17_47e0; a7 = bits 0xbf3e_1b98_7594_511a; a8 = bits 0x3f22_456b_aaa3_10c5; a9 = bits 0xbeb0_85c3_bfda_5f10; a10 = bits 0xbef9_4586_6bdf_6216; a11 = bits 0xbf2d_3d37_e7ca_3f60 } ∷
    record { centre = bits 0x4007_fff2_7000_0000; value = bits 0x3ef7_2ad6_f57c_7084; a1 = bits 0xbf22_4148_47c9_9e8b; a2 = bits 0x3f3b_61dc_f258_28f9; a3 = bits 0xbf49_dc5c_c864_86c4; a4 = bits 0x3f51_1d12_e189_5419; a5 = bits 0xbf50_a830_556e_c258; a6 = bits 0x3f48_2fbb_3e5a_5857; a7 = bits 0xbf39_9933_dbc0_4464; a8 = bits 0x3f21_aa6b_6d89_bccf; a9 = bits 0xbee9_b642_5052_9433; a10 = bits 0xbeef_6189_8375_e040; a11 = bits 0xbf42_4d24_2347_3dd1 } ∷
    record { centre = bits 0x4008_7fff_9000_0000; value = bits 0x3eef_1ff6_e6af_a9b3; a1 = bits 0xbf18_fdca_11dd_ed29; a2 = bits 0x3f33_224e_5e35_a656; a3 = bits 0xbf42_7dc7_3b78_1ad8; a4 = bits 0x3f49_2036_2c96_7705; a5 = bits 0xbf49_3b52_d7d6_9632; a6 = bits 0x3f43_0ea2_7704_03dc; a7 = bits 0xbf35_55c1_31e3_019d; a8 = bits 0x3f20_5594_07dc_8b1a; a9 = bits 0xbef5_b21c_d0b2_c1b3; a10 = bits 0xbee2_533d_ab86_1d76; a11 = bits 0xbf32_1542_e162_3fce } ∷
    record { centre = bits 0x4008_fff8_b000_0000; value = bits 0x3ee4_c1c0_fe29_f682; a1 = bits 0xbf10_fa42_b16f_ffdf; a2 = bits 0x3f2a_8700_72de_84b4; a3 = bits 0xbf3a_37bd_7e67_01da; a4 = bits 0x3f42_459b_58c6_75b0; a5 = bits 0xbf42_e838_ad92_05f1; a6 = bits 0x3f3d_a506_a3e0_c2fc; a7 = bits 0xbf31_7707_bb9d_c75b; a8 = bits 0x3f1d_2b00_42a3_c3f4; a9 = bits 0xbefa_0080_8573_9714; a10 = bits 0xbed0_7676_442f_6dff; a11 = bits 0xbf2c_d0d9_472f_0026 } ∷
    record { centre = bits 0x4009_8000_e800_0000; value = bits 0x3edb_7916_ff4e_b609; a1 = bits 0xbf06_e225_f72b_11f0; a2 = bits 0x3f22_3c36_e6dd_e58c; a3 = bits 0xbf32_6be4_1b45_61c3; a4 = bits 0x3f3a_51eb_7018_a51e; a5 = bits 0xbf3c_0815_be5d_8f5c; a6 = bits 0x3f36_c3d0_d880_3ff6; a7 = bits 0xbf2c_1dc7_35c0_6ce6; a8 = bits 0x3f19_4c2b_5527_d9d8; a9 = bits 0xbefb_c7ad_f6d1_6d3b; a10 = bits 0xbe75_e760_8beb_6dea; a11 = bits 0xbf09_675c_b6fa_af59 } ∷
    record { centre = bits 0x4009_ffff_5800_0000; value = bits 0x3ed2_0c1d_0e52_c2c0; a1 = bits 0xbefe_9b6e_dedc_ddbe; a2 = bits 0x3f18_de49_7463_6e19; a3 = bits 0xbf29_aa54_f163_d8af; a4 = bits 0x3f32_c7de_5e5a_9540; a5 = bits 0xbf34_90ad_5237_46e9; a6 = bits 0x3f31_454c_b45c_943a; a7 = bits 0xbf26_47ff_64b6_35ee; a8 = bits 0x3f15_674b_c385_29fd; a9 = bits 0xbefb_082c_f4de_ed53; a10 = bits 0x3ec3_a851_1769_bf56; a11 = bits 0xbf06_e26d_3a96_7d7f } ∷
    record { centre = bits 0x400a_8002_2000_0000; value = bits 0x3ec7_8831_c1f4_7028; a1 = bits 0xbef4_4efe_276d_339b; a2 = bits 0x3f10_d16b_d1e5_4f5a; a3 = bits 0xbf21_b948_9dfe_2e5e; a4 = bits 0x3f2a_8d50_a7f7_c89f; a5 = bits 0xbf2d_dd44_b4ca_3902; a6 = bits 0x3f29_e50b_2176_3e7b; a7 = bits 0xbf21_659d_76ad_7268; a8 = bits 0x3f11_b74e_e433_6a30; a9 = bits 0xbef9_4c51_df99_7349; a10 = bits 0x3ecf_e8d7_2be1_a148; a11 = bits 0x3f11_6af6_2f2e_ee0a } ∷
    record { centre = bits 0x400a_fffc_1000_0000; value = bits 0x3ebe_74fc_5679_06d4; a1 = bits 0xbeea_be62_c1fd_53bb; a2 = bits 0x3f06_90a0_0940_97c7; a3 = bits 0xbf18_456c_3943_de5a; a4 = bits 0x3f22_992d_a856_64da; a5 = bits 0xbf25_7790_2464_527c; a6 = bits 0x3f23_30d8_dced_8b66; a7 = bits 0xbf1a_c9d3_f9a4_9ece; a8 = bits 0x3f0c_c189_5b3f_f8e4; a9 = bits 0xbef6_3132_f85e_c7aa; a10 = bits 0x3ed3_4a2c_e388_2d7a; a11 = bits 0xbf02_1500_40a8_b366 } ∷
    record { centre = bits 0x400b_7ff8_5800_0000; value = bits 0x3eb3_8fb4_493d_ef89; a1 = bits 0xbee1_78af_ddaa_7eaf; a2 = bits 0x3efe_0765_e8bc_e22c; a3 = bits 0xbf10_79db_99ec_5ad1; a4 = bits 0x3f19_d0cb_bad9_8c4a; a5 = bits 0xbf1e_8db2_c406_8aa2; a6 = bits 0x3f1c_1ffa_a0ee_fede; a7 = bits 0xbf14_5911_8128_d24f; a8 = bits 0x3f06_eb55_8fd8_5caa; a9 = bits 0xbef3_3207_d50c_ecb3; a10 = bits 0x3ed4_47cf_1036_0827; a11 = bits 0x3ec0_e13f_c6a5_6774 } ∷
    record { centre = bits 0x400b_ffff_4000_0000; value = bits 0x3ea8_ef3b_964f_c44c; a1 = bits 0xbed6_a5a5_fe4a_6f5c; a2 = bits 0x3ef3_d0f0_b69f_3d7b; a3 = bits 0xbf06_2cdb_f699_cf57; a4 = bits 0x3f11_c081_38d6_d1c2; a5 = bits 0xbf15_86c6_737c_796d; a6 = bits 0x3f14_615d_fe97_bd24; a7 = bits 0xbf0e_828b_3b1e_752e; a8 = bits 0x3f01_f635_b2c9_5cc4; a9 = bits 0xbef0_215a_0624_f1b5; a10 = bits 0x3ed3_871c_4458_5f68; a11 = bits 0x3ef2_814c_6926_1b8c } ∷
    record { centre = bits 0x400c_8000_3000_0000; value = bits 0x3e9f_8c06_b7f2_95dd; a1 = bits 0xbecd_2134_a161_a3c5; a2 = bits 0x3ee9_f193_0b6c_c4ce; a3 = bits 0xbefd_9827_4aba_e8d3; a4 = bits 0x3f08_320c_3f54_4b23; a5 = bits 0xbf0e_0a18_95e8_ba41; a6 = bits 0x3f0d_383e_6e4c_9b75; a7 = bits 0xbf06_96d8_5288_1a17; a8 = bits 0x3efb_b6df_f2c4_949c; a9 = bits 0xbeea_5062_f4a4_2a69; a10 = bits 0x3ed1_c8ee_0221_397e; a11 = bits 0xbe94_76cb_681f_ca61 } ∷
    record { centre = bits 0x400c_fff2_3800_0000; value = bits 0x3e93_cf78_7daf_3057; a1 = bits 0xbec2_978f_3cbd_d9ff; a2 = bits 0x3ee0_d951_cd46_9da7; a3 = bits 0xbef3_9593_3363_72c1; a4 = bits 0x3f00_5813_7ba1_93cd; a5 = bits 0xbf04_c2d4_8209_19ed; a6 = bits 0x3f04_ba49_43af_35e8; a7 = bits 0xbf00_8652_6180_bd56; a8 = bits 0x3ef5_1145_d27c_3bd4; a9 = bits 0xbee5_1331_700b_8fcb; a10 = bits 0x3ecf_4315_a108_06e9; a11 = bits 0xbeca_99da_f3e9_2f24 } ∷
    record { centre = bits 0x400d_8007_4000_0000; value = bits 0x3e88_ae3a_26e2_3f2b; a1 = bits 0xbeb7_895e_201d_8a6b; a2 = bits 0x3ed5_b2a8_1aba_8ee2; a3 = bits 0xbee9_b091_42d1_88ad; a4 = bits 0x3ef5_dfe8_640a_83be; a5 = bits 0xbefc_6968_eaa7_7002; a6 = bits 0x3efd_16f5_2c1f_9a91; a7 = bits 0xbef7_e22b_2a7a_fd78; a8 = bits 0x3eef_917b_8892_8bc6; a9 = bits 0xbee0_91b0_ec9d_ef6c; a10 = bits 0x3eca_7986_1433_0fbd; a11 = bits 0xbec6_c078_00a8_f9f7 } ∷
    record { centre = bits 0x400e_0000_6800_0000; value = bits 0x3e7e_873b_0a6b_47cc; a1 = bits 0xbead_9366_9f59_addd; a2 = bits 0x3ecb_ba30_9583_2085; a3 = bits 0xbee0_b6a1_cb88_d338; a4 = bits 0x3eed_06eb_bdce_10b5; a5 = bits 0xbef3_4365_a1be_8d99; a6 = bits 0x3ef4_3575_4450_0e48; a7 = bits 0xbef1_10d9_24ce_7e12; a8 = bits 0x3ee7_5665_d62e_517a; a9 = bits 0xbed9_a536_44e4_7fbc; a10 = bits 0x3ec5_d843_7137_b8f2; a11 = bits 0x3eb2_ca7b_a6c8_39dd } ∷
    record { centre = bits 0x400e_7fff_a000_0000; value = bits 0x3e72_bc89_9579_9c6c; a1 = bits 0xbea2_6fa4_8f37_b530; a2 = bits 0x3ec1_9268_a132_2b04; a3 = bits 0xbed5_9013_2b43_cfcb; a4 = bits 0x3ee3_1673_f71d_8fd2; a5 = bits 0xbee9_dfd4_036d_1fd6; a6 = bits 0x3eeb_cab9_d6b8_2326; a7 = bits 0xbee8_1cde_967f_5a54; a8 = bits 0x3ee1_06ed_ed83_8fa2; a9 = bits 0xbed3_72c3_d374_cfd3; a10 = bits 0x3ec1_94c1_97c4_34d0; a11 = bits 0xbec7_c942_3d36_38de } ∷
    record { centre = bits 0x400e_fff7_8800_0000; value = bits 0x3e66_d3d3_91fe_9715; a1 = bits 0xbe96_ced5_bf49_7e4b; a2 = bits 0x3eb6_1859_0812_20f9; a3 = bits 0xbecb_96cc_f687_9d36; a4 = bits 0x3ed8_e2b2_80fe_72a1; a5 = bits 0xbee1_378f_4ca4_468a; a6 = bits 0x3ee2_eba5_e2db_6056; a7 = bits 0xbee0_d92b_96d0_1c62; a8 = bits 0x3ed8_88e1_4916_5cd2; a9 = bits 0xbecd_215b_e574_5748; a10 = bits 0x3ebb_beac_0ad9_1419; a11 = bits 0xbeb7_7d61_d738_d7b1 } ∷
    record { centre = bits 0x400f_7ffd_2800_0000; value = bits 0x3e5b_9873_5e47_8b53; a1 = bits 0xbe8b_fdc3_b070_7418; a2 = bits 0x3eab_8dca_24e1_8e5b; a3 = bits 0xbec1_7fc1_9d4b_3588; a4 = bits 0x3ed0_13d8_9c87_7eac; a5 = bits 0xbed6_b27c_3c0e_70c6; a6 = bits 0x3ed9_80b1_45de_f0fd; a7 = bits 0xbed7_4952_6b52_f1b7; a8 = bits 0x3ed1_7528_97ff_f4a2; a9 = bits 0xbec5_7b28_85a0_777a; a10 = bits 0x3eb5_751a_97cc_31f2; a11 = bits 0xbeb1_fc91_80f8_ea78 } ∷
    record { centre = bits 0x4010_0005_bc00_0000; value = bits 0x3e50_8d19_a10a_84f0; a1 = bits 0xbe81_0a51_15d8_fb53; a2 = bits 0x3ea1_0a57_314b_8ae9; a3 = bits 0xbeb6_02b9_056c_b216; a4 = bits 0x3ec4_9739_a4ca_d781; a5 = bits 0xbecd_a4cc_48a6_1b63; a6 = bits 0x3ed1_0465_7421_5d0d; a7 = bits 0xbecf_d6ad_cd3d_458c; a8 = bits 0x3ec8_8bb0_52a6_4a0d; a9 = bits 0xbebf_3a2c_f927_3ffe; a10 = bits 0x3eb0_4aac_2210_aaa2; a11 = bits 0xbeb0_743f_1cb2_9009 } ∷
    record { centre = bits 0x4010_3ffe_2800_0000; value = bits 0x3e43_b677_5bec_bc37; a1 = bits 0xbe74_9859_d4c5_a8bd; a2 = bits 0x3e94_eab8_dc8a_655a; a3 = bits 0xbeab_777e_0b0d_725f; a4 = bits 0x3eba_271e_c693_cb0b; a5 = bits 0xbec3_3069_f0df_51a7; a6 = bits 0x3ec6_7f88_68d2_2472; a7 = bits 0xbec5_8b8a_0e32_21dd; a8 = bits 0x3ec1_0f86_7fed_ed60; a9 = bits 0xbeb6_6abf_e704_156a; a10 = bits 0x3ea8_4d27_5449_26a2; a11 = bits 0xbea0_5517_e9e3_a17b } ∷
    record { centre = bits 0x4010_7ffd_9400_0000; value = bits 0x3e37_4b8f_36b7_fca3; a1 = bits 0xbe68_b14b_2462_78cb; a2 = bits 0x3e89_76d1_c0af_6ccf; a3 = bits 0xbea0_fdfc_11e3_b9f8; a4 = bits 0x3eb0_764b_4d4e_f6ba; a5 = bits 0xbeb8_9d12_735e_44d4; a6 = bits 0x3ebd_7424_969a_6c07; a7 = bits 0xbebc_da52_dbc6_3c7d; a8 = bits 0x3eb7_7161_fba6_4464; a9 = bits 0xbeaf_beaf_e098_ea01; a10 = bits 0x3ea1_de8b_04e3_680d; a11 = bits 0xbe99_838e_622b_95bb } ∷
    record { centre = bits 0x4010_bffe_ac00_0000; value = bits 0x3e2b_5178_2511_dc57; a1 = bits 0xbe5d_5f8c_3b87_b9e0; a2 = bits 0x3e7e_c004_5e23_b2a5; a3 = bits 0xbe94_d959_1780_82b7; a4 = bits 0x3ea4_8b87_5af9_128b; a5 = bits 0xbeaf_4919_0721_8685; a6 = bits 0x3eb3_1867_d26e_0593; a7 = bits 0xbeb3_1f28_27c7_39d2; a8 = bits 0x3eaf_da30_cecb_9eab; a9 = bits 0xbea6_3479_2bcc_5095; a10 = bits 0x3e99_e09c_4c3e_fc8c; a11 = bits 0xbe87_a197_4525_7f05 } ∷
    record { centre = bits 0x4010_ffff_a400_0000; value = bits 0x3e1f_cb02_2ad7_8595; a1 = bits 0xbe51_55ad_cd4e_dd6c; a2 = bits 0x3e72_6b08_4677_23e6; a3 = bits 0xbe89_5eb9_4366_3efc; a4 = bits 0x3e99_6bb8_ea87_630f; a5 = bits 0xbea3_b475_3a2b_22f1; a6 = bits 0x3ea8_869d_e493_5767; a7 = bits 0xbea9_16f8_7167_7d1d; a8 = bits 0x3ea5_66fc_61c1_84ae; a9 = bits 0xbe9e_abed_9f9a_f33c; a10 = bits 0x3e92_778f_caaa_f0a2; a11 = bits 0xbe80_fc7e_80ee_dfed } ∷
    record { centre = bits 0x4011_3fff_6400_0000; value = bits 0x3e12_5c4e_093e_6ba0; a1 = bits 0xbe44_4d41_8b42_31d1; a2 = bits 0x3e65_e349_e432_1ea7; a3 = bits 0xbe7e_9e2b_b5af_e12b; a4 = bits 0x3e8f_2f95_2257_498d; a5 = bits 0xbe98_99f9_3319_6d26; a6 = bits 0x3e9f_34da_b0cb_cfb3; a7 = bits 0xbea0_4bf1_b326_1160; a8 = bits 0x3e9c_73d9_c8f2_7243; a9 = bits 0xbe94_ecab_17d3_8624; a10 = bits 0x3e89_ff44_79d5_d54f; a11 = bits 0xbe80_f2b7_fc45_f389 } ∷
    record { centre = bits 0x4011_8002_0800_0000; value = bits 0x3e05_0b15_ef5d_2bed; a1 = bits 0xbe37_96e5_a251_9c77; a2 = bits 0x3e59_cd0e_2831_6a3e; a3 = bits 0xbe72_5262_639d_30d4; a4 = bits 0x3e82_f6e8_0412_04b7; a5 = bits 0xbe8e_708b_1f2f_8724; a6 = bits 0x3e93_aac0_8cf9_592f; a7 = bits 0xbe94_f5c4_4be8_5cf7; a8 = bits 0x3e92_b5f0_e35a_3d17; a9 = bits 0xbe8c_3c9c_01e0_76ca; a10 = bits 0x3e82_1043_54ea_77f7; a11 = bits 0xbe6e_d473_1cf1_3271 } ∷
    record { centre = bits 0x4011_bffe_f800_0000; value = bits 0x3df7_f073_ad73_1052; a1 = bits 0xbe2b_338d_e938_9115; a2 = bits 0x3e4e_2d2f_ade8_1b6a; a3 = bits 0xbe65_c057_027c_18af; a4 = bits 0x3e76_df7d_2347_bbeb; a5 = bits 0xbe82_ab1d_c13a_0bcd; a6 = bits 0x3e88_905f_0e62_4c88; a7 = bits 0xbe8a_b2dd_222b_d5d3; a8 = bits 0x3e88_5ae9_5c83_8643; a9 = bits 0xbe82_d40d_b35c_44df; a10 = bits 0x3e78_c55b_424d_5787; a11 = bits 0xbe67_9b61_75d1_cd5e } ∷
    record { centre = bits 0x4011_ffff_8000_0000; value = bits 0x3deb_05ef_0130_38ed; a1 = bits 0xbe1f_1e58_25c3_1a53; a2 = bits 0x3e41_8111_18c4_5e38; a3 = bits 0xbe59_9ba1_befc_70bc; a4 = bits 0x3e6b_59a9_1299_3b01; a5 = bits 0xbe76_b1d1_c02d_ef20; a6 = bits 0x3e7e_652b_abd3_0ba4; a7 = bits 0xbe80_d688_a1b2_d2d7; a8 = bits 0x3e7f_5f4c_b1ef_a722; a9 = bits 0xbe78_d328_b05a_f2e2; a10 = bits 0x3e70_c721_ceb7_44fb; a11 = bits 0xbe62_d571_7160_f1e2 } ∷
    record { centre = bits 0x4012_4006_2800_0000; value = bits 0x3dde_43f6_9ba1_1dd0; a1 = bits 0xbe11_a857_f304_f4f8; a2 = bits 0x3e34_240b_1c77_7e6d; a3 = bits 0xbe4d_e52c_e653_39ba; a4 = bits 0x3e60_35e3_8fd8_0691; a5 = bits 0xbe6b_5799_1ccf_1ecf; a6 = bits 0x3e72_a151_e6d8_0832; a7 = bits 0xbe75_07e5_5416_040c; a8 = bits 0x3e73_ff09_985b_ad79; a9 = bits 0xbe70_2f31_72db_9d46; a10 = bits 0x3e66_72b4_6900_b429; a11 = bits 0xbe5b_2f75_6c83_aabe } ∷
    record { centre = bits 0x4012_8000_2400_0000; value = bits 0x3dd0_d3ad_b7ec_bbff; a1 = bits 0xbe03_e447_cd32_ae8a; a2 = bits 0x3e26_fff3_3204_3b5c; a3 = bits 0xbe41_508a_1a1c_cb81; a4 = bits 0x3e53_0fcb_0866_5715; a5 = bits 0xbe60_555e_61bc_543f; a6 = bits 0x3e66_a3a3_6cf7_8ccb; a7 = bits 0xbe6a_06f5_6a06_c3db; a8 = bits 0x3e69_3e1f_5b3e_eb40; a9 = bits 0xbe64_e270_333e_1ec6; a10 = bits 0x3e5d_ae72_b516_5a07; a11 = bits 0xbe51_127e_5873_20a6 } ∷
    record { centre = bits 0x4012_c003_3400_0000; value = bits 0x3dc2_8fde_52dc_4562; a1 = bits 0xbdf6_3a1f_d4d1_6dee; a2 = bits 0x3e1a_0c21_c088_4c2f; a3 = bits 0xbe33_e2f2_83ef_4b53; a4 = bits 0x3e46_3821_7070_6f62; a5 = bits 0xbe53_56d0_b817_1ac3; a6 = bits 0x3e5b_4140_6d91_2a27; a7 = bits 0xbe5f_e5ca_f4e6_a8cb; a8 = bits 0x3e5f_8a2e_9066_761c; a9 = bits 0xbe5a_a65e_6b94_04c9; a10 = bits 0x3e53_65ff_39f6_1e87; a11 = bits 0xbe49_9988_1913_f84e } ∷
    record { centre = bits 0x4013_0000_b400_0000; value = bits 0x3db4_52f1_670e_66da; a1 = bits 0xbde8_a5ee_1cb2_3b16; a2 = bits 0x3e0d_450b_d75e_5cee; a3 = bits 0xbe26_a88a_9ac2_2a51; a4 = bits 0x3e39_afef_c30a_b4e3; a5 = bits 0xbe46_b41a_4818_4aa9; a6 = bits 0x3e50_42da_d22f_ec50; a7 = bits 0xbe53_5dac_a5bb_a3ab; a8 = bits 0x3e53_8332_b870_382e; a9 = bits 0xbe50_d51c_3530_0253; a10 = bits 0x3e49_1142_d5f7_ac9f; a11 = bits 0xbe3e_28a7_fee4_78f7 } ∷
    record { centre = bits 0x4013_4000_dc00_0000; value = bits 0x3da6_14d2_592d_5bdb; a1 = bits 0xbddb_1e22_bb88_cfc7; a2 = bits 0x3e00_5021_9f3f_7bc8; a3 = bits 0xbe19_9a96_614a_bc41; a4 = bits 0x3e2d_71fb_7fd6_27a7; a5 = bits 0xbe3a_6bb8_0e03_c4f1; a6 = bits 0x3e43_3a89_ac92_c44a; a7 = bits 0xbe47_4b4a_35a3_b5c8; a8 = bits 0x3e47_e7c0_b5dc_8b3f; a9 = bits 0xbe45_08cb_88ba_9816; a10 = bits 0x3e40_03f0_b08a_0000; a11 = bits 0xbe36_43b3_1c13_cf29 } ∷
    record { centre = bits 0x4013_7ffb_bc00_0000; value = bits 0x3d97_cff0_c214_2cff; a1 = bits 0xbdcd_9bbb_e2cb_307b; a2 = bits 0x3df2_0ae2_8bd1_65f0; a3 = bits 0xbe0c_b3c0_79f1_82b1; a4 = bits 0x3e20_bd11_5bb0_65be; a5 = bits 0xbe2e_7cc5_df64_26be; a6 = bits 0x3e36_8a03_b4ac_d1ed; a7 = bits 0xbe3b_c3a3_b846_9da8; a8 = bits 0x3e3d_01f8_1ee8_70ab; a9 = bits 0xbe3a_06a0_5050_ffb5; a10 = bits 0x3e34_3da8_5c26_2162; a11 = bits 0xbe2b_a465_4c26_e672 } ∷
    record { centre = bits 0x4013_bfff_8000_0000; value = bits 0x3d89_7965_bad0_48ca; a1 = bits 0xbdc0_0863_bb74_0800; a2 = bits 0x3de3_ca5a_9b20_1c05; a3 = bits 0xbdff_e75a_cf11_8f0a; a4 = bits 0x3e12_ddb0_7063_63d9; a5 = bits 0xbe21_6f0a_5b4d_6b12; a6 = bits 0x3e2a_2d75_9838_ed6b; a7 = bits 0xbe30_639b_0b8f_8c43; a8 = bits 0x3e31_6cee_74be_27eb; a9 = bits 0xbe2f_de67_ecec_0135; a10 = bits 0x3e29_4d68_ce86_a927; a11 = bits 0xbe20_74a9_2eb9_9e1c } ∷
    record { centre = bits 0x4014_0005_5800_0000; value = bits 0x3d7b_0aaa_3307_d9a4; a1 = bits 0xbdb1_3a0e_c692_17d0; a2 = bits 0x3dd5_8898_391a_8d17; a3 = bits 0xbdf1_95f8_ac32_4eea; a4 = bits 0x3e05_15cb_b474_4c57; a5 = bits 0xbe13_c42b_7cf7_866d; a6 = bits 0x3e1e_21f1_db3a_64ce; a7 = bits 0xbe23_2b94_ee92_9fb9; a8 = bits 0x3e24_bc00_c2a6_6814; a9 = bits 0xbe23_4f9b_f176_72df; a10 = bits 0x3e1f_49d0_6f59_ef2e; a11 = bits 0xbe15_f793_4dcc_f418 } ∷
    record { centre = bits 0x4014_3ffe_4400_0000; value = bits 0x3d6c_8020_4059_bf72; a1 = bits 0xbda2_5fef_8af0_5e7a; a2 = bits 0x3dc7_4169_2df2_0044; a3 = bits 0xbde3_3d2f_684f_bea4; a4 = bits 0x3df7_615e_dd8e_3f8c; a5 = bits 0xbe06_3aca_77dd_be41; a6 = bits 0x3e11_3292_e70c_b7ff; a7 = bits 0xbe16_3a86_683f_9c06; a8 = bits 0x3e18_72a5_6a00_8baa; a9 = bits 0xbe17_2e99_7702_cdc4; a10 = bits 0x3e13_265d_00af_5c27; a11 = bits 0xbe0b_537b_e5ec_671b } ∷
    record { centre = bits 0x4014_8002_1000_0000; value = bits 0x3d5d_cbaf_4c14_03f1; a1 = bits 0xbd93_7044_c5b7_8ca4; a2 = bits 0x3db8_e7da_9ecc_09b1; a3 = bits 0xbdd4_de60_c771_e9b8; a4 = bits 0x3de9_b345_9441_31eb; a5 = bits 0xbdf8_c715_e916_ceb4; a6 = bits 0x3e03_7371_4613_a498; a7 = bits 0xbe09_8835_5d32_8966; a8 = bits 0x3e0c_8b7f_6421_f560; a9 = bits 0xbe0b_8b7f_bb52_ed31; a10 = bits 0x3e07_30f0_6bc9_5e84; a11 = bits 0xbe01_1d5f_c911_ca11 } ∷
    record { centre = bits 0x4014_c000_b800_0000; value = bits 0x3d4e_eaec_dc9f_5940; a1 = bits 0xbd84_6871_c8dc_60a0; a2 = bits 0x3daa_7774_7b2e_e9d9; a3 = bits 0xbdc6_751b_213a_767a; a4 = bits 0x3ddc_0590_ac38_7f3a; a5 = bits 0xbdeb_6365_11f6_c40b; a6 = bits 0x3df5_cfb3_5c44_fde6; a7 = bits 0xbdfd_1128_28db_366c; a8 = bits 0x3e00_82de_49a4_40e1; a9 = bits 0xbe00_3508_0685_ce0d; a10 = bits 0x3dfb_ccf6_496f_7b5a; a11 = bits 0xbdf5_5bd0_ab30_b22a } ∷
    record { centre = bits 0x4014_ffff_8800_0000; value = bits 0x3d3f_d618_6703_4583; a1 = bits 0xbd75_4249_1e58_2a49; a2 = bits 0x3d9b_e6ff_5862_931f; a3 = bits 0xbdb7_f8bd_5bdc_184e; a4 = bits 0x3dce_4cd7_dbc3_220a; a5 = bits 0xbdde_046d_56dc_d91c; a6 = bits 0x3de8_3ebf_a148_38cd; a7 = bits 0xbdf0_65a7_4755_0e8f; a8 = bits 0x3df2_ec67_217e_e26c; a9 = bits 0xbdf2_e39d_0b37_67f9; a10 = bits 0x3df0_7e6a_cd75_59fd; a11 = bits 0xbde9_3d0a_1dde_27de } ∷
    record { centre = bits 0x4015_4003_1400_0000; value = bits 0x3d30_4332_b05b_6283; a1 = bits 0xbd65_f804_d7c7_c75d; a2 = bits 0x3d8d_2d6a_a88c_434e; a3 = bits 0xbda9_6064_bebb_34f3; a4 = bits 0x3dc0_3e68_740b_0860; a5 = bits 0xbdd0_4eb4_1a8d_6521; a6 = bits 0x3dda_b644_1ff9_d98a; a7 = bits 0xbde2_54c7_46d8_09a8; a8 = bits 0x3de5_7bee_3fc8_c143; a9 = bits 0xbde5_cc90_0d9e_d37b; a10 = bits 0x3de3_5f37_e884_c336; a11 = bits 0xbdde_1ed8_02fc_6bae } ∷
    record { centre = bits 0x4015_8002_5400_0000; value = bits 0x3d20_7d6d_9a9c_c495; a1 = bits 0xbd56_8796_ec8c_3dce; a2 = bits 0x3d7e_4636_1517_28fd; a3 = bits 0xbd9a_a6c0_3dc6_bdaa; a4 = bits 0x3db1_4694_a41d_6181; a5 = bits 0xbdc1_926d_ca84_a928; a6 = bits 0x3dcd_2e05_5e57_9d7d; a7 = bits 0xbdd4_5064_29b2_50a6; a8 = bits 0x3dd8_2baa_fa94_4209; a9 = bits 0xbdd8_eb96_07e1_e8f1; a10 = bits 0x3dd6_8769_a04c_70a4; a11 = bits 0xbdd2_058a_706c_9244 } ∷
    record { centre = bits 0x4015_bffe_c800_0000; value = bits 0x3d10_9830_123f_c075; a1 = bits 0xbd46_ed7b_1cf9_1abe; a2 = bits 0x3d6f_2ad1_9c4b_bfab; a3 = bits 0xbd8b_c484_7a88_26f7; a4 = bits 0x3da2_3957_494a_d5e4; a5 = bits 0xbdb2_c6fc_0b9a_85ca; a6 = bits 0x3dbf_9a9b_4a36_4900; a7 = bits 0xbdc6_5067_02ac_1ca5; a8 = bits 0x3dca_f26d_77b9_cb21; a9 = bits 0xbdcc_38aa_d5cd_a055; a10 = bits 0x3dc9_f1b6_8894_5b97; a11 = bits 0xbdc5_4513_a571_f964 } ∷
    record { centre = bits 0x4016_0005_a400_0000; value = bits 0x3d00_907d_9bbf_57e2; a1 = bits 0xbd37_241f_1057_90c8; a2 = bits 0x3d5f_d1b2_def4_5a9d; a3 = bits 0xbd7c_af80_2127_0b8d; a4 = bits 0x3d93_0ef9_6b3f_c7ca; a5 = bits 0xbda3_e382_ee57_5d8b; a6 = bits 0x3db0_f5f8_de4a_7b54; a7 = bits 0xbdb8_48fe_6051_0279; a8 = bits 0x3dbd_c1f6_7a0d_ff7b; a9 = bits 0xbdbf_a5d6_1324_d8d9; a10 = bits 0x3dbd_931a_e31b_8960; a11 = bits 0xbdb8_a384_281f_d900 } ∷
    record { centre = bits 0x4016_3ffc_1400_0000; value = bits 0x3cf0_6b4f_44c8_e490; a1 = bits 0xbd27_30d6_2ddb_d17a; a2 = bits 0x3d50_1ff2_1446_97cc; a3 = bits 0xbd6d_6a31_ca32_dc1f; a4 = bits 0x3d83_c7d3_9830_74ea; a5 = bits 0xbd94_e71c_0d8b_ef14; a6 = bits 0x3da2_0f52_9ee7_6b4b; a7 = bits 0xbdaa_36b9_5f31_0243; a8 = bits 0x3db0_4aac_6f30_56f0; a9 = bits 0xbdb1_96ff_163e_1845; a10 = bits 0x3db0_b3cd_1047_6cbf; a11 = bits 0xbdab_f2f7_aa69_011e } ∷
    record { centre = bits 0x4016_8004_6400_0000; value = bits 0x3ce0_2353_8afd_3436; a1 = bits 0xbd17_0ace_689d_ead4; a2 = bits 0x3d40_339c_4aea_9b3c; a3 = bits 0xbd5d_e5e6_ad2c_1d9f; a4 = bits 0x3d74_58d9_1e24_6493; a5 = bits 0xbd85_c4f3_461e_e2da; a6 = bits 0x3d93_0d66_612f_c831; a7 = bits 0xbd9c_0741_5ce4_56fb; a8 = bits 0x3da1_aa87_46d6_5b3d; a9 = bits 0xbda3_5b95_34e8_79fd; a10 = bits 0x3da2_abea_76da_8916; a11 = bits 0xbd9f_d96d_0191_f123 } ∷
    record { centre = bits 0x4016_c001_0c00_0000; value = bits 0x3ccf_7ef0_5bc0_c755; a1 = bits 0xbd06_ba4e_02a9_8393; a2 = bits 0x3d30_2874_343c_d0e7; a3 = bits 0xbd4e_28d1_6bd7_3e32; a4 = bits 0x3d64_c4ab_b268_d8f6; a5 = bits 0xbd76_7e2f_bd2d_31d3; a6 = bits 0x3d83_efd7_0e85_bf92; a7 = bits 0xbd8d_b83f_6dbe_9cd6; a8 = bits 0x3d92_fe24_28eb_62ff; a9 = bits 0xbd95_1d6a_201e_2f4d; a10 = bits 0x3d94_aea6_9761_093a; a11 = bits 0xbd92_11e2_8beb_660a } ∷
    []

abbrev pub no_row : ErfcRow
no_row = record { centre = zero·; value = zero·; a1 = zero·; a2 = zero·; a3 = zero·; a4 = zero·; a5 = zero·; a6 = zero·; a7 = zero·; a8 = zero·; a9 = zero·; a10 = zero·; a11 = zero· }

unfoldable pub erfc_row_of : ℕ → ErfcRow
erfc_row_of j = get_or erfc_rows j no_row
