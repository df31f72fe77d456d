-- The table of `log`, each number by its bits. Row j is for the j-th of 64 parts of the numbers from 0.698 to 1.396: a centre, its inverse, and its log as `high` + `low`.
-- Written by tools/tables.py.
use Rattle.std.specs.Prelude.{List, [], ◌∷◌, ℕ, get_or}
use Rattle.num.specs.F64.{bits, zero·}
use Rattle.tables.specs.declared.log.LogRow.{LogRow}

unfoldable pub log_rows : List LogRow
log_rows =
    record { centre = bits 0x3fe6_7800_0000_0000; inverse = bits 0x3ff6_c986_3b1a_b429; high = bits 0xbfd6_a18d_b74a_6000; low = bits 0x3d3c_eb6b_3da8_5227 } ∷
    record { centre = bits 0x3fe6_b800_0000_0000; inverse = bits 0x3ff6_8954_dd23_90ba; high = bits 0xbfd5_ec43_3d5c_3000; low = bits 0xbd36_b71a_1229_d17f } ∷
    record { centre = bits 0x3fe6_f800_0000_0000; inverse = bits 0x3ff6_4a89_3adc_d25f; high = bits 0xbfd5_38f4_af8f_7000; low = bits 0xbd27_ec02_e455_47ce } ∷
    record { centre = bits 0x3fe7_3800_0000_0000; inverse = bits 0x3ff6_0d17_c61d_a198; high = bits 0xbfd4_8797_0e95_8000; low = bits 0xbd3d_c1b8_465c_f25f } ∷
    record { centre = bits 0x3fe7_7800_0000_0000; inverse = bits 0x3ff5_d0f5_6ec9_1e57; high = bits 0xbfd3_d81f_b594_7000; low = bits 0x3d22_2c7c_2a9d_37a4 } ∷
    record { centre = bits 0x3fe7_b800_0000_0000; inverse = bits 0x3ff5_9617_9c29_d2ce; high = bits 0xbfd3_2a84_5651_2000; low = bits 0xbd04_f928_139a_f5d6 } ∷
    record { centre = bits 0x3fe7_f800_0000_0000; inverse = bits 0x3ff5_5c74_26b7_9286; high = bits 0xbfd2_7eba_f58d_9000; low = bits 0x3d2b_1988_00b4_bda7 } ∷
    record { centre = bits 0x3fe8_3800_0000_0000; inverse = bits 0x3ff5_2401_5240_1524; high = bits 0xbfd1_d4b9_e796_c000; low = bits 0xbd22_2a66_7c42_e56d } ∷
    record { centre = bits 0x3fe8_7800_0000_0000; inverse = bits 0x3ff4_ecb5_c86b_3d24; high = bits 0xbfd1_2c77_cd00_7000; low = bits 0xbd13_b294_8a11_f797 } ∷
    record { centre = bits 0x3fe8_b800_0000_0000; inverse = bits 0x3ff4_b688_9394_8d1c; high = bits 0xbfd0_85eb_8f8a_e000; low = bits 0xbd3e_5d51_3f45_fe7b } ∷
    record { centre = bits 0x3fe8_f800_0000_0000; inverse = bits 0x3ff4_8171_19f3_d325; high = bits 0xbfcf_c218_be62_0000; low = bits 0xbd34_bba4_6f1c_f6a0 } ∷
    record { centre = bits 0x3fe9_3800_0000_0000; inverse = bits 0x3ff4_4d67_190f_8b43; high = bits 0xbfce_7ba3_5eb7_8000; low = bits 0x3d0d_5eee_2379_3649 } ∷
    record { centre = bits 0x3fe9_7800_0000_0000; inverse = bits 0x3ff4_1a62_a173_e821; high = bits 0xbfcd_3866_6872_0000; low = bits 0x3d37_3650_b389_32bc } ∷
    record { centre = bits 0x3fe9_b800_0000_0000; inverse = bits 0x3ff3_e85c_12a9_d651; high = bits 0xbfcb_f851_c067_6000; low = bits 0x3d35_420e_4c08_54ad } ∷
    record { centre = bits 0x3fe9_f800_0000_0000; inverse = bits 0x3ff3_b74c_1769_aa5c; high = bits 0xbfca_bb55_c316_a000; low = bits 0x3d38_a65a_caf1_4cd8 } ∷
    record { centre = bits 0x3fea_3800_0000_0000; inverse = bits 0x3ff3_872b_a205_7e04; high = bits 0xbfc9_8163_4011_a000; low = bits 0xbd34_eadd_9e90_45e2 } ∷
    record { centre = bits 0x3fea_7800_0000_0000; inverse = bits 0x3ff3_57f3_e907_8e5b; high = bits 0xbfc8_4a6b_759f_6000; low = bits 0x3d3d_a280_2adf_8609 } ∷
    record { centre = bits 0x3fea_b800_0000_0000; inverse = bits 0x3ff3_299e_6401_329a; high = bits 0xbfc7_1660_0c91_4000; low = bits 0xbce5_1b15_7cec_3838 } ∷
    record { centre = bits 0x3fea_f800_0000_0000; inverse = bits 0x3ff2_fc24_c887_4486; high = bits 0xbfc5_e533_144c_2000; low = bits 0x3d31_ce0b_f3b2_90ea } ∷
    record { centre = bits 0x3feb_3800_0000_0000; inverse = bits 0x3ff2_cf81_0759_0e67; high = bits 0xbfc4_b6d6_fefe_2000; low = bits 0xbd15_22ec_f56e_7952 } ∷
    record { centre = bits 0x3feb_7800_0000_0000; inverse = bits 0x3ff2_a3ad_49af_0907; high = bits 0xbfc3_8b3e_9e02_8000; low = bits 0x3d37_0ef0_545c_17f9 } ∷
    record { centre = bits 0x3feb_b800_0000_0000; inverse = bits 0x3ff2_78a3_eeae_e650; high = bits 0xbfc2_625d_1e6d_e000; low = bits 0x3cf5_2962_f09e_3d82 } ∷
    record { centre = bits 0x3feb_f800_0000_0000; inverse = bits 0x3ff2_4e5f_8902_9305; high = bits 0xbfc1_3c26_05c3_a000; low = bits 0x3d2c_f5fd_d94f_6509 } ∷
    record { centre = bits 0x3fec_3800_0000_0000; inverse = bits 0x3ff2_24da_dc90_0489; high = bits 0xbfc0_188d_2ecf_6000; low = bits 0xbd03_f965_1cff_9dfe } ∷
    record { centre = bits 0x3fec_7800_0000_0000; inverse = bits 0x3ff1_fc10_dc4f_ce8b; high = bits 0xbfbd_ef0d_8d46_8000; low = bits 0x3d32_4750_412e_9a74 } ∷
    record { centre = bits 0x3fec_b800_0000_0000; inverse = bits 0x3ff1_d3fc_a840_a074; high = bits 0xbfbb_b20e_936d_8000; low = bits 0x3d36_8ba8_3545_9b8e } ∷
    record { centre = bits 0x3fec_f800_0000_0000; inverse = bits 0x3ff1_ac99_8b75_eb90; high = bits 0xbfb9_7a07_024c_c000; low = bits 0x3cf8_bcc1_7320_93ce } ∷
    record { centre = bits 0x3fed_3800_0000_0000; inverse = bits 0x3ff1_85e2_fa40_1186; high = bits 0xbfb7_46e1_0022_8000; low = bits 0x3d31_26d1_6e1e_21d2 } ∷
    record { centre = bits 0x3fed_7800_0000_0000; inverse = bits 0x3ff1_5fd4_906c_96f1; high = bits 0xbfb5_1887_4226_0000; low = bits 0xbd33_0a1d_9625_8b3e } ∷
    record { centre = bits 0x3fed_b800_0000_0000; inverse = bits 0x3ff1_3a6a_0f9c_f01e; high = bits 0xbfb2_eee5_07b4_0000; low = bits 0xbd08_081e_dd77_c860 } ∷
    record { centre = bits 0x3fed_f800_0000_0000; inverse = bits 0x3ff1_159f_5db2_9606; high = bits 0xbfb0_c9e6_15ac_4000; low = bits 0xbd2c_2da8_0974_d976 } ∷
    record { centre = bits 0x3fee_3800_0000_0000; inverse = bits 0x3ff0_f170_834f_27fa; high = bits 0xbfad_52ed_6406_0000; low = bits 0x3d33_c85d_2a29_bbd6 } ∷
    record { centre = bits 0x3fee_7800_0000_0000; inverse = bits 0x3ff0_cdd9_aa67_7344; high = bits 0xbfa9_1b07_3efd_8000; low = bits 0x3d19_d7c5_3f76_ca96 } ∷
    record { centre = bits 0x3fee_b800_0000_0000; inverse = bits 0x3ff0_aad7_1ce8_4d16; high = bits 0xbfa4_ebf4_334a_0000; low = bits 0x3d2d_9150_f73b_e773 } ∷
    record { centre = bits 0x3fee_f800_0000_0000; inverse = bits 0x3ff0_8865_436c_3cf7; high = bits 0xbfa0_c58f_a19e_0000; low = bits 0x3d05_59d1_58b1_7913 } ∷
    record { centre = bits 0x3fef_3800_0000_0000; inverse = bits 0x3ff0_6680_a401_0668; high = bits 0xbf99_4f6b_99a2_0000; low = bits 0xbd31_1d5e_f96c_f7f5 } ∷
    record { centre = bits 0x3fef_7800_0000_0000; inverse = bits 0x3ff0_4525_e0fc_2fcb; high = bits 0xbf91_2487_a550_0000; low = bits 0xbd3f_dbe5_fed4_b393 } ∷
    record { centre = bits 0x3fef_b800_0000_0000; inverse = bits 0x3ff0_2451_b7dd_b2d2; high = bits 0xbf82_145e_939e_0000; low = bits 0xbd3e_3d12_38c4_ea00 } ∷
    record { centre = bits 0x3ff0_0000_0000_0000; inverse = bits 0x3ff0_0000_0000_0000; high = bits 0x0000_0000_0000_0000; low = bits 0x0000_0000_0000_0000 } ∷
    record { centre = bits 0x3ff0_3400_0000_0000; inverse = bits 0x3fef_994d_c345_5e8d; high = bits 0x3f89_d61a_adc6_0000; low = bits 0x3d37_b196_327b_4257 } ∷
    record { centre = bits 0x3ff0_7400_0000_0000; inverse = bits 0x3fef_1e63_ad57_473c; high = bits 0x3f9c_98d1_8d01_0000; low = bits 0xbd2b_f615_0589_df0f } ∷
    record { centre = bits 0x3ff0_b400_0000_0000; inverse = bits 0x3fee_a727_8378_ef7a; high = bits 0x3fa6_0506_fe99_0000; low = bits 0xbd32_ba40_8194_e036 } ∷
    record { centre = bits 0x3ff0_f400_0000_0000; inverse = bits 0x3fee_336f_9a12_6758; high = bits 0x3fad_a047_8be3_8000; low = bits 0x3d22_52c7_b1f6_fe05 } ∷
    record { centre = bits 0x3ff1_3400_0000_0000; inverse = bits 0x3fed_c314_b1a4_6384; high = bits 0x3fb2_8f83_450e_c000; low = bits 0x3d3a_8d75_aa11_9769 } ∷
    record { centre = bits 0x3ff1_7400_0000_0000; inverse = bits 0x3fed_55f1_ca5e_e1fa; high = bits 0x3fb6_410b_46fe_8000; low = bits 0xbd15_3f8f_3cbd_8d14 } ∷
    record { centre = bits 0x3ff1_b400_0000_0000; inverse = bits 0x3fec_ebe3_fb7b_2461; high = bits 0x3fb9_e520_97f9_c000; low = bits 0x3d23_5fac_b52d_d050 } ∷
    record { centre = bits 0x3ff1_f400_0000_0000; inverse = bits 0x3fec_84ca_4dfb_192d; high = bits 0x3fbd_7c23_c69c_c000; low = bits 0xbd29_7ee4_dd32_8771 } ∷
    record { centre = bits 0x3ff2_3400_0000_0000; inverse = bits 0x3fec_2085_9a7a_9dc6; high = bits 0x3fc0_8338_affa_2000; low = bits 0x3d30_533c_ac82_3e27 } ∷
    record { centre = bits 0x3ff2_7400_0000_0000; inverse = bits 0x3feb_bef8_69c8_1313; high = bits 0x3fc2_4231_13ba_6000; low = bits 0xbd3e_3a00_78ee_9d9c } ∷
    record { centre = bits 0x3ff2_b400_0000_0000; inverse = bits 0x3feb_6006_d801_b600; high = bits 0x3fc3_fb25_a595_2000; low = bits 0x3d31_95be_6b35_8ff7 } ∷
    record { centre = bits 0x3ff2_f400_0000_0000; inverse = bits 0x3feb_0396_79fc_337f; high = bits 0x3fc5_ae3f_4a3a_a000; low = bits 0x3d21_ea25_f012_a8b9 } ∷
    record { centre = bits 0x3ff3_3400_0000_0000; inverse = bits 0x3fea_a98e_44bd_22c9; high = bits 0x3fc7_5ba5_4ac8_e000; low = bits 0x3d3d_dca5_8bc4_a7c0 } ∷
    record { centre = bits 0x3ff3_7400_0000_0000; inverse = bits 0x3fea_51d6_76d9_8c71; high = bits 0x3fc9_037d_6a18_0000; low = bits 0x3d23_0dea_57c1_c8d9 } ∷
    record { centre = bits 0x3ff3_b400_0000_0000; inverse = bits 0x3fe9_fc58_838d_801a; high = bits 0x3fca_a5eb_f8a9_4000; low = bits 0xbd32_a0a9_3695_1a8f } ∷
    record { centre = bits 0x3ff3_f400_0000_0000; inverse = bits 0x3fe9_a8fe_ff66_0a06; high = bits 0x3fcc_4313_e754_e000; low = bits 0x3d32_79be_74ca_d7d6 } ∷
    record { centre = bits 0x3ff4_3400_0000_0000; inverse = bits 0x3fe9_57b5_8e5a_add6; high = bits 0x3fcd_db16_d8ce_a000; low = bits 0xbd1e_ef79_7104_b8bc } ∷
    record { centre = bits 0x3ff4_7400_0000_0000; inverse = bits 0x3fe9_0868_d336_f476; high = bits 0x3fcf_6e15_3215_4000; low = bits 0xbd3c_9a97_7ac4_ec74 } ∷
    record { centre = bits 0x3ff4_b400_0000_0000; inverse = bits 0x3fe8_bb06_6037_a4ce; high = bits 0x3fd0_7e17_14f1_d000; low = bits 0xbd3e_fcc6_4f38_4bd5 } ∷
    record { centre = bits 0x3ff4_f400_0000_0000; inverse = bits 0x3fe8_6f7c_a8c1_f4ed; high = bits 0x3fd1_42bf_eb9a_0000; low = bits 0x3d31_ce61_85b5_8a9e } ∷
    record { centre = bits 0x3ff5_3400_0000_0000; inverse = bits 0x3fe8_25ba_f41d_6dfc; high = bits 0x3fd2_0513_9f73_b000; low = bits 0x3cf6_e15e_1609_e0a4 } ∷
    record { centre = bits 0x3ff5_7400_0000_0000; inverse = bits 0x3fe7_ddb1_511b_689a; high = bits 0x3fd2_c520_304f_8000; low = bits 0x3d23_0852_8c34_2f39 } ∷
    record { centre = bits 0x3ff5_b400_0000_0000; inverse = bits 0x3fe7_9750_8a98_f92e; high = bits 0x3fd3_82f3_216c_5000; low = bits 0xbd10_61d2_1d1a_7f6d } ∷
    record { centre = bits 0x3ff5_f400_0000_0000; inverse = bits 0x3fe7_528a_1cc9_e27c; high = bits 0x3fd4_3e99_7f2c_1000; low = bits 0x3d1c_3f72_40c4_1a04 } ∷
    record { centre = bits 0x3ff6_3400_0000_0000; inverse = bits 0x3fe7_0f50_2b3c_b651; high = bits 0x3fd4_f81f_e476_4000; low = bits 0xbd27_fcf6_434f_f08d } ∷
    []

abbrev pub no_row : LogRow
no_row = record { centre = zero·; inverse = zero·; high = zero·; low = zero· }

unfoldable pub log_row_of : ℕ → LogRow
log_row_of j = get_or log_rows j no_row
