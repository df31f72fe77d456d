-- What the steps of exp give, beside its power series: within 3/8 of zero to x^14 / 14!, and for the reduced argument to x^5 / 5!. The numerals come from
-- tools/numerals.py: a step's own error is 2^i, then stand its whole error and its size. All are in 2^-64, and each is checked by computing.
use Rattle.std.specs.Prelude.{refl, Bool, [], ◌∷◌, ℕ, ◌*◌, ◌≤◌, Float}
use Rattle.std.proofs.Common.{lit<}
use Rattle.std.specs.Float.Ieee.{of_bits}
use Rattle.std.specs.Float.Ieee.Exact.{HasValue}
use Rattle.num.specs.F64.{◌⊕◌, ◌⊗◌, bits, zero·, one·}
use Rattle.elementary.specs.Exp.{exp_small, exp_c2, exp_c3, exp_c4, exp_c5}
use Rattle.rounding.specs.Units.{U, pos_side, neg_side}
use Rattle.rounding.specs.Beside.{W}
use Rattle.series.specs.Polynomial.{scaled}
use Rattle.series.specs.Exponential.{shares}
use Rattle.exponential.specs.Parts.{Part, raise, shift, join, without, later, constant, unit, argument, as_part}

-- ---- within 3/8 of zero: 3/8, and what is found of the result, how large it is at most, and how far off
abbrev pub limit : ℕ
limit = 6917529027641081856

abbrev pub size : ℕ
size = 77568400457607874931

abbrev pub off : ℕ
off = 25450

pub steps : (x : Float) (s : Bool) (v : ℕ) → HasValue x s v U → v ≤ limit * W → Part 14 87178291200 (pos_side s v) (neg_side s v) (exp_small x) 0 (shares 14) size off
unfolding U W of_bits shares scaled
steps x s v h l =
    let a = pos_side s v in
    let b = neg_side s v in
    let x1 = argument x s v limit h l in
    let xs = as_part {m = 13} x s v 87178291200 limit (lit< tt) h l in
    let one = constant a b (bits 0x3ff0_0000_0000_0000) 87178291200 87178291200 18446744073709551616 0 (refl, refl) tt in
    let c2 = constant a b (bits 0x3fe0_0000_0000_0000) 43589145600 87178291200 9223372036854775808 0 (refl, refl) tt in
    let c3 = constant a b (bits 0x3fc5_5555_5555_5555) 14529715200 87178291200 3074457345618258432 171 (refl, refl) tt in
    let c4 = constant a b (bits 0x3fa5_5555_5555_5555) 3632428800 87178291200 768614336404564608 43 (refl, refl) tt in
    let c5 = constant a b (bits 0x3f81_1111_1111_1111) 726485760 87178291200 153722867280912928 3 (refl, refl) tt in
    let c6 = constant a b (bits 0x3f56_c16c_16c1_6c17) 121080960 87178291200 25620477880152156 1 (refl, refl) tt in
    let c7 = constant a b (bits 0x3f2a_01a0_1a01_a01a) 17297280 87178291200 3660068268593165 1 (refl, refl) tt in
    let c8 = constant a b (bits 0x3efa_01a0_1a01_a01a) 2162160 87178291200 457508533574146 1 (refl, refl) tt in
    let c9 = constant a b (bits 0x3ec7_1de3_a556_c734) 240240 87178291200 50834281508239 1 (refl, refl) tt in
    let c10 = constant a b (bits 0x3e92_7e4f_b778_9f5c) 24024 87178291200 5083428150824 1 (refl, refl) tt in
    let c11 = constant a b (bits 0x3e5a_e645_67f5_44e4) 2184 87178291200 462129831894 1 (refl, refl) tt in
    let c12 = constant a b (bits 0x3e21_eed8_eff8_d898) 182 87178291200 38510819325 1 (refl, refl) tt in
    let c13 = constant a b (bits 0x3de6_1246_13a8_6d09) 14 87178291200 2962370718 1 (refl, refl) tt in
    let c14 = constant a b (bits 0x3da9_3974_a8c0_7c9d) 1 87178291200 211597909 1 (refl, refl) tt in
    let z = raise 8 256 2594073385365405952 x1 x1 tt in
    let z2 = raise 5 105 364791569817010281 z z tt in
    let z4 = raise 0 6 7213895789838342 z2 z2 tt in
    let t3 = shift 6 129 1152921504606846976 x1 c3 tt in
    let a2 = join 10 1153 10376293541461623808 c2 t3 tt in
    let t5 = shift 2 6 57646075230342352 x1 c5 tt in
    let a4 = join 6 113 826260411634907024 c4 t5 tt in
    let s4 = shift 3 36 116192870386158820 z a4 tt in
    let b2 = join 10 2213 10492486411847783652 a2 s4 tt in
    let t7 = shift 0 2 1372525600722438 x1 c7 tt in
    let a6 = join 1 5 26993003480874596 c6 t7 tt in
    let t9 = shift 0 2 19062855565591 x1 c9 tt in
    let a8 = join 0 4 476571389139738 c8 t9 tt in
    let s8 = shift 0 2 67017851597777 z a8 tt in
    let b6 = join 1 9 27060021332472375 a6 s8 tt in
    let s6 = shift 0 2 535122492170476 z2 b6 tt in
    let p = join 10 3239 10493021534339955152 b2 s6 tt in
    let t11 = shift 0 2 173298686962 x1 c11 tt in
    let a10 = join 0 4 5256726837787 c10 t11 tt in
    let t13 = shift 0 2 1110889021 x1 c13 tt in
    let a12 = join 0 4 39621708347 c12 t13 tt in
    let s12 = shift 0 2 5571802738 z a12 tt in
    let b10 = join 0 7 5262298640526 a10 s12 tt in
    let s14 = shift 0 2 4184433 z2 c14 tt in
    let q = join 0 10 5262302824960 b10 s14 tt in
    let h = join 11 2048 25364273101350635520 one xs tt in
    let g = without (87178291200 ∷ []) (87178291200 ∷ []) 12 6144 43811017175060191232 h one tt in
    let f = without (87178291200 ∷ []) [] 12 10240 50728546202701277184 xs g tt in
    let sq = shift 0 2 2057908109 z4 q tt in
    let pq = join 10 4265 10493021536397864285 p sq tt in
    let zp = shift 7 874 1475581153555949939 z pq tt in
    let rest = join 12 15210 52204127356257231219 f zp tt in
    let all = join 13 25450 77568400457607874931 h rest tt in
    all

-- ---- the reduced argument, at most 1/128, by the row of 1
abbrev pub reduced_limit : ℕ
reduced_limit = 144115188075855872

abbrev pub reduced_size : ℕ
reduced_size = 18591423680622123417

abbrev pub reduced_off : ℕ
reduced_off = 6648

abbrev pub reduced_small : Float → Float
reduced_small r =
    let z = r ⊗ r in
    one· ⊕ one· ⊗ (((zero· ⊕ r) ⊕ z ⊗ (exp_c2 ⊕ r ⊗ exp_c3)) ⊕ (z ⊗ z) ⊗ (exp_c4 ⊕ r ⊗ exp_c5))

pub reduced_steps : (x : Float) (s : Bool) (v : ℕ) → HasValue x s v U → v ≤ reduced_limit * W → Part 5 120 (pos_side s v) (neg_side s v) (reduced_small x) 0 (shares 5) reduced_size reduced_off
unfolding U W of_bits shares scaled
reduced_steps x s v h l =
    let a = pos_side s v in
    let b = neg_side s v in
    let u1 = unit a b one· (refl, refl) in
    let x1 = argument x s v reduced_limit h l in
    let xs = as_part {m = 4} x s v 120 reduced_limit (lit< tt) h l in
    let one = constant a b (bits 0x3ff0_0000_0000_0000) 120 120 18446744073709551616 0 (refl, refl) tt in
    let none = constant a b (bits 0x0000_0000_0000_0000) 0 120 0 0 (refl, refl) tt in
    let c2 = constant a b (bits 0x3fdf_ffff_ffff_daef) 60 120 9223372036845059072 9716736 (refl, refl) tt in
    let c3 = constant a b (bits 0x3fc5_5555_5555_48a0) 20 120 3074457345616592896 1665707 (refl, refl) tt in
    let c4 = constant a b (bits 0x3fa5_5557_4119_d698) 5 120 768615392467438592 1056062873942 (refl, refl) tt in
    let c5 = constant a b (bits 0x3f81_1112_3e25_e104) 1 120 153723028922704000 161641791070 (refl, refl) tt in
    let z = raise 0 1 1125899906842625 x1 x1 tt in
    let first = join 4 16 144115188075855888 none xs tt in
    let t3 = shift 1 13016 24019198012629634 x1 c3 tt in
    let a2 = join 10 9730776 9247391234857689730 c2 t3 tt in
    let s2 = shift 0 596 564415968924422 z a2 tt in
    let b2 = join 4 628 144679604044780326 first s2 tt in
    let z2 = raise 0 2 68719476738 z z tt in
    let t5 = shift 0 1262826494 1200961163458626 x1 c5 tt in
    let a4 = join 6 1057325700500 769816353630897282 c4 t5 tt in
    let s4 = shift 0 3940 2867789395 z2 a4 tt in
    let p = join 4 4584 144679606912569737 b2 s4 tt in
    let sp = shift 4 4600 144679606912569753 u1 p tt in
    let all = join 11 6648 18591423680622123417 one (later sp) tt in
    all
