-- The length of (a, b), step by step. An infinity beside a NaN gives infinity.
use Rattle.std.specs.Prelude.{cond, Float}
use Rattle.std.specs.Float.Ieee.{lt, eq}
use Rattle.num.specs.F64.{◌⊕◌, ◌⊗◌, bits, infinity·}
use Rattle.num.specs.Helpers.{abs_of}
use Rattle.root.specs.Steps.{sqrt_of}

-- 2^600 and 2^-600; 2^510 and 2^-450, beyond which the squares are scaled
abbrev pub up· : Float
up· = bits 0x6570_0000_0000_0000

abbrev pub down· : Float
down· = bits 0x1a70_0000_0000_0000

abbrev pub large· : Float
large· = bits 0x5fd0_0000_0000_0000

abbrev pub small· : Float
small· = bits 0x23d0_0000_0000_0000

unfoldable pub scaled_length_of : Float → Float → Float → Float → Float
scaled_length_of a b there back = let x = a ⊗ there in let y = b ⊗ there in sqrt_of (x ⊗ x ⊕ y ⊗ y) ⊗ back

unfoldable pub hypot_of : Float → Float → Float
hypot_of a b =
    let x = abs_of a in
    let y = abs_of b in
    let h = cond (lt y x) x y in
    cond (eq x infinity·) infinity·
    (cond (eq y infinity·) infinity·
    (cond (lt large· h) (scaled_length_of x y down· up·)
    (cond (lt h small·) (scaled_length_of x y up· down·) (sqrt_of (x ⊗ x ⊕ y ⊗ y)))))
