-- The two sides of the mode: what the source writes once for each.
use Rattle.std.specs.Prelude.{Bool, Float}
use Rattle.std.specs.Float.Ieee.{neg, lt, le}
use Rattle.num.specs.F64.{◌⊕◌, ◌⊖◌, zero·, one·}
use Rattle.posterior.specs.declared.side.Side.{Side}
use Rattle.posterior.specs.declared.side.Side.TheVariants.{Left, Right}

-- where the side's bracket starts
abbrev pub first_of : Side → Float
first_of Left = neg one·
first_of Right = one·

-- whether the density rises toward the mode where its slope is d
abbrev pub rises_of : Side → Float → Bool
rises_of Left d = lt zero· d
rises_of Right d = lt d zero·

-- the slope toward the mode
abbrev pub steep_of : Side → Float → Float
steep_of Left d = d
steep_of Right d = neg d

abbrev pub outward_of : Side → Float → Float → Float
outward_of Left mode step = mode ⊖ step
outward_of Right mode step = mode ⊕ step

-- whether a side's end does not hold: the slope there is zero or away from the mode
abbrev pub flat_of : Side → Float → Bool
flat_of Left d = le d zero·
flat_of Right d = le zero· d
