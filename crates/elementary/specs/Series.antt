-- A polynomial by its coefficients, lowest first, evaluated from the inside out.
use Rattle.std.specs.Prelude.{List, [], ◌∷◌, Float}
use Rattle.num.specs.F64.{◌⊕◌, ◌⊗◌, zero·}

abbrev pub series : List Float → Float → Float
series [] z = zero·
series (c ∷ []) z = c
series (c ∷ d ∷ cs) z = c ⊕ z ⊗ series (d ∷ cs) z
