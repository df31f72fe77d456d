-- A template: a text in which each `#` stands for a count and each `%` for the 64 bits of an f64. Rendering puts values there.
use Rattle.std.specs.Prelude.{Bool, cond, ◌||◌, List, [], ◌∷◌, ◌++◌, ℕ, ◌+◌, eqb}
use Prim.Native.Char.{code}
use Prim.Native.String.{String, [] as none, ◌∷◌ as ◌then◌}
use Rattle.template.specs.Digits.{decimal, hex}

-- the codes of a text's characters
abbrev pub ascii : String → List ℕ
ascii none = []
ascii (c then s) = code c ∷ ascii s

-- the first of a list, 0 if there is none; and those after it
abbrev pub first : List ℕ → ℕ
first [] = 0
first (c ∷ s) = c

abbrev pub after : List ℕ → List ℕ
after [] = []
after (c ∷ s) = s

abbrev pub is_count : ℕ → Bool
is_count c = eqb c 35

abbrev pub is_bits : ℕ → Bool
is_bits c = eqb c 37

abbrev pub is_hole_of : ℕ → Bool
is_hole_of c = is_count c || is_bits c

-- what a byte of a template becomes, where vs are the values still to come; and those that come after it
abbrev pub piece : ℕ → List ℕ → List ℕ
piece c vs = cond (is_count c) (decimal (first vs)) (cond (is_bits c) (hex (first vs)) (c ∷ []))

abbrev pub values_after : ℕ → List ℕ → List ℕ
values_after c vs = cond (is_hole_of c) (after vs) vs

unfoldable pub render : List ℕ → List ℕ → List ℕ
render [] vs = []
render (c ∷ f) vs = piece c vs ++ render f (values_after c vs)

-- how many values a template takes
unfoldable pub holes : List ℕ → ℕ
holes [] = 0
holes (c ∷ f) = cond (is_hole_of c) 1 0 + holes f
