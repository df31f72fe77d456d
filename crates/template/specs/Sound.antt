-- Which templates can be read back, and which values a template takes.
use Rattle.std.specs.Prelude.{Bool, true, cond, ◌&&◌, ◌||◌, not, List, [], ◌∷◌, ◌++◌, ℕ, ◌+◌, ◌^◌, ◌<◌, ltb, eqb}
use Rattle.template.specs.Template.{first, is_count, is_bits, is_hole_of}
use Rattle.template.specs.Field.{is_digit_of}

-- a byte at which a hole before it is seen to end: one that stands for itself and is neither a digit nor a point
abbrev pub ends_hole : ℕ → Bool
ends_hole c = ltb 0 c && not (is_digit_of c) && not (eqb c 46) && not (is_hole_of c)

-- The byte after each hole ends it. (`first []` is 0, so no template ends in a hole.)
unfoldable pub sound : List ℕ → Bool
sound [] = true
sound (c ∷ f) = (not (is_hole_of c) || ends_hole (first f)) && sound f

-- a template of counts alone: its values have one text
unfoldable pub plain : List ℕ → Bool
plain [] = true
plain (c ∷ f) = not (is_bits c) && plain f

-- what each value must be below, in the holes' order: a count 2^32, the bits of an f64 2^64
abbrev pub limit_of : ℕ → List ℕ
limit_of c = cond (is_count c) (2 ^ 32 ∷ []) (cond (is_bits c) (2 ^ 64 ∷ []) [])

unfoldable pub limits : List ℕ → List ℕ
limits [] = []
limits (c ∷ f) = limit_of c ++ limits f

-- one value for each limit, in order, and none over
abbrev pub Below : List ℕ → List ℕ → Type 0
Below [] [] = Unit
Below [] (v ∷ vs) = ⊥
Below (l ∷ ls) [] = ⊥
Below (l ∷ ls) (v ∷ vs) = (v < l) × Below ls vs

-- vs are values for the template f
abbrev pub Holds : List ℕ → List ℕ → Type 0
Holds f vs = Below (limits f) vs

-- a text that spells a template has at most so many bytes: a count ten, an f64 a minus, seventeen digits and a point
abbrev pub most_of : ℕ → ℕ
most_of c = cond (is_count c) 10 (cond (is_bits c) 19 1)

unfoldable pub most : List ℕ → ℕ
most [] = 0
most (c ∷ f) = most_of c + most f
