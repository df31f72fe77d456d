-- Numbers as text: digits in a base, a count in decimal, the bits of an f64 in hexadecimal.
use Rattle.std.specs.Prelude.{cond, List, [], ◌∷◌, ℕ, zero, suc, ◌+◌, ◌/◌, ◌%◌, ◌^◌, ltb}

-- the ASCII code of a digit below 16: `0` to `9`, then `a` to `f`
abbrev pub glyph : ℕ → ℕ
glyph d = cond (ltb d 10) (48 + d) (87 + d)

-- the last k digits of n in base b, the most significant first
unfoldable pub digits : ℕ → ℕ → ℕ → List ℕ
digits b zero n = []
digits b (suc k) n = glyph (n / b ^ k % b) ∷ digits b k n

-- how many digits n has in decimal; f + 1 are enough to look for
unfoldable pub places_from : ℕ → ℕ → ℕ
places_from zero n = 1
places_from (suc f) n = cond (ltb n 10) 1 (places_from f (n / 10) + 1)

-- a number below 2^64 has at most twenty
abbrev pub places : ℕ → ℕ
places n = places_from 19 n

-- no zero in front
abbrev pub decimal : ℕ → List ℕ
decimal n = digits 10 (places n) n

abbrev pub hex : ℕ → List ℕ
hex n = digits 16 16 n
