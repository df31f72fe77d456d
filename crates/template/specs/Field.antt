-- What stands at a place of a text: a hexadecimal number, a count, a byte; and what is left of the text after it.
use Rattle.std.specs.Prelude.{Bool, cond, ◌&&◌, ◌||◌, List, [], ◌∷◌, ℕ, zero, suc, ◌+◌, ◌-◌, ◌*◌, ◌^◌, leb, ltb, eqb}
use Rattle.template.specs.Template.{first, after}

-- `0` to `9`; and with them `a` to `f`
abbrev pub is_digit_of : ℕ → Bool
is_digit_of c = leb 48 c && leb c 57

abbrev pub is_hex_of : ℕ → Bool
is_hex_of c = is_digit_of c || (leb 97 c && leb c 102)

abbrev pub hex_value_of : ℕ → ℕ
hex_value_of c = cond (leb 97 c) (c - 87) (c - 48)

-- a value and what is left of the text
pub data Field : Type 0 where
  found : ℕ → List ℕ → Field
  departs : Field

-- k digits more of a hexadecimal number, v so far
unfoldable pub read_hex : ℕ → ℕ → List ℕ → Field
read_hex zero v s = found v s
read_hex (suc k) v s = cond (is_hex_of (first s)) (read_hex k (16 * v + hex_value_of (first s)) (after s)) departs

-- the digits of a count that follow the first, v so far; a count is below 2^32
unfoldable pub read_more : ℕ → List ℕ → Field
read_more v [] = found v []
read_more v (c ∷ s) = cond (is_digit_of c) (cond (ltb (10 * v + (c - 48)) (2 ^ 32)) (read_more (10 * v + (c - 48)) s) departs) (found v (c ∷ s))

-- no digit follows a zero in front: there the count has ended
unfoldable pub read_count : List ℕ → Field
read_count s = cond (eqb (first s) 48) (found 0 (after s)) (cond (is_digit_of (first s)) (read_more (first s - 48) (after s)) departs)

-- a byte that stands for itself has no value
unfoldable pub read_byte : ℕ → List ℕ → Field
read_byte c [] = departs
read_byte c (d ∷ s) = cond (eqb d c) (found 0 s) departs
