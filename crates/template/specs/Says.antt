-- What the code's answers say of a reading: the text that is left stands behind a reference.
use Rattle.std.specs.Prelude.{◌≡◌, true, List, ◌++◌, ℕ, ◌-◌, length, replicate, Option, Some, None}
use Rattle.std.specs.Borrow.{Bor}
use Rattle.template.specs.Template.{first, after}
use Rattle.template.specs.Field.{is_digit_of, is_hex_of, hex_value_of, Field, found, departs}

-- a text begins with a digit, of this value, and this is left after it
pub record Digit (text : List ℕ) (value : ℕ) (rest : List ℕ) : Type 0 where
  pub is_digit : is_digit_of (first text) ≡ true
  pub value_is : value ≡ first text - 48
  pub rest_is : rest ≡ after text

pub record HexDigit (text : List ℕ) (value : ℕ) (rest : List ℕ) : Type 0 where
  pub is_hex : is_hex_of (first text) ≡ true
  pub value_is : value ≡ hex_value_of (first text)
  pub rest_is : rest ≡ after text

abbrev pub field_of : Option (ℕ × Bor (List ℕ)) → Field
field_of (Some p) = found p.0 p.1.now
field_of None = departs

-- values in their sixteen places, zeros after them
abbrev pub in_places : List ℕ → List ℕ
in_places vs = vs ++ replicate (16 - length vs) 0
