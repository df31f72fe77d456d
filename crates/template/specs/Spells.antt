-- Which texts spell which values: an f64's bits, and the values of a template.
use Rattle.std.specs.Prelude.{◌≡◌, Bool, true, false, List, [], ◌∷◌, ◌++◌, ℕ, ◌+◌, ◌/◌, ◌^◌, ◌≤◌, ◌<◌, Float}
use Rattle.num.specs.F64.{bits_of}
use Rattle.decimal.specs.Nearest.{Decimal}
use Rattle.template.specs.Digits.{digits, decimal, hex}
use Rattle.template.specs.Template.{is_count, is_bits}

-- a decimal's digits as one number d, of which a stand before the point and k behind it
pub record Places (d a k : ℕ) : Type 0 where
  pub before : 1 ≤ a
  pub behind : 1 ≤ k
  pub few : a + k ≤ 17
  pub below : d < 10 ^ (a + k)

abbrev pub sign : Bool → List ℕ → List ℕ
sign true s = 45 ∷ s
sign false s = s

-- p spells the f64 whose bits are v: its sixteen hexadecimal digits, or a decimal that it is the nearest f64 to
pub data Spelling (v : ℕ) (p : List ℕ) : Type 0 where
  in_hex : v < 2 ^ 64 → p ≡ hex v → Spelling v p
  in_decimal : (minus : Bool) (d a k : ℕ) (x : Float) → Places d a k → Decimal minus d k x → v ≡ bits_of x → p ≡ sign minus (digits 10 a (d / 10 ^ k) ++ (46 ∷ digits 10 k d)) → Spelling v p

-- p spells the template f with the values vs: a count in decimal, an f64 in any of its spellings, every other byte as it is
pub data Spells : List ℕ → List ℕ → List ℕ → Type 0 where
  ended : Spells [] [] []
  a_count : {f vs s p : List ℕ} (n : ℕ) → n < 2 ^ 32 → p ≡ decimal n ++ s → Spells f vs s → Spells (35 ∷ f) (n ∷ vs) p
  a_number : {f vs s p : List ℕ} (v : ℕ) (q : List ℕ) → Spelling v q → p ≡ q ++ s → Spells f vs s → Spells (37 ∷ f) (v ∷ vs) p
  a_byte : {f vs s p : List ℕ} (c : ℕ) → is_count c ≡ false → is_bits c ≡ false → p ≡ c ∷ s → Spells f vs s → Spells (c ∷ f) vs p
