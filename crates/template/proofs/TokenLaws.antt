-- What stands at a text's front, by its first byte: the steps of each reading.
use Rattle.std.specs.Prelude.{◌≡◌, refl, false, List, [], ◌∷◌, ℕ, suc, ◌+◌, ◌-◌, ◌*◌, ◌^◌, ◌≤◌, ◌<◌}
use Rattle.std.proofs.Common.{sym, ◌∙◌, arith, lt-ltb, le-ltb, pow-suc, add-one, lt_of_lt_of_le, lit<}
use Rattle.std.proofs.Math.Nat.{pow-le-pow_right}
use Rattle.std.proofs.lemmas.Bool.{false≢true}
use Rattle.num.specs.Left.{left_one}
use Rattle.template.specs.Template.{first}
use Rattle.template.specs.Field.{is_digit_of, is_hex_of, found, departs, read_hex, read_more}
use Rattle.template.specs.DigitLaws.{digit_range, hex_glyph}
use Rattle.template.specs.Says.{Digit, HexDigit}

-- ---- a hexadecimal number

pub hex_stops : (k v : ℕ) (s : List ℕ) → is_hex_of (first s) ≡ false → read_hex (suc k) v s ≡ departs
unfolding read_hex
hex_stops k v s e = rw e

pub hex_goes : (k v d : ℕ) (s t : List ℕ) → HexDigit s d t → read_hex (suc k) v s ≡ read_hex k (16 * v + d) t
unfolding read_hex
hex_goes k v d s t h = rw (h.is_hex, h.value_is, h.rest_is)

pub hex_small : (d : ℕ) (s t : List ℕ) → HexDigit s d t → d ≤ 15
hex_small d s t h = let r = (hex_glyph (first s) h.is_hex).1 in rw h.value_is (omega (arith, r))

-- j digits of a number are below 16^j
pub hex_room : (v d j : ℕ) → v < 16 ^ j → d ≤ 15 → 16 * v + d < 16 ^ (j + 1)
hex_room v d j h e = rw (add-one j, pow-suc 16 j) (omega arith)

pub hex_fits : (v d j : ℕ) → v < 16 ^ j → j < 16 → d ≤ 15 → 16 * v + d < 2 ^ 64
hex_fits v d j h l e = lt_of_lt_of_le (hex_room v d j h e) (pow-le-pow_right (lit< tt) {i = j + 1} {j = 16} (omega arith))

-- ---- a count

pub digit_small : (d : ℕ) (s t : List ℕ) → Digit s d t → d ≤ 9
digit_small d s t h = let r = (digit_range (first s) h.is_digit).1 in rw h.value_is (omega (arith, r))

pub more_stops : (v : ℕ) (s : List ℕ) → is_digit_of (first s) ≡ false → read_more v s ≡ found v s
unfolding read_more
more_stops v [] e = refl
more_stops v (c ∷ s) e = rw e

pub more_large : (v d : ℕ) (s t : List ℕ) → Digit s d t → 2 ^ 32 ≤ 10 * v + d → read_more v s ≡ departs
unfolding read_more
more_large v d [] t h l = absurd (false≢true h.is_digit)
more_large v d (c ∷ s) t h l = let g : 2 ^ 32 ≤ 10 * v + (c - 48) = rw h.value_is at l in rw (h.is_digit, le-ltb (10 * v + (c - 48)) (2 ^ 32) g)

pub more_goes : (v d : ℕ) (s t : List ℕ) → Digit s d t → 10 * v + d < 2 ^ 32 → read_more v s ≡ read_more (10 * v + d) t
unfolding read_more
more_goes v d [] t h l = absurd (false≢true h.is_digit)
more_goes v d (c ∷ s) t h l = let g : 10 * v + (c - 48) < 2 ^ 32 = rw h.value_is at l in rw (h.is_digit, lt-ltb (10 * v + (c - 48)) (2 ^ 32) g, h.value_is, h.rest_is)

-- ---- the loops: k turns of 16 are done, or v stands before what is left

module _ (k v : ℕ) (s whole : List ℕ) (inv : read_hex (16 - k) v s ≡ read_hex 16 0 whole) where
  pub hex_ends_here : k < 16 → is_hex_of (first s) ≡ false → departs ≡ read_hex 16 0 whole
  hex_ends_here l e = sym (hex_stops (16 - (k + 1)) v s e) ∙ (rw (left_one 16 k l) at inv)

  pub hex_turns : (d : ℕ) (t : List ℕ) → k < 16 → v < 16 ^ k → HexDigit s d t → (read_hex (16 - (k + 1)) (16 * v + d) t ≡ read_hex 16 0 whole) × (16 * v + d < 16 ^ (k + 1))
  hex_turns d t l b h = (sym (hex_goes (16 - (k + 1)) v d s t h) ∙ (rw (left_one 16 k l) at inv), hex_room v d k b (hex_small d s t h))

  pub hex_ends : 16 ≤ k → found v s ≡ read_hex 16 0 whole
  unfolding read_hex
  hex_ends l = let z : 16 - k ≡ 0 = omega arith in rw z at inv
