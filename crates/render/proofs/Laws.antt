-- The laws that the proofs of what is written go by.
use mathlib.Core.Path.{◌≡◌, refl, ap, sym, ◌∙◌}
use mathlib.Core.Bool.{Bool, true, false, cond}
use mathlib.Core.List.{List, [], ◌∷◌, ◌++◌}
use Prim.Native.Nat.{ℕ, zero, suc, ◌+◌, ◌-◌, ◌/◌, ◌%◌, ◌^◌, ◌≤◌, ◌<◌}
use native.Mathlib.Numerals.{add-one}
use native.Mathlib.Nat.{add-zero, pow-zero, pow-suc, div-one, mod-lt, div-div-eq-div-mul}
use native.Mathlib.Omega.{arith}
use borrow.Author.Tests.{lt-ltb, le-ltb, ne_eqb}
use lib.ListN.{length, drop, get_or, set, length-append, drop_of_length-le, get_or-eq_default}
use lib.Seq.{drop-cons}
use Rattle.num.specs.Left.{left_one, left_none}
use Rattle.template.specs.DigitLaws.{digits_many}
use Rattle.template.specs.Digits.{glyph, digits, places_from}
use Rattle.template.specs.Template.{first, after, is_hole_of, piece, render}
use Rattle.render.specs.Written.{written}
use Rattle.render.specs.WrittenLaws.{length_written, written_append}
use Rattle.render.specs.Width.{widest, width, taken_after_of, places_most, length_piece}

-- ---- how many digits: k were passed, 20 - k can still be
module _ (n k : ℕ) where
  few : (f : ℕ) → n < 10 → places_from f n ≡ 1
  unfolding places_from
  few zero h = refl
  few (suc f) h = rw (lt-ltb n 10 h)

  more : (f : ℕ) → 10 ≤ n → places_from (suc f) n ≡ places_from f (n / 10) + 1
  unfolding places_from
  more f h = rw (le-ltb n 10 h)

  pub places_ends : (whole : ℕ) → places_from (20 - k) n + (k - 1) ≡ whole → 0 < k → n < 10 → k ≡ whole
  places_ends whole i p h = let e = few (20 - k) h in omega arith

  pub places_turn : (whole : ℕ) → places_from (20 - k) n + (k - 1) ≡ whole → 0 < k → k < 20 → 10 ≤ n → places_from (20 - (k + 1)) (n / 10) + (k + 1 - 1) ≡ whole
  places_turn whole i p l h = let e = more (20 - (k + 1)) h in let j = rw (left_one 20 k l, e) at i in omega arith

  pub places_done : (whole : ℕ) → places_from (20 - k) n + (k - 1) ≡ whole → k ≤ 20 → 20 ≤ k → 20 ≡ whole
  unfolding places_from
  places_done whole i p h = let e : 20 - k ≡ 0 = omega arith in let j = rw e at i in omega arith

-- ---- a digit at a place
pub digit_begins : (b n : ℕ) → n ≡ n / b ^ 0
digit_begins b n = rw (pow-zero, div-one)

pub digit_turn : (b n k r : ℕ) → r ≡ n / b ^ k → r / b ≡ n / b ^ (k + 1)
digit_turn b n k r i = rw (i, add-one, pow-suc, div-div-eq-div-mul)

pub digit_done : (b n k j r : ℕ) → r ≡ n / b ^ j → j ≤ k → k ≤ j → r % b ≡ n / b ^ k % b
digit_done b n k j r i p h = let e : k ≡ j = omega arith in rw (e, i)

pub digit_small : (b m d : ℕ) → 1 < b → b ≤ 16 → d ≡ m % b → d < 16
digit_small b m d p q e = let p0 : 0 < b = omega arith in omega (arith, mod-lt m p0)

-- ---- digits in a row
pub digits_begin : (l : List ℕ) (b n k at : ℕ) → written l at (digits b (at + k - at) n) ≡ written l at (digits b k n)
digits_begin l b n k at = let e : at + k - at ≡ k = omega arith in rw e

pub digits_turn : (w l : List ℕ) (b n end i d g : ℕ) → written l i (digits b (end - i) n) ≡ w → i < end → d ≡ n / b ^ (end - (i + 1)) % b → g ≡ glyph d → written (set l i g) (i + 1) (digits b (end - (i + 1)) n) ≡ w
unfolding written digits
digits_turn w l b n end i d g v h e u = rw (u, e) (rw (left_one end i h) at v)

pub digits_done : (w l : List ℕ) (b n end i : ℕ) → written l i (digits b (end - i) n) ≡ w → end ≤ i → l ≡ w
unfolding written digits
digits_done w l b n end i v h = rw (left_none end i h) at v

-- ---- a piece: a buffer l' that has bs put in, and the place after them
pub same_written : (l l' bs : List ℕ) (at : ℕ) → l' ≡ written l at bs → length l' ≡ length l
same_written l l' bs at e = ap length e ∙ length_written l at bs

pub kept : (l l' bs : List ℕ) (at n : ℕ) → length l ≡ n → l' ≡ written l at bs → length l' ≡ n
kept l l' bs at n h e = same_written l l' bs at e ∙ h

module _ (c v : ℕ) where
  pub as_count : (k : ℕ) → c ≡ 35 → k ≡ places_from 19 v → digits 10 k v ≡ piece c (v ∷ [])
  as_count k h e = rw (h, e)

  pub as_bits : c ≡ 37 → digits 16 16 v ≡ piece c (v ∷ [])
  as_bits h = rw h

  as_byte : (c ≡ 35 → ⊥) → (c ≡ 37 → ⊥) → c ∷ [] ≡ piece c (v ∷ [])
  as_byte g h = rw (ne_eqb c 35 g, ne_eqb c 37 h)

  module _ (at r : ℕ) where
    pub ends_count : (k : ℕ) → r ≡ at + k → c ≡ 35 → k ≡ places_from 19 v → r ≡ at + length (piece c (v ∷ []))
    ends_count k p h e = rw (← as_count k h e, digits_many) p

    pub ends_bits : r ≡ at + 16 → c ≡ 37 → r ≡ at + length (piece c (v ∷ []))
    ends_bits p h = rw (← as_bits h, digits_many) p

    pub ends_byte : r ≡ at + 1 → (c ≡ 35 → ⊥) → (c ≡ 37 → ⊥) → r ≡ at + length (piece c (v ∷ []))
    ends_byte p g h = rw (← as_byte g h) p

  pub by_byte : (l : List ℕ) (at : ℕ) → (c ≡ 35 → ⊥) → (c ≡ 37 → ⊥) → set l at c ≡ written l at (piece c (v ∷ []))
  unfolding written
  by_byte l at g h = rw (← as_byte g h)

module _ (c v at : ℕ) where
  -- the room that each asks
  pub room_count : (k n : ℕ) → c ≡ 35 → k ≡ places_from 19 v → at + widest c ≤ n → at + k ≤ n
  room_count k n h e p = let w = places_most 19 v in let q = rw h at p in omega arith

  pub room_bits : (n : ℕ) → c ≡ 37 → at + widest c ≤ n → at + 16 ≤ n
  room_bits n h p = rw h at p

  pub room_byte : (n : ℕ) → (c ≡ 35 → ⊥) → (c ≡ 37 → ⊥) → at + widest c ≤ n → at < n
  room_byte n g h p = let q = rw (ne_eqb c 35 g, ne_eqb c 37 h) at p in omega arith

-- ---- values taken
pub past_end : (l : List ℕ) (i : ℕ) → length l ≤ i → 0 ≡ get_or l i 0
past_end l i h = sym (get_or-eq_default l 0 h)

module _ (c n r : ℕ) where
  pub taken_count : c ≡ 35 → r ≡ n + 1 → r ≡ taken_after_of c n
  taken_count h e = rw h e

  pub taken_bits : c ≡ 37 → r ≡ n + 1 → r ≡ taken_after_of c n
  taken_bits h e = rw h e

  pub taken_none : (c ≡ 35 → ⊥) → (c ≡ 37 → ⊥) → r ≡ n → r ≡ taken_after_of c n
  taken_none g h e = rw (ne_eqb c 35 g, ne_eqb c 37 h) e

-- ---- a template: i of its bytes are written, k values taken
abbrev pub rest : List ℕ → List ℕ → ℕ → ℕ → List ℕ
rest f vs i k = render (drop i f) (drop k vs)

first_drop : (vs : List ℕ) (k : ℕ) → first (drop k vs) ≡ get_or vs k 0
first_drop [] zero = refl
first_drop [] (suc k) = refl
first_drop (v ∷ vs) zero = refl
first_drop (v ∷ vs) (suc k) = first_drop vs k

after_drop : (vs : List ℕ) (k : ℕ) → after (drop k vs) ≡ drop (suc k) vs
after_drop [] zero = refl
after_drop [] (suc k) = refl
after_drop (v ∷ vs) zero = refl
after_drop (v ∷ vs) (suc k) = after_drop vs k

left_drop : (t : Bool) (vs : List ℕ) (k : ℕ) → cond t (after (drop k vs)) (drop k vs) ≡ drop (cond t (k + 1) k) vs
left_drop true vs k = rw (add-one, after_drop)
left_drop false vs k = refl

rest_is : (f vs : List ℕ) (i k : ℕ) → i < length f → rest f vs i k ≡ piece (get_or f i 0) (get_or vs k 0 ∷ []) ++ rest f vs (i + 1) (taken_after_of (get_or f i 0) k)
unfolding render
rest_is f vs i k h = rw (add-one i, drop-cons f i 0 h, first_drop, left_drop)

width_is : (f : List ℕ) (i : ℕ) → i < length f → width (drop i f) ≡ widest (get_or f i 0) + width (drop (i + 1) f)
unfolding width
width_is f i h = rw (add-one i, drop-cons f i 0 h)

pub put_fits : (f : List ℕ) (i at n m : ℕ) → at + width (drop i f) ≤ n → i < length f → m ≡ n → at + widest (get_or f i 0) ≤ m
put_fits f i at n m j h e = omega (arith, width_is f i h)

-- l' is the buffer after the byte at i, r the place after it, t the values taken
module _ (f : List ℕ) (i at r v : ℕ) (h : i < length f) (p : r ≡ at + length (piece (get_or f i 0) (v ∷ []))) where
  pub put_room : (n : ℕ) → at + width (drop i f) ≤ n → r + width (drop (i + 1) f) ≤ n
  put_room n j = omega (arith, width_is f i h, length_piece (get_or f i 0) (v ∷ []))

  module _ (vs : List ℕ) (k t : ℕ) (u : v ≡ get_or vs k 0) (e : t ≡ taken_after_of (get_or f i 0) k) where
    pub put_text : (w l l' : List ℕ) → written l at (rest f vs i k) ≡ w → l' ≡ written l at (piece (get_or f i 0) (v ∷ [])) → written l' r (rest f vs (i + 1) t) ≡ w
    put_text w l l' j q = rw (q, p, e, u, ← written_append, ← rest_is f vs i k h) j

    pub put_length : (n : ℕ) → at + length (rest f vs i k) ≡ n → r + length (rest f vs (i + 1) t) ≡ n
    put_length n j = let w = rw (rest_is f vs i k h, length-append, ← u, ← e) at j in rw p (omega (arith, w))

choice_few : (b : Bool) (k i : ℕ) → k ≤ i → cond b (k + 1) k ≤ i + 1
choice_few true k i h = omega arith
choice_few false k i h = omega arith

pub taken_few : (c k i t : ℕ) → t ≡ taken_after_of c k → k ≤ i → t ≤ i + 1
taken_few c k i t e h = rw e (choice_few (is_hole_of c) k i h)

rest_none : (f vs : List ℕ) (i k : ℕ) → length f ≤ i → rest f vs i k ≡ []
unfolding render
rest_none f vs i k h = rw (drop_of_length-le f h)

module _ (f vs : List ℕ) (i k at : ℕ) (h : length f ≤ i) where
  pub put_ends : (n : ℕ) → at + length (rest f vs i k) ≡ n → at ≡ n
  put_ends n j = let w = rw (rest_none f vs i k h) at j in omega arith

  pub put_done : (w l : List ℕ) → written l at (rest f vs i k) ≡ w → l ≡ w
  unfolding written
  put_done w l j = rw (rest_none f vs i k h) at j

-- ---- a text as it is
pub text_begins : (s l : List ℕ) (at : ℕ) → written l (at + 0) s ≡ written l at s
text_begins s l at = rw add-zero

pub text_turn : (w s l : List ℕ) (at i : ℕ) → written l (at + i) (drop i s) ≡ w → i < length s → written (set l (at + i) (get_or s i 0)) (at + (i + 1)) (drop (i + 1) s) ≡ w
unfolding written
text_turn w s l at i j h =
    let e : at + (i + 1) ≡ at + i + 1 = omega arith in
    rw (e, add-one i) (rw (drop-cons s i 0 h) at j)

pub text_done : (w s l : List ℕ) (at i : ℕ) → written l (at + i) (drop i s) ≡ w → length s ≤ i → l ≡ w
unfolding written
text_done w s l at i j h = rw (drop_of_length-le s h) at j
