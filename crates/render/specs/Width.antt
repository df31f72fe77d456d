-- The most bytes that a template can become, whatever its values: what a buffer has to have room for.
use Rattle.std.specs.Prelude.{◌≡◌, Bool, true, false, cond, List, [], ◌∷◌, ℕ, zero, suc, ◌+◌, ◌/◌, ◌≤◌, ltb, length}
use Rattle.std.proofs.Common.{zero-le, arith, length-append}
use Rattle.template.specs.DigitLaws.{digits_many}
use Rattle.template.specs.Digits.{places_from}
use Rattle.template.specs.Template.{is_count, is_bits, is_hole_of, piece, values_after, render, first}

-- a count has at most twenty digits, an f64's bits have sixteen
abbrev pub widest : ℕ → ℕ
widest c = cond (is_count c) 20 (cond (is_bits c) 16 1)

-- how many values were taken, after the byte c
abbrev pub taken_after_of : ℕ → ℕ → ℕ
taken_after_of c n = cond (is_hole_of c) (n + 1) n

unfoldable pub width : List ℕ → ℕ
width [] = 0
width (c ∷ f) = widest c + width f

choice_most : (t : Bool) (k m : ℕ) → k ≤ m → cond t 1 (k + 1) ≤ suc m
choice_most true k m h = omega arith
choice_most false k m h = omega arith

pub places_most : (f n : ℕ) → places_from f n ≤ suc f
unfolding places_from
places_most zero n = omega arith
places_most (suc f) n = choice_most (ltb n 10) _ (suc f) (places_most f (n / 10))

piece_choice : (t u : Bool) (c : ℕ) (ds hs : List ℕ) → length ds ≤ 20 → length hs ≡ 16 → length (cond t ds (cond u hs (c ∷ []))) ≤ cond t 20 (cond u 16 1)
piece_choice true u c ds hs d h = d
piece_choice false true c ds hs d h = omega arith
piece_choice false false c ds hs d h = omega arith

pub length_piece : (c : ℕ) (vs : List ℕ) → length (piece c vs) ≤ widest c
length_piece c vs =
    piece_choice (is_count c) (is_bits c) c _ _ (rw digits_many (places_most 19 (first vs))) (digits_many 16 16 (first vs))

pub length_render : (f vs : List ℕ) → length (render f vs) ≤ width f
unfolding render width
length_render [] vs = zero-le
length_render (c ∷ f) vs =
    let h = length_piece c vs in
    let g = length_render f (values_after c vs) in
    rw length-append (omega arith)
