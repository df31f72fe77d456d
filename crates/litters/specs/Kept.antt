-- The laws of rows: what a row that is put in leaves, that a run of records has three numbers for each, and that the table holds up to 128 litters' numbers.
use Rattle.std.specs.Prelude.{◌≡◌, refl, List, [], ◌∷◌, ◌++◌, ℕ, suc, ◌+◌, ◌*◌, ◌≤◌, ◌<◌, length, set, take, drop, replicate}
use Rattle.std.proofs.Common.{sym, ap, ◌∙◌, append_assoc, arith, length-set, take-suc-set}
use Rattle.std.proofs.lemmas.List.Edits.{sets, sets-eq}
use Rattle.std.proofs.Math.Seq.{set_out, take-append_seam}
use Rattle.litters.specs.declared.Litter.{Litter}
use Rattle.litters.specs.Litters.{numbers_of}
use Rattle.litters.specs.Table.{row_in, no_rows, with_rows}

pub row_length : (b : List ℕ) (i x y z : ℕ) → length (row_in b i x y z) ≡ length b
row_length b i x y z = simp length-set

-- the numbers up to a row that was put in are those before it, then the row
module _ (b : List ℕ) (n x y z : ℕ) (room : 3 * n + 2 < length b) where
  pub row_taken : take (3 * (n + 1)) (row_in b n x y z) ≡ take (3 * n) b ++ (x ∷ y ∷ z ∷ [])
  row_taken =
      let e : 3 * (n + 1) ≡ suc (3 * n + 2) = omega arith in
      let f : 3 * n + 2 ≡ suc (3 * n + 1) = omega arith in
      let g : 3 * n + 1 ≡ suc (3 * n) = omega arith in
      let first = take-suc-set b (3 * n) x (omega arith) in
      let second = take-suc-set (set b (3 * n) x) (3 * n + 1) y (rw (length-set b (3 * n) x) (omega arith)) in
      let third = take-suc-set (set (set b (3 * n) x) (3 * n + 1) y) (3 * n + 2) z (rw (length-set (set b (3 * n) x) (3 * n + 1) y, length-set b (3 * n) x) (omega arith)) in
      ap (λ k. take k (row_in b n x y z)) e ∙ third ∙
      ap (λ l. l ++ (z ∷ [])) (ap (λ k. take k (set (set b (3 * n) x) (3 * n + 1) y)) f ∙ second ∙ ap (λ l. l ++ (y ∷ [])) (ap (λ k. take k (set b (3 * n) x)) g ∙ first)) ∙
      rw (append_assoc (take (3 * n) b) (x ∷ []) (y ∷ []), append_assoc (take (3 * n) b) (x ∷ y ∷ []) (z ∷ []))

pub numbers_long : (ls : List Litter) → length (numbers_of ls) ≡ 3 * length ls
unfolding numbers_of
numbers_long [] = refl
numbers_long (l ∷ ls) = rw (numbers_long ls) (omega arith)

-- the numbers of two runs, one after the other
pub numbers_append : (ls ms : List Litter) → numbers_of (ls ++ ms) ≡ numbers_of ls ++ numbers_of ms
unfolding numbers_of
numbers_append [] ms = refl
numbers_append (l ∷ ls) ms = rw (numbers_append ls ms)

-- past the last row nothing is set
pub row_out : (b : List ℕ) (i x y z : ℕ) → length b ≤ 3 * i → b ≡ row_in b i x y z
row_out b i x y z h = sym (rw (set_out b (3 * i) x h, set_out b (3 * i + 1) y (omega arith), set_out b (3 * i + 2) z (omega arith)))

-- a table with each litter is a run of stores
rows_set : (ls : List Litter) (i : ℕ) (t : List ℕ) → with_rows ls i t ≡ sets t (3 * i) (numbers_of ls)
unfolding numbers_of
rows_set [] i t = refl
rows_set (l ∷ ls) i t =
    let e : 3 * (i + 1) ≡ suc (suc (suc (3 * i))) = omega arith in
    let f : 3 * i + 2 ≡ suc (suc (3 * i)) = omega arith in
    let g : 3 * i + 1 ≡ suc (3 * i) = omega arith in
    rows_set ls (i + 1) (row_in t i l.successes l.total l.group) ∙ rw (e, f, g)

-- up to 128 litters, what the table holds of them is their numbers
pub few : (ls : List Litter) → length ls ≤ 128 → take (3 * length ls) (with_rows ls 0 no_rows) ≡ numbers_of ls
few ls h =
    let long = numbers_long ls in
    let fits : 0 + length (numbers_of ls) ≤ 384 = omega (arith, long) in
    rw (← long, rows_set ls 0 no_rows, sets-eq (numbers_of ls) (replicate 384 0) 0 fits) (take-append_seam (numbers_of ls) (drop (0 + length (numbers_of ls)) (replicate 384 0)))
