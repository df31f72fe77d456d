-- The laws of the rows of a run, and of a test asked of each.
use Rattle.std.specs.Prelude.{◌≡◌, refl, Bool, true, false, List, [], ◌∷◌, ℕ, zero, suc, ◌+◌, ◌*◌, ◌<◌, length, get_or, take, drop}
use Rattle.std.proofs.Common.{sym, ◌∙◌, zero-le, arith, true≢false, drop-cons, take-suc, add-one}
use Rattle.std.proofs.lemmas.List.{drop-drop}
use Rattle.std.specs.Bool.{MatchBool}
use Rattle.std.specs.List.{AllWithin, HoldsAt}
use Rattle.std.specs.Simd.{first_chunks}
use Rattle.num.specs.Every.{every_from, each_passes, all_pass}
use Rattle.litters.specs.declared.Litter.{Litter}
use Rattle.litters.specs.Litters.{count_of, row_at, row_litter, numbers_of}
use Rattle.litters.specs.Valid.{valid_litter_of, valid_at, each_valid_of}
use Rattle.litters.specs.Table.{row_in}
use Rattle.litters.specs.Kept.{row_taken, numbers_append}

-- ---- rows

three : (ls : List ℕ) (p : ℕ) → p + 2 < length ls → take 3 (drop p ls) ≡ get_or ls p 0 ∷ get_or ls (p + 1) 0 ∷ get_or ls (p + 2) 0 ∷ []
three ls p h =
    let e : p + 1 ≡ suc p = omega arith in
    let f : p + 2 ≡ suc (suc p) = omega arith in
    rw (e, f, drop-cons ls p 0 (omega arith), drop-cons ls (suc p) 0 (omega arith), drop-cons ls (suc (suc p)) 0 (omega arith))

chunk : (k : ℕ) (ls : List ℕ) (i : ℕ) (none : List ℕ) → i < k → get_or (first_chunks 3 k ls) i none ≡ take 3 (drop (3 * i) ls)
chunk zero ls i none h = absurd (omega arith)
chunk (suc k) ls zero none h = refl
chunk (suc k) ls (suc i) none h =
    let e : 3 * suc i ≡ 3 + 3 * i = omega arith in
    chunk k (drop 3 ls) i none (omega arith) ∙ rw (e, drop-drop)

pub chunk_row : (ls : List ℕ) (i : ℕ) (none : List ℕ) → i < count_of ls → get_or (first_chunks 3 (count_of ls) ls) i none ≡ row_at ls i
chunk_row ls i none h = chunk (count_of ls) ls i none h ∙ three ls (3 * i) (omega arith)

-- ---- a test asked of each

module _ {A : Type 0} (xs : List A) (test : A → Bool) (passes : ℕ → Bool) (same : (i : ℕ) (d : A) → i < length xs → test (get_or xs i d) ≡ passes i) (d : A) where
  fails : (t : Bool) → t ≡ every_from passes (length xs) 0 → (k : ℕ) → k < length xs → test (get_or xs k d) ≡ false → false ≡ every_from passes (length xs) 0
  fails true e k l h = absurd (true≢false (sym (each_passes passes (length xs) 0 k (sym e) zero-le (omega arith)) ∙ sym (same k d l) ∙ h))
  fails false e k l h = e

  pub by_cases : (r : Bool) → MatchBool r (AllWithin (λ x. test x ≡ true) xs 0 (length xs)) ((k : ℕ) × (k < length xs) × HoldsAt (λ x. test x ≡ false) xs k) → r ≡ every_from passes (length xs) 0
  by_cases true h = sym (all_pass passes (length xs) 0 (λ m l u. let k : m < length xs = omega arith in sym (same m d k) ∙ h m d l k))
  by_cases false h = fails (every_from passes (length xs) 0) refl h.0 h.1 (h.2 d)

abbrev pub row_valid : List ℕ → Bool
row_valid row = valid_litter_of (row_litter row).successes (row_litter row).total (row_litter row).group

pub each_row : (ls : List ℕ) (rows : List (List ℕ)) → length rows ≡ count_of ls → ((i : ℕ) (none : List ℕ) → i < count_of ls → get_or rows i none ≡ row_at ls i) → (r : Bool) → MatchBool r (AllWithin (λ row. row_valid row ≡ true) rows 0 (length rows)) ((k : ℕ) × (k < length rows) × HoldsAt (λ row. row_valid row ≡ false) rows k) → r ≡ each_valid_of ls
unfolding each_valid_of
each_row ls rows e f r h =
    let same : (i : ℕ) (none : List ℕ) → i < length rows → row_valid (get_or rows i none) ≡ valid_at ls i = λ i none l. rw (f i none (omega (arith, e))) in
    by_cases rows row_valid (valid_at ls) same [] r h ∙ rw e

-- ---- one litter more in its row

pub no_row : (ls : List Litter) → numbers_of (take 0 ls) ≡ []
unfolding numbers_of
no_row ls = refl

pub next_row : (ls : List Litter) (b : List ℕ) (i : ℕ) (none : Litter) → i < length ls → 3 * i + 2 < length b → take (3 * i) b ≡ numbers_of (take i ls) → take (3 * (i + 1)) (row_in b i (get_or ls i none).successes (get_or ls i none).total (get_or ls i none).group) ≡ numbers_of (take (i + 1) ls)
unfolding numbers_of
next_row ls b i none h room so =
    let l = get_or ls i none in
    row_taken b i l.successes l.total l.group room ∙ rw (add-one i, take-suc ls i none h, numbers_append (take i ls) (l ∷ []), so)
