-- The factor of a covariance matrix by Cholesky, row by row, with the tests of population_intervals.rs in their order.
use Rattle.std.specs.Prelude.{Bool, true, cond, List, ℕ, zero, suc, ◌+◌, ◌*◌, eqb, length, get_or, set, replicate, Float, Result, Ok, Err}
use Rattle.std.specs.Float.{nan}
use Rattle.std.specs.Float.Ieee.{lt, le}
use Rattle.num.specs.Fold.{fold_from}
use Rattle.num.specs.F64.{bits, zero·, ◌⊕◌, ◌⊖◌, ◌⊗◌, ◌⊘◌}
use Rattle.num.specs.Helpers.{abs_of, is_finite_of, max_of}
use Rattle.root.specs.Steps.{sqrt_of}

-- 1e-8, 1e-12, 1e-10
abbrev pub agreement· : Float
agreement· = bits 0x3e45_798e_e230_8c3a

abbrev pub least· : Float
least· = bits 0x3d71_9799_812d_ea11

abbrev pub relative· : Float
relative· = bits 0x3ddb_7cdf_d9d7_bdbb

-- row i, column j of a matrix of n rows
abbrev pub at : List Float → ℕ → ℕ → ℕ → Float
at covariance n i j = get_or covariance (n * i + j) nan

-- a diagonal that is not positive, or a standard error that is not positive or not its root
unfoldable pub apart_of : Float → Float → Bool
apart_of error root = lt (agreement· ⊗ max_of (abs_of error) root) (abs_of (error ⊖ root))

unfoldable pub disagrees_of : Float → Float → Bool
disagrees_of variance error = cond (le variance zero·) true (cond (is_finite_of error) (cond (le error zero·) true (apart_of error (sqrt_of variance))) true)

unfoldable pub asymmetric_of : Float → Float → Bool
asymmetric_of a b = lt (max_of least· (relative· ⊗ max_of (abs_of a) (abs_of b))) (abs_of (a ⊖ b))

-- the triangle, or beside a fault what was factored before it
abbrev pub Factored : Type 0
Factored = Result (List Float) (List Float)

abbrev pub and_then : Factored → (List Float → Factored) → Factored
and_then (Ok lower) f = f lower
and_then (Err lower) f = Err lower

-- the factor has rows of eight places
abbrev pub low : List Float → ℕ → ℕ → Float
low lower i j = get_or lower (8 * i + j) nan

-- column k of rows i and j
abbrev pub with_product_of : List Float → ℕ → ℕ → ℕ → Float → Float
with_product_of lower i j k sum = sum ⊕ low lower i k ⊗ low lower j k

-- of the first j columns; the sum starts at plus zero
unfoldable pub products_of : List Float → ℕ → ℕ → Float
products_of lower i j = fold_from (with_product_of lower i j) j 0 zero·

abbrev pub kept_of : List Float → ℕ → ℕ → Float → List Float
kept_of lower i j x = set lower (8 * i + j) x

-- positive definite: each diagonal's value is finite and positive
unfoldable pub diagonal_of : List Float → ℕ → Float → Factored
diagonal_of lower i value = cond (is_finite_of value) (cond (le value zero·) (Err lower) (Ok (kept_of lower i i (sqrt_of value)))) (Err lower)

abbrev pub value_of : List Float → ℕ → ℕ → ℕ → List Float → Float
value_of covariance n i j lower = at covariance n i j ⊖ products_of lower i j

unfoldable pub entry_of : List Float → ℕ → ℕ → ℕ → List Float → Factored
entry_of covariance n i j lower =
    cond (asymmetric_of (at covariance n i j) (at covariance n j i)) (Err lower)
    (cond (eqb i j) (diagonal_of lower i (value_of covariance n i j lower)) (Ok (kept_of lower i j (value_of covariance n i j lower ⊘ low lower j j))))

-- m steps from the j-th on, as far as each holds
unfoldable pub held_from : (ℕ → List Float → Factored) → ℕ → ℕ → List Float → Factored
held_from step zero j lower = Ok lower
held_from step (suc m) j lower = and_then (step j lower) (held_from step m (j + 1))

-- the entries of row i
unfoldable pub row_of : List Float → ℕ → ℕ → List Float → Factored
row_of covariance n i lower = held_from (entry_of covariance n i) (i + 1) 0 lower

unfoldable pub line_of : List Float → ℕ → ℕ → Float → List Float → Factored
line_of covariance n i error lower = cond (disagrees_of (at covariance n i i) error) (Err lower) (row_of covariance n i lower)

-- row i, its standard error before it
abbrev pub line_at : List Float → List Float → ℕ → List Float → Factored
line_at covariance errors i lower = line_of covariance (length errors) i (get_or errors i nan) lower

unfoldable pub factored_of : List Float → List Float → Factored
factored_of covariance errors = held_from (line_at covariance errors) (length errors) 0 (replicate 64 zero·)
