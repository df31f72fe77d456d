-- The reduced argument: what exp outside 3/8 does with the rest r of its argument, where 2^(n / 64) is 1, is as near to the exact exponential of r as Statement says.
use Rattle.std.specs.Prelude.{◌≡◌, refl, ℕ, ◌+◌, ◌*◌, ◌≤◌, T, Float}
use Rattle.std.proofs.Common.{arith, lit≤}
use Rattle.std.specs.Float.{binary64}
use Rattle.std.specs.Float.Ieee.{fits, of_bits, mul}
use Rattle.std.specs.Float.Ieee.Scale.{finite}
use Rattle.num.specs.F64.{◌⊗◌, one·}
use Rattle.root.specs.Root.{units}
use Rattle.tables.specs.Exp.{exp_row_of, exp_rows}
use Rattle.elementary.specs.Exp.{exp_finish}
use Rattle.rounding.specs.Units.{U, sign_of, value_of}
use Rattle.rounding.specs.Beside.{N, W, U-is}
use Rattle.exponential.specs.Statement.{value, allowed, Enclosed}
use Rattle.exponential.specs.Found.{Found, as_sum, all, remains, enclosed}
use Rattle.exponential.specs.Steps.{reduced_limit, reduced_size, reduced_off, reduced_small, reduced_steps}

-- ---- 131072 stands for n = 0, and its row for 1
one_times_one : one· ⊗ one· ≡ one·
unfolding mul of_bits
one_times_one = refl

by_row : (r : Float) → exp_finish 131072 r ≡ reduced_small r
unfolding exp_finish exp_row_of exp_rows
by_row r = rw one_times_one

few : (x : Float) → units x * 128 ≤ U → units x ≤ reduced_limit * W
few x l = go (units x) U W U-is l
  where
    go : (v u w : ℕ) → u ≡ N * w → v * 128 ≤ u → v ≤ reduced_limit * w
    go v u w e l = omega arith

half : (x : Float) → units x * 128 ≤ U → 2 * ((value x).p + (value x).n) ≤ U
half x l = rw (all x) (go (units x) U l)
  where
    go : (v u : ℕ) → v * 128 ≤ u → 2 * v ≤ u
    go v u l = omega arith

-- the remainder is at most 11651 · 2^-64
close : (reduced_off + 11651) * allowed ≤ N
close = lit≤ tt

found : (x : Float) → T (fits binary64 x) → T (finite x) → units x * 128 ≤ U → Found 5 reduced_size reduced_off x (exp_finish 131072 x)
found x f h l = rw (by_row x) (as_sum 5 reduced_size reduced_off x (reduced_small x) (reduced_steps x (sign_of x) (units x) (value_of x f h) (few x l)))

-- For every f64 r with magnitude at most 1/128, by units, and every n from 5 on.
pub exp_reduced_lem : (r : Float) → T (fits binary64 r) → T (finite r) → units r * 128 ≤ U → (n : ℕ) → 5 ≤ n → Enclosed r (exp_finish 131072 r) n
exp_reduced_lem r f h l n k = enclosed 5 reduced_size reduced_off 11651 r (exp_finish 131072 r) (half r l) (found r f h l) (remains reduced_limit 5 11651 r (few r l) (lit≤ tt)) close n k
