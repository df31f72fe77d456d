-- What an arm of a table's `match` knows, as laws of the list of its rows: by its key, and past every key.
use mathlib.Core.Path.{◌≡◌, sym}
use mathlib.Core.List.{List}
use Prim.Native.Nat.{ℕ, zero, suc, ◌≤◌}
use native.Mathlib.Omega.{arith}
use lib.ListN.{length, get_or, get_or-eq_default}

-- `rw` by the key at the arm itself would search the whole table: this does not.
pub at : {A : Type 0} (rows : List A) (none : A) (i k : ℕ) {r : A} → i ≡ k → r ≡ get_or rows k none → r ≡ get_or rows i none
at rows none i k e h = rw e h

-- i is none of the keys 0 to n - 1, in the form of `c.match.rest`
abbrev pub NoKey : ℕ → ℕ → Type 0
NoKey zero i = Unit
NoKey (suc n) i = NoKey n i × (i ≡ n → ⊥)

at_least : (n i : ℕ) → NoKey n i → n ≤ i
at_least zero i h = omega arith
at_least (suc n) i h = let l = at_least n i h.0 in let k = h.1 in omega arith

pub past : {A : Type 0} (rows : List A) (none : A) (i : ℕ) → NoKey (length rows) i → none ≡ get_or rows i none
past rows none i h = sym (get_or-eq_default rows none (at_least (length rows) i h))
