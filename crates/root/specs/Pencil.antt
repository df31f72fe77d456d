-- The law of the pencil. After k steps the root so far is the largest whole number whose square is at most the digits brought down so far, and the rest
-- is the difference; after 54 it is the root of m · 2^54, rounded down.
use Rattle.std.specs.Prelude.{◌≡◌, Bool, true, false, not, cond, ℕ, zero, suc, ◌+◌, ◌-◌, ◌*◌, ◌/◌, ◌%◌, ◌^◌, ◌≤◌, ◌<◌, T, leb}
use Rattle.std.proofs.Common.{sym, ap, ◌∙◌, subst, mul_assoc, mul_comm, mul-le-mul, lt_of_not-le, lt_of_lt_of_le, add-one, arith, leb→le, pow_mono, leb-true}
use Rattle.std.proofs.Math.Nat.{pow-succ', two-pow-succ}
use Rattle.std.proofs.Math.Dec.{nleb→lt}
use borrow.Table.Steps.{cases}
use Rattle.root.specs.Steps.{start_of, step_of, pencil_from, pencil_of}
use Rattle.root.specs.Squares.{twice_squared, next_squared}
use Rattle.root.specs.declared.pencil.Row.{Row}

-- m with 54 zeros behind has 108 digits; k steps bring down the first 2k of them.
abbrev pub digits_down : ℕ → ℕ → ℕ
digits_down m k = m * 4 ^ k / 2 ^ 54

pub record SoFar (m k : ℕ) (row : Row) : Type 0 where
  pub coming : row.coming ≡ m * 4 ^ k % 2 ^ 54
  pub difference : row.root * row.root + row.rest ≡ digits_down m k
  pub within : row.rest ≤ 2 * row.root
  pub counted : row.root < 2 ^ k

-- One step, the two digits d brought down.
record Next (rest root d rest' root' : ℕ) : Type 0 where
  within : rest' ≤ 2 * root'
  difference : root' * root' + rest' ≡ 4 * (root * root + rest) + d
  counted : root' ≤ 2 * root + 1

next : (rest root d : ℕ) → rest ≤ 2 * root → d ≤ 3 → let goes = leb (4 * root + 1) (4 * rest + d) in Next rest root d (4 * rest + d - cond goes (4 * root + 1) 0) (2 * root + cond goes 1 0)
next rest root d h k = go (leb (4 * root + 1) (4 * rest + d)) (leb→le (4 * root + 1) (4 * rest + d)) (nleb→lt (4 * root + 1) (4 * rest + d))
  where
    go : (b : Bool) → (T b → 4 * root + 1 ≤ 4 * rest + d) → (T (not b) → 4 * rest + d < 4 * root + 1) → Next rest root d (4 * rest + d - cond b (4 * root + 1) 0) (2 * root + cond b 1 0)
    go true l g = let l' = l tt in record { within = omega arith; difference = omega (arith, next_squared (2 * root), twice_squared root); counted = omega arith }
    go false l g = let g' = g tt in record { within = omega arith; difference = omega (arith, twice_squared root); counted = omega arith }

four_times : (m k : ℕ) → m * 4 ^ suc k ≡ m * 4 ^ k * 4
four_times m k = ap (λ (x : ℕ). m * x) (pow-succ' 4 k ∙ mul_comm 4 (4 ^ k)) ∙ sym (mul_assoc m (4 ^ k) 4)

down_next : (a : ℕ) → a * 4 / 2 ^ 54 ≡ 4 * (a / 2 ^ 54) + a % 2 ^ 54 / 2 ^ 52
down_next a = omega arith

coming_next : (a : ℕ) → a * 4 % 2 ^ 54 ≡ a % 2 ^ 54 % 2 ^ 52 * 4
coming_next a = omega arith

pub step_so_far : (m k : ℕ) (row : Row) → SoFar m k row → SoFar m (suc k) (step_of row)
step_so_far m k row s =
    let n = next row.rest row.root (row.coming / 2 ^ 52) s.within (omega (arith, s.coming)) in
    record {
      coming = rw (four_times m k, coming_next (m * 4 ^ k), s.coming);
      difference = n.difference ∙ rw (four_times m k, down_next (m * 4 ^ k), s.coming, s.difference);
      within = n.within;
      counted = omega (arith, n.counted, s.counted, two-pow-succ k);
    }

pub so_far : (m k : ℕ) → m < 2 ^ 54 → SoFar m k (pencil_from k (start_of m))
unfolding pencil_from
so_far m zero h = record { coming = omega arith; difference = omega arith; within = omega arith; counted = omega arith }
so_far m (suc k) h = step_so_far m k _ (so_far m k h)

-- The digits so far are those that the rows have as `down`, one pair behind the other.
pub digits_are_down : (m k : ℕ) → m < 2 ^ 54 → digits_down m (suc k) ≡ 4 * digits_down m k + (pencil_from (suc k) (start_of m)).down
unfolding pencil_from
digits_are_down m k h = rw (four_times m k, down_next (m * 4 ^ k), (so_far m k h).coming)

-- What `step` asks of a row, met by each of the first 54.
pub ready : (m k : ℕ) (row : Row) → m < 2 ^ 54 → k < 54 → row ≡ pencil_from k (start_of m) → (row.coming < 2 ^ 54) × (row.rest ≤ 2 * row.root) × (row.root < 2 ^ 54)
ready m k row h l e =
    let s = subst (SoFar m k) (sym e) (so_far m k h) in
    (omega (arith, s.coming), s.within, lt_of_lt_of_le s.counted (pow_mono {i = k} {j = 54} (omega arith)))

pub next_row : (m k : ℕ) (row next : Row) → row ≡ pencil_from k (start_of m) → next ≡ step_of row → next ≡ pencil_from (k + 1) (start_of m)
unfolding pencil_from
next_row m k row next e s = rw (add-one k) (s ∙ ap step_of e)

pub last_row : (m k : ℕ) (row : Row) → row ≡ pencil_from k (start_of m) → k ≤ 54 → 54 ≤ k → row.root ≡ pencil_of m
unfolding pencil_of
last_row m k row e l g = let z : k ≡ 54 = omega arith in ap (λ (x : Row). x.root) (rw z at e)

pub record RootOf (n Q : ℕ) : Type 0 where
  pub not_above : Q * Q ≤ n
  pub next_above : n < (Q + 1) * (Q + 1)

pub root_so_far : (m k : ℕ) (row : Row) → SoFar m k row → RootOf (digits_down m k) row.root
root_so_far m k row s =
    record { not_above = omega (arith, s.difference); next_above = omega (arith, s.difference, s.within, next_squared row.root) }

pub largest : (n Q : ℕ) → RootOf n Q → (r : ℕ) → r * r ≤ n → r ≤ Q
largest n Q h r l = omega (arith, lt_of_not-le (λ (g : Q + 1 ≤ r). omega (arith, h.next_above, mul-le-mul g g)))

-- The law of a step: what root and rest are after k of them.
pub record StepLaw (n : ℕ) (row : Row) : Type 0 where
  pub not_above : row.root * row.root ≤ n
  pub largest : (r : ℕ) → r * r ≤ n → r ≤ row.root
  pub difference : row.rest ≡ n - row.root * row.root

pub after_steps : (m k : ℕ) → m < 2 ^ 54 → StepLaw (digits_down m k) (pencil_from k (start_of m))
after_steps m k h =
    let s = so_far m k h in
    let r = root_so_far m k _ s in
    record { not_above = r.not_above; largest = largest _ _ r; difference = omega (arith, s.difference) }

pub pencil_law : (m : ℕ) → m < 2 ^ 54 → RootOf (m * 2 ^ 54) (pencil_of m)
unfolding pencil_of
pencil_law m h =
    let r = root_so_far m 54 _ (so_far m 54 h) in
    let all : m * 4 ^ 54 / 2 ^ 54 ≡ m * 2 ^ 54 = omega arith in
    record { not_above = omega (arith, r.not_above); next_above = omega (arith, r.next_above) }

pub pencil_ge : (m : ℕ) → 2 ^ 52 ≤ m → m < 2 ^ 54 → 2 ^ 53 ≤ pencil_of m
pencil_ge m l h = omega (arith, lt_of_not-le {n = pencil_of m + 1} {m = 2 ^ 53} (λ g. let p = (pencil_law m h).next_above in omega (arith, mul-le-mul g g)))

-- Where m is no more than 2^54 - 2, the root cannot round up to 2^54.
pub pencil_le : (m : ℕ) → m ≤ 2 ^ 54 - 2 → pencil_of m ≤ 2 ^ 54 - 2
pencil_le m h = omega (arith, lt_of_not-le {n = 2 ^ 54 - 1} {m = pencil_of m} (λ g. let p = (pencil_law m (omega arith)).not_above in omega (arith, mul-le-mul g g)))

-- what a step takes away, where the trial goes
pub taken_at_most : (n trial : ℕ) → cond (leb trial n) trial 0 ≤ n
taken_at_most n trial = cases (leb trial n) (λ t. rw t (leb-true trial n t)) (λ t. rw t (omega arith))
