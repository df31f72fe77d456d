-- Whether a test passes at each of n places, from the i-th on. A loop that asks it there: those still to come decide the whole.
use Rattle.std.specs.Prelude.{◌≡◌, refl, Bool, true, false, ◌&&◌, ℕ, zero, suc, ◌+◌, ◌-◌, ◌≤◌, ◌<◌, ltb}
use Rattle.std.proofs.Common.{arith, ltb-true, ltb-false}
use borrow.Table.Steps.{cases}
use Rattle.num.specs.Both.{and_left, and_right, and_both}
use Rattle.num.specs.Left.{left_one, left_none}

unfoldable pub every_from : (ℕ → Bool) → ℕ → ℕ → Bool
every_from passes zero i = true
every_from passes (suc n) i = passes i && every_from passes n (i + 1)

module _ (passes : ℕ → Bool) (all : Bool) (n i : ℕ) (v : every_from passes (n - i) i ≡ all) where
  pub every_stops : (t : Bool) → i < n → t ≡ passes i → t ≡ false → false ≡ all
  unfolding every_from
  every_stops t h e f = rw (left_one n i h, ← e, f) at v

  pub every_turns : (t : Bool) → i < n → t ≡ passes i → t ≡ true → every_from passes (n - (i + 1)) (i + 1) ≡ all
  unfolding every_from
  every_turns t h e f = rw (left_one n i h, ← e, f) at v

  pub every_ends : n ≤ i → true ≡ all
  unfolding every_from
  every_ends h = rw (left_none n i h) at v

-- where it passes at every place, at each of them
pub each_passes : (passes : ℕ → Bool) (n i m : ℕ) → every_from passes n i ≡ true → i ≤ m → m < i + n → passes m ≡ true
unfolding every_from
each_passes passes zero i m h l u = absurd (omega arith)
each_passes passes (suc n) i m h l u =
    cases
    (ltb i m)
    (λ e. each_passes passes n (i + 1) m (and_right (passes i) _ h) (omega (arith, ltb-true i m e)) (omega arith))
    (λ e. let q : i ≡ m = omega (arith, ltb-false i m e) in rw (← q) (and_left (passes i) (every_from passes n (i + 1)) h))

-- and where it passes at each, at all
pub all_pass : (passes : ℕ → Bool) (n i : ℕ) → ((m : ℕ) → i ≤ m → m < i + n → passes m ≡ true) → every_from passes n i ≡ true
unfolding every_from
all_pass passes zero i f = refl
all_pass passes (suc n) i f = and_both (passes i) (every_from passes n (i + 1)) (f i (omega arith) (omega arith)) (all_pass passes n (i + 1) (λ m l u. f m (omega arith) (omega arith)))
