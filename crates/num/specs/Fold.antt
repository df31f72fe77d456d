-- A state after n turns, from the i-th on. A loop that takes them: what those still to come make of the state so far is the whole.
use Rattle.std.specs.Prelude.{◌≡◌}
use Prim.Native.Nat.{ℕ, zero, suc, ◌+◌, ◌-◌, ◌≤◌, ◌<◌}
use native.Mathlib.Omega.{arith}
use Rattle.num.specs.Left.{left_one, left_none}

unfoldable pub fold_from : {S : Type 0} → (ℕ → S → S) → ℕ → ℕ → S → S
fold_from turn zero i s = s
fold_from turn (suc n) i s = fold_from turn n (i + 1) (turn i s)

module _ {S : Type 0} (turn : ℕ → S → S) (all s : S) (n i : ℕ) (v : fold_from turn (n - i) i s ≡ all) where
  pub fold_turns : (t : S) → i < n → t ≡ turn i s → fold_from turn (n - (i + 1)) (i + 1) t ≡ all
  unfolding fold_from
  fold_turns t h e = rw e (rw (left_one n i h) at v)

  pub fold_ends : n ≤ i → s ≡ all
  unfolding fold_from
  fold_ends h = rw (left_none n i h) at v

module _ {S : Type 0} (turn : ℕ → S → S) where
  -- some turns, then the others
  pub fold_parts : (n m i : ℕ) (s : S) → fold_from turn (n + m) i s ≡ fold_from turn m (i + n) (fold_from turn n i s)
  unfolding fold_from
  fold_parts zero m i s =
      let e : zero + m ≡ m = omega arith in
      let f : i + zero ≡ i = omega arith in
      rw (e, f)
  fold_parts (suc n) m i s =
      let e : suc n + m ≡ suc (n + m) = omega arith in
      let f : i + suc n ≡ i + 1 + n = omega arith in
      rw (e, f) (fold_parts n m (i + 1) (turn i s))
