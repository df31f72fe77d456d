-- Sixteen places filled in order. A loop that fills them: the values written, with those still to come, are all. What stands at a place; values that agree.
use Rattle.std.specs.Prelude.{◌≡◌, set}
use Rattle.std.proofs.Math.Path.{refl}
use Rattle.std.proofs.Common.{sym, add-zero, zero-add, not-suc-le-zero, le_of_suc-le-suc, add-one, take-suc-set}
use mathlib.Core.List.{List, [], ◌∷◌, ◌++◌, append_assoc, append-nil}
use Prim.Native.Nat.{ℕ, zero, suc, ◌+◌, ◌-◌, ◌≤◌, ◌<◌}
use native.Mathlib.Omega.{arith}
use Rattle.std.proofs.Math.ListN.{length, take, get_or}
use Rattle.std.proofs.Math.Seq.{take_all, ext_get_or}
use Rattle.num.specs.Left.{left_one, left_none}
use Rattle.num.specs.Values.{values}

module _ {A : Type 0} (g : ℕ → A) (all v : List A) (i : ℕ) (n : length v ≡ 16) (h : take i v ++ values g (16 - i) i ≡ all) where
  pub turns : (p : A) → i < 16 → p ≡ g i → take (i + 1) (set v i p) ++ values g (16 - (i + 1)) (i + 1) ≡ all
  unfolding values
  turns p l e =
      let b : i < length v = omega arith in
      let t : take (i + 1) (set v i p) ≡ take i v ++ (p ∷ []) = rw (add-one i) (take-suc-set v i p b) in
      rw (t, append_assoc, e) (rw (left_one 16 i l) at h)

  pub ends : 16 ≤ i → v ≡ all
  unfolding values
  ends l = let b : length v ≤ i = omega arith in rw (left_none 16 i l, append-nil, take_all i v b) at h

module _ {A : Type 0} where
  standing : (g : ℕ → A) (n i j : ℕ) (d : A) → j < n → get_or (values g n i) j d ≡ g (i + j)
  unfolding values
  standing g zero i j d h = absurd (not-suc-le-zero h)
  standing g (suc n) i zero d h = rw (add-zero i)
  standing g (suc n) i (suc j) d h = let e : i + 1 + j ≡ i + suc j = omega arith in rw (← e) (standing g n (i + 1) j d (le_of_suc-le-suc h))

  -- what stands at place j
  pub at_place : (g : ℕ → A) (j : ℕ) (d : A) → j < 16 → get_or (values g 16 0) j d ≡ g j
  at_place g j d h = rw (zero-add j) at (standing g 16 0 j d h)

  agree : (f g : ℕ → A) (n i : ℕ) → ((j : ℕ) → j < i + n → f j ≡ g j) → values f n i ≡ values g n i
  unfolding values
  agree f g zero i h = refl
  agree f g (suc n) i h = rw (h i (omega arith), agree f g n (i + 1) (λ j l. h j (omega arith)))

  -- functions that agree at sixteen places give the same values
  pub same_values : (f g : ℕ → A) → ((j : ℕ) → j < 16 → f j ≡ g j) → values f 16 0 ≡ values g 16 0
  same_values f g h = agree f g 16 0 h

  -- sixteen values are their own
  pub own_values : (v : List A) (d : A) → length v ≡ 16 → values (λ i. get_or v i d) 16 0 ≡ v
  unfolding values
  own_values v d n = ext_get_or d (values (λ i. get_or v i d) 16 0) v (sym n) (λ i l. at_place (λ i. get_or v i d) i d l)

-- a loop fills v with all the values of g, and stands at place i
abbrev pub Filling : {A : Type 0} → (ℕ → A) → List A → List A → ℕ → Type 0
Filling g all v i = (length v ≡ 16) × (take i v ++ values g (16 - i) i ≡ all)
