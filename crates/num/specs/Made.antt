-- An array that `array::from_fn` makes by sixteen calls holds the values of the function that each call computes.
use Rattle.std.specs.Prelude.{◌≡◌, ℕ, zero, suc, ◌+◌, ◌<◌, ◌≤◌, List, get_or}
use Rattle.std.proofs.Math.Path.{refl, subst}
use Rattle.std.proofs.Common.{sym, ◌∙◌, add-zero, zero-add}
use native.Mathlib.Omega.{arith}
use denote.Param.Members.{Mut, Called}
use Rattle.std.proofs.Math.Seq.{ext_get_or}
use Rattle.std.specs.Array.{IsFromFnResultFrom, IsFromFnResult}
use Rattle.num.specs.Values.{values}
use Rattle.num.specs.Filled.{at_place}

module _ {F B : Type 0} (g : Mut F (ℕ × Unit {0}) B) (f : F) (h : ℕ → B) (each : (i : ℕ) (y : B) (q : F) → i < 16 → Called g f (i, tt) y q → (y ≡ h i) × (q ≡ f)) where
  made_at : (ys : List B) (n i k : ℕ) (s : F) (d : B) → s ≡ f → i + n ≤ 16 → IsFromFnResultFrom g s ys i n → k < n → get_or ys (i + k) d ≡ h (i + k)
  made_at ys zero i k s d e l r b = absurd (omega arith)
  made_at ys (suc n) i zero s d e l r b =
      let one = each i r.1 r.0 (omega arith) (subst (λ (p : F). Called g p (i, tt) r.1 r.0) e r.3) in rw (add-zero i) (r.2.1 d ∙ one.0)
  made_at ys (suc n) i (suc k) s d e l r b =
      let one = each i r.1 r.0 (omega arith) (subst (λ (p : F). Called g p (i, tt) r.1 r.0) e r.3) in
      let at : i + suc k ≡ i + 1 + k = omega arith in
      rw at (made_at ys n (i + 1) k r.0 d one.1 (omega arith) r.4 (omega arith))

  pub made : (ys : List B) → IsFromFnResult g f ys 16 → ys ≡ values h 16 0
  unfolding values
  made ys r =
      let d = r.each.1 in
      ext_get_or d ys (values h 16 0) r.long (λ k l.
      let b : k < 16 = omega (arith, l, r.long) in
      rw (zero-add k) at (made_at ys 16 0 k f d refl (omega arith) r.each b) ∙ sym (at_place h k d b))
