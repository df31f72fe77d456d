-- The answers for `powi`.
use mathlib.Core.Path.{◌≡◌, refl, sym, ◌∙◌}
use mathlib.Core.Bool.{cond}
use Prim.Native.Nat.{ℕ, zero, suc, ◌/◌, ◌%◌, ◌^◌, ◌<◌}
use native.Mathlib.Omega.{arith}
use native.Mathlib.Numerals.{add-one}
use borrow.Author.Tests.{ne_eqb}
use lib.Dec.{eqb}
use lib.Ieee.{Float}
use lib.Pow.{shr_lt}
use Rattle.num.specs.F64.{◌⊗◌}
use Rattle.num.specs.Helpers.{powi_from, powi_of}
use Rattle.num.proofs.powi.Invariants.{Left}
use Rattle.num.proofs.powi.Goals as goal
use Rattle.num.proofs.powi.Goals.{then-odd, else-odd}

no_bits : (n : ℕ) (square r : Float) → powi_from n square 0 r ≡ r
unfolding powi_from
no_bits zero square r = refl
no_bits (suc n) square r = no_bits n (square ⊗ square) r

turn : (whole square r : Float) (left n : ℕ) → 0 < left → left < 2 ^ n → powi_from n square left r ≡ whole → Left whole (square ⊗ square) (left / 2) (cond (eqb (left % 2) 1) (r ⊗ square) r)
unfolding powi_from
turn whole square r left zero h e m = let z : left < 1 = e in absurd (omega arith)
turn whole square r left (suc n) h e m = record { turns = n; enough = shr_lt n 1 (rw (← add-one n) at e); makes = m }

pub loop-left-init : goal.loop-left-init
unfolding powi_of
loop-left-init c = record { turns = 32; enough = omega arith; makes = refl }

pub loop-left-preserved : goal.loop-left-preserved
loop-left-preserved c =
    let i = c.loop-left.invariant in
    let t = turn _ _ _ _ i.turns c.loop-left-test.true i.enough i.makes in
    elim c.if-odd.branch [ then-odd w ↦ rw w.r-is (rw w.if-odd.true at t) | else-odd w ↦ rw w.r-is (rw (ne_eqb _ 1 w.if-odd.false) at t) ]

pub returns : goal.returns
returns c = let i = c.loop-left.invariant in let z : c.loop-left.left ≡ 0 = omega arith in sym (no_bits i.turns _ _) ∙ (rw z at i.makes)
