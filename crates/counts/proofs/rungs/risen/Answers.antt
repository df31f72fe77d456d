-- The answers for `risen`.
use mathlib.Core.Path.{◌≡◌, refl, ◌∙◌}
use mathlib.Core.List.{List}
use Prim.Native.Nat.{ℕ, ◌-◌, ◌≤◌}
use native.Mathlib.Omega.{arith}
use lib.Ieee.{Float}
use Rattle.num.specs.Fold.{fold_turns, fold_ends}
use Rattle.counts.specs.declared.share.Rising.{Rising}
use Rattle.counts.specs.Share.{rising_from, risen_of}
use Rattle.counts.specs.Rungs.{rung_at, Held, rising_on}
use Rattle.counts.proofs.rungs.risen.Goals as goal

-- from a rung that is held
module _ (shape : Float) (top : ℕ) (l : List Rising) (h : Held shape top l) (k : ℕ) (b : k ≤ top) where
  begins : (n : ℕ) (s : Rising) → k ≤ n → s ≡ rung_at l k → rising_from shape (n - k) k s ≡ risen_of shape n
  begins n s a e = rw (e ∙ h.holds k b) (rising_on shape n k a)

pub loop-k-init : goal.loop-k-init
loop-k-init c =
    let least = c.min-first.ensures in
    begins _ _ _ c.requires _ (omega (arith, least)) _ _ (omega (arith, least)) refl

pub loop-k-preserved : goal.loop-k-preserved
loop-k-preserved c = search fold_turns

pub returns : goal.returns
returns c = search fold_ends
