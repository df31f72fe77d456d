-- The answers for `fill`.
use mathlib.Core.Path.{◌≡◌, ◌∙◌}
use mathlib.Core.List.{List}
use Prim.Native.Nat.{ℕ, ◌+◌, ◌≤◌, ◌<◌}
use native.Mathlib.Omega.{arith}
use lib.ListN.{length, set}
use lib.Ieee.{Float}
use Rattle.num.specs.Fold.{fold_from}
use Rattle.counts.specs.declared.share.Rising.{Rising}
use Rattle.counts.specs.Share.{no_rising, term_at, passed_of, risen_of}
use Rattle.counts.specs.Rungs.{Held, held_none, held_next, rising_next}
use borrow.Author.Rules.{rules}
use Rattle.counts.proofs.rungs.fill.Invariants.{Filled}
use Rattle.counts.proofs.rungs.fill.Goals as goal

begins : (shape : Float) (top : ℕ) (l m : List Rising) (s : Rising) → top ≤ 63 → length l ≡ 64 → s ≡ no_rising → m ≡ set l 0 s → Filled shape top m s 0
unfolding fold_from risen_of
begins shape top l m s a n z e = record { few = a; within = omega arith; held = held_none shape l m s z n e; sums = z }

module _ (shape : Float) (top : ℕ) (l : List Rising) (s : Rising) (k : ℕ) (f : Filled shape top l s k) where
  turns : (t : Rising) (m : List Rising) → k < top → t ≡ passed_of s (term_at shape k) → m ≡ set l (k + 1) t → Filled shape top m t (k + 1)
  turns t m h e g =
      let r : t ≡ risen_of shape (k + 1) = e ∙ rw f.sums (rising_next shape k) in
      record { few = f.few; within = omega arith; held = held_next shape l m t k f.held r (omega (arith, f.few)) g; sums = r }

  ends : top ≤ k → Held shape top l
  ends h = let e : k ≡ top = omega (arith, f.within) in rw e at f.held

pub loop-k-init : goal.loop-k-init
loop-k-init c = search (begins, rules)

pub loop-k-preserved : goal.loop-k-preserved
loop-k-preserved c = search turns

pub returns : goal.returns
returns c = search ends
