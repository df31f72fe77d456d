-- How many evaluations one rule makes at most, whatever their values: `AtMost k w` says that w never makes more than k.
use Rattle.std.specs.Prelude.{List, Float}
use Prim.Native.Nat.{ℕ, zero, suc, ◌+◌, ◌*◌}
use Rattle.std.proofs.Common.{suc-mul}
use Rattle.std.proofs.Math.Nat.{add_comm}
use Rattle.work.specs.Work.{◌>>=◌}
use Rattle.work.specs.AtMost.{AtMost, rets, asks, both}
use Rattle.legendre.specs.declared.Pair.{Pair}
use Rattle.posterior.specs.Integrand.{Eval}
use Rattle.panel.specs.declared.Hump.{Hump}
use Rattle.panel.specs.Panel.{nodes, panels, sides, no_sums}

module _ (here : Float → Eval) (rule : List Pair) where
  -- n nodes make at most n
  pub nodes_at_most : (top center width : Float) (n i : ℕ) (s : List Float) → AtMost n (nodes here rule top center width n i s)
  unfolding nodes ◌>>=◌
  nodes_at_most top center width zero i s = rets
  nodes_at_most top center width (suc n) i s = asks (λ v. nodes_at_most top center width n (i + 1) _)

  -- n panels: sixteen each
  pub panels_at_most : (top a width : Float) (n i : ℕ) (s : List Float) → AtMost (n * 16) (panels here rule top a width n i s)
  unfolding panels
  panels_at_most top a width zero i s = rets
  panels_at_most top a width (suc n) i s = rw (suc-mul n 16, add_comm (n * 16) 16) (both (n * 16) (nodes_at_most top _ width 16 0 s) (λ t. panels_at_most top a width n (i + 1) t))

  -- both sides with m panels each: 32 m
  pub sides_at_most : (h : Hump) (m : ℕ) → AtMost (m * 16 + m * 16) (sides here rule h m)
  unfolding sides
  sides_at_most h m = both (m * 16) (panels_at_most _ _ _ m 0 no_sums) (λ s. panels_at_most _ _ _ m 0 s)
