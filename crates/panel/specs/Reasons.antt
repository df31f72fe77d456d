-- A rule's sums are never stopped by themselves, whatever the evaluations' values.
use Rattle.std.specs.Prelude.{List, Float}
use Prim.Native.Nat.{ℕ, zero, suc, ◌+◌}
use Rattle.work.specs.Ended.{Why}
use Rattle.work.specs.Work.{◌>>=◌}
use Rattle.work.specs.Stops.{Stops, answers, hears, passed}
use Rattle.legendre.specs.declared.Pair.{Pair}
use Rattle.posterior.specs.Integrand.{Eval}
use Rattle.panel.specs.declared.Hump.{Hump}
use Rattle.panel.specs.Panel.{nodes, panels, sides, no_sums}

module _ (P : Why → Type 0) (here : Float → Eval) (rule : List Pair) where
  nodes_reasons : (top center width : Float) (n i : ℕ) (s : List Float) → Stops P (nodes here rule top center width n i s)
  unfolding nodes ◌>>=◌
  nodes_reasons top center width zero i s = answers
  nodes_reasons top center width (suc n) i s = hears (λ v. nodes_reasons top center width n (i + 1) _)

  panels_reasons : (top a width : Float) (n i : ℕ) (s : List Float) → Stops P (panels here rule top a width n i s)
  unfolding panels
  panels_reasons top a width zero i s = answers
  panels_reasons top a width (suc n) i s = passed (nodes_reasons top _ width 16 0 s) (λ t. panels_reasons top a width n (i + 1) t)

  pub sides_reasons : (h : Hump) (m : ℕ) → Stops P (sides here rule h m)
  unfolding sides
  sides_reasons h m = passed (panels_reasons _ _ _ m 0 no_sums) (λ s. panels_reasons _ _ _ m 0 s)
