-- How many evaluations the goal and the tails make at most, whatever their values: `AtMost k w` says that w never makes more than k.
use Prim.Native.Nat.{ℕ, zero, suc, ◌+◌}
use Rattle.std.specs.Prelude.{Option, Float}
use Rattle.work.specs.Work.{◌>>=◌}
use Rattle.work.specs.AtMost.{AtMost, rets, stops, asks, either, both}
use Rattle.posterior.specs.declared.side.Side.{Side}
use Rattle.posterior.specs.declared.side.Side.TheVariants.{Left, Right}
use Rattle.posterior.specs.Integrand.{Eval}
use Rattle.tail.specs.declared.Hill.{Hill}
use Rattle.tail.specs.Tail.{within_of, both_closed_of, bound_after_of, step_out, walk, span, goal}

module _ (here : Float → Eval) where
  -- the tails' goal: at most 2
  pub goal_at_most : (mode log delta : Float) → AtMost 2 (goal here mode log delta)
  unfolding goal ◌>>=◌
  goal_at_most mode log delta = asks (λ l. asks (λ r. rets))

  -- n steps outward make at most n
  pub walk_at_most : (h : Hill) (side : Side) (n j : ℕ) (z : Float) (b : Option Float) → AtMost n (walk here h side n j z b)
  unfolding walk ◌>>=◌
  walk_at_most h side zero j z b = rets
  walk_at_most h side (suc n) j z b =
      asks (λ v. either (within_of (bound_after_of h side b z v.log v.slope) h.goal) rets (walk_at_most h side n (j + 1) (step_out h side j) (bound_after_of h side b z v.log v.slope)))

  -- both tails: at most 60
  pub span_at_most : (h : Hill) → AtMost 60 (span here h)
  unfolding span
  span_at_most h = both 30 (walk_at_most h Left 30 0 _ _) (λ l. both 0 (walk_at_most h Right 30 0 _ _) (λ r. either (both_closed_of l.bound r.bound h.goal) rets stops))
