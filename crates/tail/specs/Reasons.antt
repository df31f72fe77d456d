-- The goal and the tails stop by themselves for a reason from 1 to 5 alone (3), whatever the evaluations' values.
use Prim.Native.Nat.{ℕ, zero, suc, ◌+◌}
use Rattle.std.proofs.Math.Dec.{lit≤}
use Rattle.std.specs.Prelude.{Option, Float}
use Rattle.work.specs.Ended.{domain}
use Rattle.work.specs.Work.{◌>>=◌}
use Rattle.work.specs.Stops.{Stops, answers, refuses, hears, chosen, passed, Reasoned}
use Rattle.posterior.specs.declared.side.Side.{Side}
use Rattle.posterior.specs.declared.side.Side.TheVariants.{Left, Right}
use Rattle.posterior.specs.Integrand.{Eval}
use Rattle.tail.specs.declared.Hill.{Hill}
use Rattle.tail.specs.Tail.{within_of, both_closed_of, bound_after_of, step_out, walk, span, goal}

module _ (here : Float → Eval) where
  pub goal_reasons : (mode log delta : Float) → Stops (Reasoned 5) (goal here mode log delta)
  unfolding goal ◌>>=◌
  goal_reasons mode log delta = hears (λ l. hears (λ r. answers))

  walk_reasons : (h : Hill) (side : Side) (n j : ℕ) (z : Float) (b : Option Float) → Stops (Reasoned 5) (walk here h side n j z b)
  unfolding walk ◌>>=◌
  walk_reasons h side zero j z b = answers
  walk_reasons h side (suc n) j z b =
      hears (λ v. chosen (within_of (bound_after_of h side b z v.log v.slope) h.goal) answers (walk_reasons h side n (j + 1) (step_out h side j) (bound_after_of h side b z v.log v.slope)))

  pub span_reasons : (h : Hill) → Stops (Reasoned 5) (span here h)
  unfolding span
  span_reasons h =
      passed (walk_reasons h Left 30 0 _ _) (λ l. passed (walk_reasons h Right 30 0 _ _) (λ r. chosen (both_closed_of l.bound r.bound h.goal) answers (refuses {r = domain 3} (lit≤ tt, lit≤ tt))))
