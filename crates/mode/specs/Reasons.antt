-- The bracket and the mode stop by themselves for a reason from 1 to 5 alone (1 and 2), whatever the evaluations' values.
use Prim.Native.Nat.{ℕ, zero, suc}
use Rattle.std.proofs.Math.Dec.{lit≤}
use Rattle.std.specs.Prelude.{Float}
use Rattle.std.specs.Float.Ieee.{lt, le}
use Rattle.num.specs.F64.{◌⊗◌, zero·, two·}
use Rattle.num.specs.Helpers.{abs_of}
use Rattle.work.specs.Ended.{domain}
use Rattle.work.specs.Work.{◌>>=◌}
use Rattle.work.specs.Stops.{Stops, answers, refuses, hears, chosen, passed, Reasoned}
use Rattle.posterior.specs.declared.side.Ends.{Ends}
use Rattle.posterior.specs.declared.side.Side.{Side}
use Rattle.posterior.specs.declared.side.Side.TheVariants.{Left, Right}
use Rattle.posterior.specs.Side.{first_of, rises_of, flat_of}
use Rattle.posterior.specs.Integrand.{Eval}
use Rattle.mode.specs.declared.Guess.{Guess}
use Rattle.mode.specs.Bracket.{doubled, ends, check_ends}
use Rattle.mode.specs.Mode.{allowed_of, steps_tolerance, mode_tolerance, narrowed_of, start_of, passes, confirmed, peak}

module _ (here : Float → Eval) where
  doubled_reasons : (side : Side) (n : ℕ) (z : Float) → Stops (Reasoned 5) (doubled here side n z)
  unfolding doubled ◌>>=◌
  doubled_reasons side zero z = answers
  doubled_reasons side (suc n) z = hears (λ v. chosen (rises_of side v.slope) answers (doubled_reasons side n (z ⊗ two·)))

  pub ends_reasons : Stops (Reasoned 5) (ends here)
  unfolding ends
  ends_reasons = passed (doubled_reasons Left 16 (first_of Left)) (λ lo. passed (doubled_reasons Right 16 (first_of Right)) (λ hi. answers))

  pub check_ends_reasons : (e : Ends) → Stops (Reasoned 5) (check_ends here e)
  unfolding check_ends ◌>>=◌
  check_ends_reasons e =
      hears (λ v. chosen (flat_of Left v.slope) (refuses {r = domain 1} (lit≤ tt, lit≤ tt)) (hears (λ u. chosen (flat_of Right u.slope) (refuses {r = domain 1} (lit≤ tt, lit≤ tt)) answers)))

  passes_reasons : (n : ℕ) (g : Guess) → Stops (Reasoned 5) (passes here n g)
  unfolding passes ◌>>=◌
  passes_reasons zero g = answers
  passes_reasons (suc n) g = hears (λ v. chosen (le (abs_of v.slope) (allowed_of steps_tolerance g.at)) answers (passes_reasons n (narrowed_of g v.slope v.curvature)))

  confirmed_reasons : (z : Float) → Stops (Reasoned 5) (confirmed here z)
  unfolding confirmed ◌>>=◌
  confirmed_reasons z =
      hears (λ v. chosen (lt (allowed_of mode_tolerance z) (abs_of v.slope)) (refuses {r = domain 2} (lit≤ tt, lit≤ tt)) (chosen (le v.curvature zero·) (refuses {r = domain 2} (lit≤ tt, lit≤ tt)) answers))

  pub peak_reasons : (lo hi : Float) → Stops (Reasoned 5) (peak here lo hi)
  unfolding peak
  peak_reasons lo hi = passed (passes_reasons 100 (start_of lo hi)) (λ z. confirmed_reasons z)
