-- How many evaluations the bracket and the mode make at most, whatever their values: `AtMost k w` says that w never makes more than k.
use Prim.Native.Nat.{ℕ, zero, suc}
use Rattle.std.specs.Prelude.{Float}
use Rattle.std.specs.Float.Ieee.{lt, le}
use Rattle.num.specs.F64.{◌⊗◌, zero·, two·}
use Rattle.num.specs.Helpers.{abs_of}
use Rattle.work.specs.Work.{◌>>=◌}
use Rattle.work.specs.AtMost.{AtMost, rets, stops, asks, either, both}
use Rattle.posterior.specs.declared.side.Ends.{Ends}
use Rattle.posterior.specs.declared.side.Side.{Side}
use Rattle.posterior.specs.declared.side.Side.TheVariants.{Left, Right}
use Rattle.posterior.specs.Side.{first_of, rises_of, flat_of}
use Rattle.posterior.specs.Integrand.{Eval}
use Rattle.mode.specs.declared.Guess.{Guess}
use Rattle.mode.specs.Bracket.{doubled, ends, check_ends}
use Rattle.mode.specs.Mode.{allowed_of, steps_tolerance, mode_tolerance, narrowed_of, start_of, passes, confirmed, peak}

module _ (here : Float → Eval) where
  -- n doublings make at most n evaluations
  pub doubled_at_most : (side : Side) (n : ℕ) (z : Float) → AtMost n (doubled here side n z)
  unfolding doubled ◌>>=◌
  doubled_at_most side zero z = rets
  doubled_at_most side (suc n) z = asks (λ v. either (rises_of side v.slope) rets (doubled_at_most side n (z ⊗ two·)))

  -- the bracket's two ends: at most 32
  pub ends_at_most : AtMost 32 (ends here)
  unfolding ends
  ends_at_most = both 16 (doubled_at_most Left 16 (first_of Left)) (λ lo. both 0 (doubled_at_most Right 16 (first_of Right)) (λ hi. rets))

  -- the check of both ends: at most 2
  pub check_ends_at_most : (e : Ends) → AtMost 2 (check_ends here e)
  unfolding check_ends ◌>>=◌
  check_ends_at_most e = asks (λ v. either (flat_of Left v.slope) stops (asks (λ u. either (flat_of Right u.slope) stops rets)))

  -- n of Newton's steps make at most n
  pub passes_at_most : (n : ℕ) (g : Guess) → AtMost n (passes here n g)
  unfolding passes ◌>>=◌
  passes_at_most zero g = rets
  passes_at_most (suc n) g = asks (λ v. either (le (abs_of v.slope) (allowed_of steps_tolerance g.at)) rets (passes_at_most n (narrowed_of g v.slope v.curvature)))

  -- the mode is confirmed by 1
  pub confirmed_at_most : (z : Float) → AtMost 1 (confirmed here z)
  unfolding confirmed ◌>>=◌
  confirmed_at_most z = asks (λ v. either (lt (allowed_of mode_tolerance z) (abs_of v.slope)) stops (either (le v.curvature zero·) stops rets))

  -- the mode inside its bracket: at most 101
  pub peak_at_most : (lo hi : Float) → AtMost 101 (peak here lo hi)
  unfolding peak
  peak_at_most lo hi = both 1 (passes_at_most 100 (start_of lo hi)) (λ z. confirmed_at_most z)
