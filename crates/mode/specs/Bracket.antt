-- The mode's bracket: each end is doubled outward until the density rises from there, at most sixteen times, then both ends are checked.
use Rattle.std.specs.Prelude.{cond, ℕ, zero, suc, Float}
use Rattle.num.specs.F64.{◌⊗◌, two·}
use Rattle.work.specs.Ended.{domain}
use Rattle.work.specs.Work.{Work, ret, stop, eval, ◌>>=◌}
use Rattle.posterior.specs.declared.side.Ends.{Ends}
use Rattle.posterior.specs.declared.side.Side.{Side}
use Rattle.posterior.specs.declared.side.Side.TheVariants.{Left, Right}
use Rattle.posterior.specs.declared.integrand.Point.{Point}
use Rattle.posterior.specs.Side.{first_of, rises_of, flat_of}
use Rattle.posterior.specs.Integrand.{Eval}

-- at most n doublings more, from z
unfoldable pub doubled : (Float → Eval) → Side → ℕ → Float → Work Eval Point Float
doubled here side zero z = ret z
doubled here side (suc n) z = do
  v ← eval (here z)
  cond (rises_of side v.slope) (ret z) (doubled here side n (z ⊗ two·))

unfoldable pub ends : (Float → Eval) → Work Eval Point Ends
ends here = do
  lo ← doubled here Left 16 (first_of Left)
  hi ← doubled here Right 16 (first_of Right)
  ret (record { left = lo; right = hi })

-- reason 1, mode not bracketed: the density does not rise from an end; the second is asked only where the first is in order
unfoldable pub check_ends : (Float → Eval) → Ends → Work Eval Point Ends
check_ends here e = do
  v ← eval (here e.left)
  cond (flat_of Left v.slope) (stop (domain 1)) (do
    u ← eval (here e.right)
    cond (flat_of Right u.slope) (stop (domain 1)) (ret e))
