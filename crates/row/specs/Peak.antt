-- The mode of a litter's posterior, and how far out its integral is taken.
use Rattle.std.specs.Prelude.{Float}
use Rattle.num.specs.F64.{◌⊘◌, one·}
use Rattle.root.specs.Steps.{sqrt_of}
use Rattle.work.specs.Work.{Work, ◌>>=◌}
use Rattle.posterior.specs.declared.integrand.Posterior.{Posterior}
use Rattle.posterior.specs.declared.integrand.Point.{Point}
use Rattle.posterior.specs.declared.side.Ends.{Ends}
use Rattle.mode.specs.declared.Mode.{Mode}
use Rattle.tail.specs.declared.Hill.{Hill}
use Rattle.posterior.specs.Integrand.{Eval}
use Rattle.mode.specs.Bracket.{ends, check_ends}
use Rattle.mode.specs.Mode.{peak}
use Rattle.tail.specs.Tail.{goal, span}

unfoldable pub peaked : (Float → Eval) → Work Eval Point Mode
peaked here = do
  e ← ends here
  c ← check_ends here e
  peak here c.left c.right

-- the scale of the hill: 1 / √curvature
abbrev pub scale_of : Float → Float
scale_of curvature = one· ⊘ sqrt_of curvature

abbrev pub hill_of : Posterior → Float → Float → Float → Float → Hill
hill_of p mode log delta goal = record { p = p; mode = mode; log = log; delta = delta; goal = goal }

unfoldable pub spanned : (Float → Eval) → Posterior → Float → Float → Float → Work Eval Point Ends
spanned here p mode log delta = do
  g ← goal here mode log delta
  span here (hill_of p mode log delta g)
