-- The descent of the source in two coordinates: its point, projection, norm, direction and candidate.
use Rattle.std.specs.Prelude.{Bool, cond, ◌&&◌, ◌||◌, not, [], ◌∷◌, ℕ, Float}
use Rattle.std.specs.Float.Ieee.{neg, le, eq}
use Rattle.num.specs.F64.{◌⊕◌, ◌⊖◌, ◌⊗◌, zero·}
use Rattle.num.specs.Helpers.{abs_of, max_of, clamp_of, is_finite_of, sum_of}
use Rattle.descent.specs.Descent.{Problem}
use Rattle.planar.specs.declared.Planar.{Planar}
use Rattle.step.specs.declared.Move.{Move}
use Rattle.step.specs.Step.{project_at_of, held_of, newton_of, alone_of}

pub record Spot : Type 0 where
  pub x : Float
  pub y : Float

-- what a descent keeps to
pub record Course : Type 0 where
  pub low : Spot
  pub high : Spot
  pub tolerance : Float
  pub most : ℕ
  pub turns : ℕ

unfoldable pub projected_of : Spot → Planar → Spot → Spot → Spot
projected_of s v low high = record { x = project_at_of s.x v.x low.x high.x; y = project_at_of s.y v.y low.y high.y }

unfoldable pub norm_of : Spot → Float
norm_of g = max_of (abs_of g.x) (abs_of g.y)

-- Newton's step; where a coordinate is held by its bound the other steps alone
abbrev pub step_of : Spot → Spot → Planar → Spot → Spot → Move
step_of s g v low high =
    alone_of (held_of s.x g.x low.x high.x) (held_of s.y g.y low.y high.y) v.xx v.yy g.x g.y (newton_of v.xx v.yy v.xy g.x g.y)

-- a direction that is not finite or not downhill gives way to steepest descent
abbrev pub poor : Spot → Move → Bool
poor g m = not (is_finite_of m.mean && is_finite_of m.variance) || le zero· (m.mean ⊗ g.x ⊕ m.variance ⊗ g.y)

unfoldable pub safe_of : Spot → Move → Move
safe_of g m = cond (poor g m) (record { mean = neg g.x; variance = neg g.y }) m

abbrev pub direction_of : Spot → Planar → Spot → Spot → Move
direction_of s v low high = let g = projected_of s v low high in safe_of g (step_of s g v low high)

unfoldable pub candidate_of : Spot → Move → Float → Spot → Spot → Spot
candidate_of s d alpha low high = record { x = clamp_of (s.x ⊕ alpha ⊗ d.mean) low.x high.x; y = clamp_of (s.y ⊕ alpha ⊗ d.variance) low.y high.y }

unfoldable pub slope_of : Planar → Spot → Spot → Float
slope_of v next s = sum_of (v.x ⊗ (next.x ⊖ s.x) ∷ v.y ⊗ (next.y ⊖ s.y) ∷ [])

unfoldable pub still_of : Spot → Spot → Bool
still_of next s = eq next.x s.x && eq next.y s.y

abbrev pub plane_of : Course → Problem Spot Planar Move
plane_of p =
    record {
      nll = λ v. v.nll;
      norm = λ s v. norm_of (projected_of s v p.low p.high);
      direction = λ s v. direction_of s v p.low p.high;
      candidate = λ s d alpha. candidate_of s d alpha p.low p.high;
      slope = λ s v next. slope_of v next s;
      still = still_of;
      tolerance = p.tolerance;
      most = p.most;
      turns = p.turns;
    }
